-- The length of the text of a recurrence.
use Rattle.std.specs.Prelude.{ℕ, ◌+◌, ◌≤◌, List, length}

-- The capacity of the text of a recurrence, in bytes.
abbrev pub capacity : ℕ
capacity = 4060

-- After a text there is room for n more bytes.
abbrev pub HasRoom : ℕ → List ℕ → Type 0
HasRoom n text = length text + n ≤ capacity
