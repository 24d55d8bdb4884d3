-- The capacity of the text of a period in bytes.
use Rattle.std.specs.Prelude.{ℕ, ◌+◌, ◌≤◌, List, length}

-- The maximum length, 80 bytes.
abbrev pub capacity : ℕ
capacity = 80

-- The text has room for n more bytes.
abbrev pub HasRoom : ℕ → List ℕ → Type 0
HasRoom n text = length text + n ≤ capacity
