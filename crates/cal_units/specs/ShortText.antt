-- The capacity of a short text in bytes.
use Rattle.std.specs.Prelude.{ℕ, ◌+◌, ◌≤◌, List, length}

-- The maximum length of a short text, 42 bytes.
abbrev pub capacity : ℕ
capacity = 42

-- The text has room for n more bytes.
abbrev pub HasRoom : ℕ → List ℕ → Type 0
HasRoom n text = length text + n ≤ capacity
