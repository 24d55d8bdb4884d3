-- The size of the buffer, and the room for the next reply.
use Rattle.std.specs.Prelude.{ℕ, ◌+◌, ◌≤◌, List, length}

-- The maximum number of bytes in one write.
abbrev pub capacity : ℕ
capacity = 4096

-- The room for a reply.
abbrev pub longest_reply : ℕ
longest_reply = 128

-- The room for a reply without its line end.
abbrev pub longest_answer : ℕ
longest_answer = 127

-- The buffer has room for n more bytes.
abbrev pub HasRoom : ℕ → List ℕ → Type 0
HasRoom n gathered = length gathered + n ≤ capacity
