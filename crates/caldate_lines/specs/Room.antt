-- The sizes of the buffers, and the room that is kept for the next reply.
use Rattle.std.specs.Prelude.{ℕ, ◌+◌, ◌≤◌, List, length}

-- The maximum number of bytes that are read but not answered. One write has room for one more: the
-- separator of a new field.
abbrev pub capacity : ℕ
capacity = 65536

-- The maximum length of the text of a line.
abbrev pub longest_text : ℕ
longest_text = 4096

-- The maximum length of an answer, and of an answer as a new field: a separator, two quotes, and
-- each byte doubled. Before an answer is written after a line, there is room for both and for its
-- text.
abbrev pub longest_answer : ℕ
longest_answer = 1000

abbrev pub longest_field : ℕ
longest_field = 2003

-- The maximum length of what goes out for a line: its text, a separator, and four answers as fields.
-- While it is written, a text may come before its answer.
abbrev pub longest_out : ℕ
longest_out = 12109

abbrev pub longest_reply : ℕ
longest_reply = 18300

-- There is room for n more bytes.
abbrev pub HasRoom : ℕ → List ℕ → Type 0
HasRoom n buffered = length buffered + n ≤ capacity + 1
