-- The words of the arguments, with zero bytes between them.
use denote.Ref.{Bor}
use Rattle.std.specs.Prelude.{ℕ, ◌+◌, List, length, Option, Some, None}

-- The bytes of the words that are left, and one more if any are.
abbrev pub bytes_left : Option (Bor (List ℕ)) → ℕ
bytes_left None = 0
bytes_left (Some words) = length words.now + 1
