-- The texts of date-times are ASCII.
use Rattle.std.proofs.Common.{◌≡◌, List, ℕ, ◌++◌, codes, arith, sym, subst}
use Rattle.std.specs.Str.{IsAscii}
use Rattle.std.proofs.lemmas.Str.{IsAscii-append}
use Rattle.std.proofs.lemmas.Str.Ascii.{IsAscii-nil, IsAscii-cons}

space : IsAscii (codes " ")
space = IsAscii-cons 32 (codes "") (omega arith) IsAscii-nil

-- two texts with a space between them
pub spaced : (a b text : List ℕ) → text ≡ a ++ codes " " ++ b → IsAscii a → IsAscii b → IsAscii text
spaced a b text e h k = subst IsAscii (sym e) (IsAscii-append (a ++ codes " ") b (IsAscii-append a (codes " ") h space) k)
