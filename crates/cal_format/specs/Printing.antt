-- What a call writes to a buffer.
use Rattle.std.specs.Prelude.{◌≡◌, ℕ, ◌+◌, ◌≤◌, ◌++◌, ◌↔◌, List, length, take, drop, Option, IsSome, IfSome, IfNone}

-- The bytes are written from this position on if the buffer has room, and the bytes after them stay.
-- The result is their end. Without room, the bytes before this position stay.
pub record Writes (bytes : List ℕ) (at : ℕ) (old new : List ℕ) (r : Option ℕ) : Type 0 where
  pub room : IsSome r ↔ (at + length bytes ≤ length old)
  pub text : IfSome r (λ end. take end new ≡ take at old ++ bytes)
  pub end : IfSome r (λ end. end ≡ at + length bytes)
  pub after : IfSome r (λ end. drop end new ≡ drop end old)
  pub before : IfNone r (take at new ≡ take at old)

-- The text is written to the front if it fits. The result is its length. Otherwise the buffer is
-- unchanged.
pub record PrintsIf (fits : Type 0) (printed old new : List ℕ) (r : Option ℕ) : Type 0 where
  pub room : IsSome r ↔ fits
  pub text : IfSome r (λ end. take end new ≡ printed)
  pub end : IfSome r (λ end. end ≡ length printed)
  pub after : IfSome r (λ end. drop end new ≡ drop end old)
  pub unchanged : IfNone r (new ≡ old)

-- A text fits if the buffer has room, and under a condition.
abbrev pub Prints : List ℕ → List ℕ → List ℕ → Option ℕ → Type 0
Prints text old new r = PrintsIf (length text ≤ length old) text old new r

abbrev pub PrintsUnder : Type 0 → List ℕ → List ℕ → List ℕ → Option ℕ → Type 0
PrintsUnder P text old new r = PrintsIf (P × (length text ≤ length old)) text old new r
