-- Strings of formats.
use Rattle.std.specs.Prelude.{◌≡◌, ℕ, ◌<◌, ◌≤◌, ℤ, List, ◌++◌, length, drop, Bool, IsTrue}
use Rattle.cal_c.specs.declared.status.TheConstants.{OK, UNSUPPORTED_ITEM, BUFFER_TOO_SHORT}
use Rattle.cal_c.specs.declared.formats.results.LengthResult.{LengthResult}

-- ---- the length of a string
-- The result with the length of a string, or with an error.
abbrev pub length_ok : ℕ → LengthResult
length_ok n = record { status = OK; unused = 0; length = n }

abbrev pub length_error : ℤ → LengthResult
length_error s = record { status = s; unused = 0; length = 0 }

-- The buffer is too short for a string of n bytes.
abbrev pub too_short : ℕ → LengthResult
too_short n = record { status = BUFFER_TOO_SHORT; unused = 0; length = n }

-- The call fails, and the buffer stays as it is.
pub record IsUnprinted (old new : List ℕ) (r error : LengthResult) : Type 0 where
  pub result_is : r ≡ error
  pub unchanged : new ≡ old

-- The string is at the front of the buffer, if that has room. The bytes after it stay as they are.
pub record IsWritten (text old new : List ℕ) (r : LengthResult) : Type 0 where
  pub buffer_too_short : length old < length text → IsUnprinted old new r (too_short (length text))
  pub length_is : length text ≤ length old → r ≡ length_ok (length text)
  pub text_is : length text ≤ length old → new ≡ text ++ drop (length text) old

-- The string of a value is written, if the items show only what the value has.
pub record IsPrinted (shown : Bool) (text old new : List ℕ) (r : LengthResult) : Type 0 where
  pub unsupported_item : (IsTrue shown → ⊥) → IsUnprinted old new r (length_error UNSUPPORTED_ITEM)
  pub written : IsTrue shown → IsWritten text old new r
