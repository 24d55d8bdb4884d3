-- The reads and the writes of a run, and the states of its reader and its writer.
use Rattle.std.specs.Prelude.{◌≡◌, ℕ, ⊤, ◌+◌, ◌<◌, Bool, true, false, List, length, Result, Ok, Err}
use Rattle.std.specs.IoError.{error_kind}
use Rattle.std.specs.declared.io.Error.{Error}
use Rattle.std.specs.declared.io.ErrorKind.TheVariants.{Interrupted}
use Rattle.caltool.specs.declared.fault.Fault.{Fault}
use Rattle.caltool.specs.declared.fault.Fault.TheVariants.{TooLong, Read, Write}

-- A run retries at most 4096 interrupted reads, and as many writes.
abbrev pub most_retries : ℕ
most_retries = 4096

-- An error is final if it is not an interruption, or no retry is left.
abbrev pub IsFinal : ℕ → Error → Type 0
IsFinal retries error = error_kind error ≡ Interrupted → retries ≡ 0

-- `call s result t` is a call in state s that returns this result and leaves the state t.
module _ {S : Type 0} (call : S → Result ℕ Error → S → Type 0) (IsEnough : ℕ → Type 0) where
  -- Calls that follow each other. Only an interrupted call is made again, which uses a retry. After
  -- an error, or a result that is not enough, no call is made, and the calls have failed. The
  -- numbers are the retries before and after the calls.
  pub data Calls : ℕ → S → Bool → ℕ → S → Type 0 where
    no_more : (retries : ℕ) (s : S) → Calls retries s false retries s
    done : (retries left n : ℕ) (s t end : S) (failed : Bool) → IsEnough n → call s (Ok n) t → Calls retries t failed left end
        → Calls retries s failed left end
    again : (retries left : ℕ) (s t end : S) (failed : Bool) (error : Error) → error_kind error ≡ Interrupted → call s (Err error) t
        → Calls retries t failed left end → Calls (retries + 1) s failed left end
    too_few : (retries n : ℕ) (s end : S) → ¬ IsEnough n → call s (Ok n) end → Calls retries s true retries end
    fails : (retries : ℕ) (s end : S) (error : Error) → IsFinal retries error → call s (Err error) end → Calls retries s true retries end

-- Reads may return any number of bytes.
abbrev pub Reads : {S : Type 0} → (S → Result ℕ Error → S → Type 0) → ℕ → S → Bool → ℕ → S → Type 0
Reads read = Calls read (λ n. ⊤)

-- Writes have some bytes, and take one byte or more.
abbrev pub Writes : {S : Type 0} → (S → List ℕ → Result ℕ Error → S → Type 0) → ℕ → S → Bool → ℕ → S → Type 0
Writes write = Calls (λ s result t. (bytes : List ℕ) × (0 < length bytes) × write s bytes result t) (λ n. 0 < n)

-- The outcome is a failed read.
abbrev pub has_read_failure : {T : Type 0} → Result T Fault → Bool
has_read_failure (Ok value) = false
has_read_failure (Err TooLong) = false
has_read_failure (Err Read) = true
has_read_failure (Err Write) = false

-- The outcome is a failed write.
abbrev pub has_write_failure : {T : Type 0} → Result T Fault → Bool
has_write_failure (Ok value) = false
has_write_failure (Err TooLong) = false
has_write_failure (Err Read) = false
has_write_failure (Err Write) = true
