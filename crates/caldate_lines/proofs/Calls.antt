-- How the calls of a run follow one another.
use Rattle.std.proofs.Common.{◌≡◌, ℕ, ◌+◌, ◌<◌, Bool, true, List, [], ◌∷◌, length, Option, None, Some, Err, Ok, Result, arith, sym, subst}
use Rattle.std.specs.declared.io.Error.{Error}
use Rattle.std.specs.declared.io.ErrorKind.{ErrorKind}
use Rattle.caldate_lines.specs.Calls.{Gives, Reads, Sends, Writes, most_retries}
use Rattle.caldate_lines.specs.Calls.Reads.{given, ended, failed as fails}
use Rattle.caldate_lines.specs.Calls.Writes.{no_more, sent, failed}
use Rattle.caldate_lines.specs.Calls.Sends.{all}

-- no bytes are left
pub sends_none : {S : Type 0} (write : S → List ℕ → Result ℕ Error → S → Type 0) (retries : ℕ) (s : S) (bytes : List ℕ) → length bytes ≡ 0
    → Sends write retries s bytes None s
sends_none write retries s [] e = all retries s
sends_none write retries s (byte ∷ bytes) e = absurd (omega arith)

-- no write is made
pub no_writes : {S : Type 0} (write : S → List ℕ → Result ℕ Error → S → Type 0) (s : S) → Writes write s None s
no_writes write s = no_more s

-- writing these bytes is all the writing
pub sent_all : {S : Type 0} (write : S → List ℕ → Result ℕ Error → S → Type 0) (s t : S) (bytes : List ℕ) (outcome : Option ErrorKind)
    → Sends write most_retries s bytes outcome t → Writes write s outcome t
sent_all write s t bytes None sends = sent s t t bytes None sends (no_more t)
sent_all write s t bytes (Some kind) sends = failed s t bytes kind sends

-- no write failed, and others follow
pub writes_then : {S : Type 0} (write : S → List ℕ → Result ℕ Error → S → Type 0) (s t end : S) (outcome : Option ErrorKind)
    → Writes write s None t → Writes write t outcome end → Writes write s outcome end
writes_then write s t end outcome (no_more _) more = more
writes_then write s t end outcome (sent _ mid _ bytes _ sends others) more = sent s mid end bytes outcome sends (writes_then write mid t end outcome others more)

-- ---- reads, of which one more is left than after it
pub reads_given : {S : Type 0} (read : S → Result ℕ Error → S → Type 0) (most left n : ℕ) (s t end : S) (outcome : Bool) → most ≡ left + 1 → 0 < n
    → Gives read most_retries s (Ok n) t → Reads read left t outcome end → Reads read most s outcome end
reads_given read most left n s t end outcome e some gives more = subst (λ most. Reads read most s outcome end) (sym e) (given left n s t end outcome some gives more)

pub reads_ended : {S : Type 0} (read : S → Result ℕ Error → S → Type 0) (most n : ℕ) (s t end : S) (outcome : Bool) → n ≡ 0
    → Gives read most_retries s (Ok n) t → Reads read most t outcome end → Reads read most s outcome end
reads_ended read most n s t end outcome none gives more = ended most s t end outcome (subst (λ n. Gives read most_retries s (Ok n) t) none gives) more

pub reads_failed : {S : Type 0} (read : S → Result ℕ Error → S → Type 0) (most left : ℕ) (s end : S) (error : Error) → most ≡ left + 1
    → Gives read most_retries s (Err error) end → Reads read most s true end
reads_failed read most left s end error e gives = subst (λ most. Reads read most s true end) (sym e) (fails left s end error gives)
