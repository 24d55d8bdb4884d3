-- The calls of a reader and a writer in a run, from one state to another.
use Rattle.std.specs.Prelude.{◌≡◌, ℕ, ◌+◌, ◌-◌, ◌^◌, ◌<◌, Bool, true, false, List, [], length, drop, Option, Some, None, Result, Ok, Err}
use Rattle.std.specs.IoError.{error_kind}
use Rattle.std.specs.declared.io.Error.{Error}
use Rattle.std.specs.declared.io.ErrorKind.{ErrorKind}
use Rattle.std.specs.declared.io.ErrorKind.TheVariants.{Interrupted, WriteZero}
use Rattle.caldate_lines.specs.declared.run_error.RunError.{RunError}
use Rattle.caldate_lines.specs.declared.run_error.RunError.TheVariants.{Read, Write}

-- The maximum number of interrupted calls that are repeated.
abbrev pub most_retries : ℕ
most_retries = 4096

-- The maximum number of reads in a run that give bytes.
abbrev pub most_reads : ℕ
most_reads = 2 ^ 64 - 1

-- A call with this error is not repeated: it was not interrupted, or no retry is left.
abbrev pub IsFinal : ℕ → Error → Type 0
IsFinal retries error = error_kind error ≡ Interrupted → retries ≡ 0

-- `write s bytes result t`: a write of these bytes returns this result and takes the writer from s
-- to t.
module _ {S : Type 0} (write : S → List ℕ → Result ℕ Error → S → Type 0) where
  -- The writes of these bytes, one after another until none are left. Only an interrupted write is
  -- repeated, which uses a retry. The outcome is why the last write failed, or None if all bytes
  -- were taken.
  pub data Sends : ℕ → S → List ℕ → Option ErrorKind → S → Type 0 where
    all : (retries : ℕ) (s : S) → Sends retries s [] None s
    some : (retries n : ℕ) (s t end : S) (bytes : List ℕ) (outcome : Option ErrorKind) → 0 < n → write s bytes (Ok n) t
        → Sends retries t (drop n bytes) outcome end → Sends retries s bytes outcome end
    again : (retries : ℕ) (s t end : S) (bytes : List ℕ) (error : Error) (outcome : Option ErrorKind) → error_kind error ≡ Interrupted
        → write s bytes (Err error) t → Sends retries t bytes outcome end → Sends (retries + 1) s bytes outcome end
    none : (retries : ℕ) (s end : S) (bytes : List ℕ) → 0 < length bytes → write s bytes (Ok 0) end → Sends retries s bytes (Some WriteZero) end
    fails : (retries : ℕ) (s end : S) (bytes : List ℕ) (error : Error) → 0 < length bytes → IsFinal retries error
        → write s bytes (Err error) end → Sends retries s bytes (Some (error_kind error)) end

  -- All writes of a run. The outcome is why one failed, after which nothing is written, or None.
  pub data Writes : S → Option ErrorKind → S → Type 0 where
    no_more : (s : S) → Writes s None s
    sent : (s t end : S) (bytes : List ℕ) (outcome : Option ErrorKind) → Sends most_retries s bytes None t → Writes t outcome end
        → Writes s outcome end
    failed : (s end : S) (bytes : List ℕ) (kind : ErrorKind) → Sends most_retries s bytes (Some kind) end → Writes s (Some kind) end

-- `read s result t`: a read returns this result and takes the reader from s to t.
module _ {S : Type 0} (read : S → Result ℕ Error → S → Type 0) where
  -- One read, and the interrupted reads before it, each of which is repeated and uses a retry.
  pub data Gives : ℕ → S → Result ℕ Error → S → Type 0 where
    ok : (retries n : ℕ) (s end : S) → read s (Ok n) end → Gives retries s (Ok n) end
    fails : (retries : ℕ) (s end : S) (error : Error) → IsFinal retries error → read s (Err error) end → Gives retries s (Err error) end
    again : (retries : ℕ) (s t end : S) (error : Error) (outcome : Result ℕ Error) → error_kind error ≡ Interrupted → read s (Err error) t
        → Gives retries t outcome end → Gives (retries + 1) s outcome end

  -- All reads of a run, of which at most `most` give bytes. The flag says that one failed, after
  -- which nothing is read, or that one more was needed.
  pub data Reads : ℕ → S → Bool → S → Type 0 where
    no_more : (most : ℕ) (s : S) → Reads most s false s
    given : (most n : ℕ) (s t end : S) (failed : Bool) → 0 < n → Gives most_retries s (Ok n) t → Reads most t failed end → Reads (most + 1) s failed end
    ended : (most : ℕ) (s t end : S) (failed : Bool) → Gives most_retries s (Ok 0) t → Reads most t failed end → Reads most s failed end
    failed : (most : ℕ) (s end : S) (error : Error) → Gives most_retries s (Err error) end → Reads (most + 1) s true end
    too_many : (s : S) → Reads 0 s true s

-- The error kind of a failed write, if the error is one.
abbrev pub kind_of : RunError → Option ErrorKind
kind_of (Write kind) = Some kind
kind_of other = None

-- The error is a failed read.
abbrev pub is_of_read : RunError → Bool
is_of_read Read = true
is_of_read other = false

-- An outcome has the failure of its error.
abbrev pub write_failure : {T : Type 0} → Result T RunError → Option ErrorKind
write_failure (Ok value) = None
write_failure (Err error) = kind_of error

abbrev pub has_read_failure : {T : Type 0} → Result T RunError → Bool
has_read_failure (Ok value) = false
has_read_failure (Err error) = is_of_read error

-- A read of a text in memory takes bytes from its front, and never fails.
abbrev pub Takes : List ℕ → Result ℕ Error → List ℕ → Type 0
Takes old (Ok n) new = length old ≡ n + length new
Takes old (Err error) new = ⊥
