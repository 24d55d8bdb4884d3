-- The end of the program after a run: its status, and whether it says why.
use Rattle.std.specs.Prelude.{◌≡◌, ◌<◌, ℕ, ◌==◌, Bool, true, false, MatchBool, List, [], length, Option, Result, Ok, Err, if◌then◌else◌}
use Rattle.std.specs.declared.io.ErrorKind.{ErrorKind}
use Rattle.std.specs.declared.io.ErrorKind.TheVariants.{BrokenPipe}
use Rattle.caldate_lines.specs.Outputs.{WritesPage}
use Rattle.caldate_lines.specs.declared.run_error.RunError.{RunError}
use Rattle.caldate_lines.specs.declared.run_error.RunError.TheVariants.{Read, Write, Stopped, Unanswered}
use Rattle.caldate_lines.specs.declared.ending.Ending.{Ending}

-- A failed write of this kind says that nobody reads the output any more: only a broken pipe.
abbrev pub is_closed : ErrorKind → Bool
is_closed BrokenPipe = true
is_closed kind = false

-- 0 after a run that answered all lines of its input or whose output was closed, 1 if a line has no
-- answer, else 2.
abbrev pub status_of : Result Unit RunError → ℕ
status_of (Ok done) = 0
status_of (Err (Stopped line)) = 1
status_of (Err (Unanswered tally)) = 1
status_of (Err Read) = 2
status_of (Err (Write kind)) = if is_closed kind then 0 else 2

-- Nothing with the status 0, and some words with any other.
abbrev pub Says : ℕ → List ℕ → Type 0
Says status words = MatchBool (status == 0) (words ≡ []) (0 < length words)

-- The status is the status of the outcome, and standard error took words that say why, or after a
-- failed write a beginning of them that is not all.
abbrev pub ReportsOutcome : Result Unit RunError → Ending → Option (List ℕ) → Option (List ℕ) → Type 0
ReportsOutcome outcome ending old new =
    (ending.status ≡ status_of outcome) × ((words : List ℕ) × Says (status_of outcome) words × WritesPage words ending.reported old new)
