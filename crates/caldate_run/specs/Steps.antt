-- Moments in steps of one length by the clocks of a zone, and the bytes that the writer takes.
use Rattle.std.specs.Prelude.{◌≡◌, ℕ, ◌+◌, Bool, true, false, pos, ◌*ℤ◌, ◌≤ℤ◌, int_lt, List, [], ◌∷◌, Option, Some, None, Result, Ok}
use Rattle.cal_time.specs.SignedDuration.{day}
use Rattle.cal_datetime.specs.OffsetDateTime.{LocalAndOffset, instant}
use Rattle.caldate_lines.specs.Outputs.{IfAll}
use Rattle.caldate_lines.specs.declared.run_error.RunError.{RunError}
use Rattle.caldate_answers.specs.ClockMoves.{IsMovedOn}
use Rattle.caldate_answers.specs.Moves.{monday_to_friday}
use Rattle.caldate_answers.specs.declared.request.DayMove.TheVariants as by
use Rattle.caldate_answers.specs.declared.request.Move.{Move}
use Rattle.caldate_answers.specs.declared.request.Move.TheVariants as move
use Rattle.caldate_args.specs.declared.command.Moments.{Moments}
use Rattle.caldate_args.specs.declared.command.StepUnit.{StepUnit}
use Rattle.caldate_args.specs.declared.command.StepUnit.TheVariants.{Days, Months}
use Rattle.caldate_args.specs.Lists.{WritesLines}
use Rattle.caldate_run.specs.Recurring.{moment_line}

-- The move by `count` days or months.
abbrev pub step_move : StepUnit → ℕ → Move
step_move Days count = move.Days (pos count *ℤ pos day)
step_move Months count = move.Day (by.Months (pos count))

-- Moment m is `count` days or months after the first by the clocks, and not past the last.
pub record IsStepTo (moments : Moments) (count : ℕ) (m : LocalAndOffset) : Type 0 where
  pub moved : IsMovedOn moments.clock monday_to_friday (step_move moments.step.unit count) moments.first (Ok m)
  pub not_past : instant m ≤ℤ instant moments.last

-- No moment is.
abbrev pub IsPastSteps : Moments → ℕ → Type 0
IsPastSteps moments count = (m : LocalAndOffset) → ¬ IsStepTo moments count m

-- Moment m is after the moment listed before it, if any.
abbrev pub is_later : Option LocalAndOffset → LocalAndOffset → Bool
is_later None m = true
is_later (Some before) m = int_lt (instant before) (instant m)

-- The moments from a count on, or the first of them, each later than the moment before it.
pub data AreSteps (moments : Moments) (all : Bool) : Option LocalAndOffset → ℕ → List LocalAndOffset → Type 0 where
  ended : (before : Option LocalAndOffset) (count : ℕ) → IfAll all (IsPastSteps moments count) → AreSteps moments all before count []
  skipped : (before : Option LocalAndOffset) (count : ℕ) (m : LocalAndOffset) (ms : List LocalAndOffset) → IsStepTo moments count m → is_later before m ≡ false
      → AreSteps moments all before (count + moments.step.every) ms → AreSteps moments all before count ms
  listed : (before : Option LocalAndOffset) (count : ℕ) (m : LocalAndOffset) (ms : List LocalAndOffset) → IsStepTo moments count m → is_later before m ≡ true
      → AreSteps moments all (Some m) (count + moments.step.every) ms → AreSteps moments all before count (m ∷ ms)

-- The writer took the lines of the moments of a list.
abbrev pub ListsSteps : Moments → Result Unit RunError → Option (List ℕ) → Option (List ℕ) → Type 0
ListsSteps moments outcome old new = WritesLines moment_line (λ all. AreSteps moments all None 0) outcome old new
