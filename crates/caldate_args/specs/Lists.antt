-- The dates of a list in steps of one length, and the bytes that the writer takes.
use Rattle.std.specs.Prelude.{◌≡◌, ℕ, ⊤, ◌+◌, ◌≤◌, Bool, pos, List, [], ◌∷◌, ◌++◌, Option, Result, is_ok}
use Rattle.std.specs.List.{flat_map}
use Rattle.cal_schedule.specs.Months.{IsMonthsLater}
use Rattle.cal_text.specs.AnyForm.{date_text}
use Rattle.cal_text.specs.declared.any.DateForm.TheVariants.{Calendar}
use Rattle.cal_time.specs.Date.{IsDate}
use Rattle.caldate_lines.specs.Outputs.{IfAll, WritesPage}
use Rattle.caldate_lines.specs.declared.run_error.RunError.{RunError}
use Rattle.caldate_args.specs.declared.command.Command.{Command}
use Rattle.caldate_args.specs.declared.command.Command.TheVariants.{Dates, Moments}
use Rattle.caldate_args.specs.declared.command.Listing.{Listing}
use Rattle.caldate_args.specs.declared.command.Step.{Step}
use Rattle.caldate_args.specs.declared.command.StepUnit.{StepUnit}
use Rattle.caldate_args.specs.declared.command.StepUnit.TheVariants.{Days, Months}

-- A step has 1 to 51539607540 days or months. The maximum is 4294967295 years.
abbrev pub IsStep : Step → Type 0
IsStep step = (1 ≤ step.every) × (step.every ≤ 51539607540)

-- If the command is a list in steps, its step has a length in this range.
abbrev pub HasValidStep : Command → Type 0
HasValidStep (Dates listing) = IsStep listing.step
HasValidStep (Moments moments) = IsStep moments.step
HasValidStep other = ⊤

-- Day r is `count` days or months after day n.
abbrev pub IsUnitsAfter : StepUnit → ℕ → ℕ → ℕ → Type 0
IsUnitsAfter Days count n r = r ≡ n + count
IsUnitsAfter Months count n r = IsMonthsLater n (pos count) r

-- The day is `count` days or months after the first day of the list, and not past the last.
pub record IsWithin (listing : Listing) (count : ℕ) (day : ℕ) : Type 0 where
  pub date : IsDate day
  pub after : IsUnitsAfter listing.step.unit count listing.first day
  pub not_past : day ≤ listing.last

-- These are the days of the list from `count` days or months after the first day on, each a step
-- after the one before it, and `Ends` holds of the count after them.
abbrev pub AreDays : Listing → (ℕ → Type 0) → ℕ → List ℕ → Type 0
AreDays listing Ends count [] = Ends count
AreDays listing Ends count (day ∷ days) = IsWithin listing count day × AreDays listing Ends (count + listing.step.every) days

-- No day of the list has this count.
abbrev pub IsEnd : Listing → ℕ → Type 0
IsEnd listing count = (day : ℕ) → ¬ IsWithin listing count day

-- These are all days of the list from a count on, or the first of them.
abbrev pub AreListed : Listing → Bool → ℕ → List ℕ → Type 0
AreListed listing all count days = AreDays listing (λ count. IfAll all (IsEnd listing count)) count days

-- The line of a day is its calendar date with a line feed.
abbrev pub line_of : ℕ → List ℕ
line_of day = date_text Calendar day ++ 10 ∷ []

-- The writer took the lines of all items. After a failed write it took a beginning of the lines of
-- the first items, and never all of them.
abbrev pub WritesLines : {X : Type 0} → (X → List ℕ) → (Bool → List X → Type 0) → Result Unit RunError → Option (List ℕ) → Option (List ℕ) → Type 0
WritesLines {X} line Are outcome old new = (items : List X) × Are (is_ok outcome) items × WritesPage (flat_map line items) outcome old new

-- The writer took the lines of the days of a list.
abbrev pub Lists : Listing → Result Unit RunError → Option (List ℕ) → Option (List ℕ) → Type 0
Lists listing outcome old new = WritesLines line_of (λ all. AreListed listing all 0) outcome old new
