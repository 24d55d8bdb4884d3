-- The times of the events of a calendar file, and the bytes that the writer takes.
use Rattle.std.specs.Prelude.{ℕ, ℤ, pos, ◌-ℤ◌, ◌≤ℤ◌, ◌<ℤ◌, Bool, List, [], ◌∷◌, ◌++◌, Option, Some, None, Result, MatchOption, if◌then◌else◌}
use Rattle.cal_datetime.specs.DateTime.{date_at}
use Rattle.cal_datetime.specs.OffsetDateTime.{LocalAndOffset, instant}
use Rattle.cal_recurrence.specs.Words.{parts_at}
use Rattle.cal_recurrence.specs.ZonedSet.{is_earlier}
use Rattle.caldate_lines.specs.Outputs.{IfAll}
use Rattle.caldate_lines.specs.declared.run_error.RunError.{RunError}
use Rattle.caldate_args.specs.ClockWords.{moment_in, rfc3339_or_unix_text}
use Rattle.caldate_args.specs.Events.{AnyHasTime}
use Rattle.caldate_args.specs.Lists.{WritesLines}
use Rattle.caldate_args.specs.declared.command.EventList.{EventList}
use Rattle.cal_text.specs.AnyForm.{date_text}
use Rattle.cal_text.specs.declared.any.DateForm.TheVariants.{Calendar}

-- An event of the list has a time at the instant x.
abbrev pub HasTimeAt : EventList → ℤ → Type 0
HasTimeAt events x = AnyHasTime events.zones x (parts_at 10 events.text.now)

-- m is the first moment after the instant x at whose instant `has` holds.
pub record IsFirstTime (has : ℤ → Type 0) (x : ℤ) (m : LocalAndOffset) : Type 0 where
  pub is : has (instant m)
  pub later : x <ℤ instant m
  pub first : (y : ℤ) → has y → x <ℤ y → instant m ≤ℤ y

-- There is no such moment.
abbrev pub NoTime : (ℤ → Type 0) → ℤ → Type 0
NoTime has x = (y : ℤ) → has y → y ≤ℤ x

abbrev pub IsNextTime : (ℤ → Type 0) → ℤ → Option LocalAndOffset → Type 0
IsNextTime has x next = MatchOption next (NoTime has x) (IsFirstTime has x)

-- The greatest instant that isn't listed: the instant of a moment with `after`, or the one before it.
abbrev pub bound : Bool → LocalAndOffset → ℤ
bound after m = if after then instant m else instant m -ℤ pos 1

-- The earlier one of two moments, if there are any, or the first of two at the same instant.
abbrev pub earlier : Option LocalAndOffset → Option LocalAndOffset → Option LocalAndOffset
earlier None second = second
earlier (Some m) None = Some m
earlier (Some m) (Some k) = if is_earlier k m then Some k else Some m

-- y is the first instant of a time after the instant x, and not past the last moment.
pub record IsNextIn (events : EventList) (x y : ℤ) : Type 0 where
  pub is : HasTimeAt events y
  pub later : x <ℤ y
  pub first : (z : ℤ) → HasTimeAt events z → x <ℤ z → y ≤ℤ z
  pub not_past : y ≤ℤ instant events.last

-- No time is.
abbrev pub IsEndIn : EventList → ℤ → Type 0
IsEndIn events x = (y : ℤ) → ¬ IsNextIn events x y

-- These are the instants of all times after the instant x and up to the last moment, or the first of
-- them.
abbrev pub AreTimes : EventList → Bool → ℤ → List ℤ → Type 0
AreTimes events all x [] = IfAll all (IsEndIn events x)
AreTimes events all x (y ∷ ys) = IsNextIn events x y × AreTimes events all y ys

-- The string of the time at an instant: by the clocks of the list's zone, the date, or the moment in
-- RFC 3339.
abbrev pub text_at : EventList → LocalAndOffset → List ℕ
text_at events shown = if events.has_dates then date_text Calendar (date_at shown.local) else rfc3339_or_unix_text shown

abbrev pub time_text : EventList → ℤ → List ℕ
time_text events x = text_at events (moment_in (Some events.zones.own) x)

abbrev pub time_line : EventList → ℤ → List ℕ
time_line events x = time_text events x ++ 10 ∷ []

-- The writer took the lines of the times from the first moment to the last.
abbrev pub ListsEvents : EventList → Result Unit RunError → Option (List ℕ) → Option (List ℕ) → Type 0
ListsEvents events outcome old new = WritesLines (time_line events) (λ all. AreTimes events all (instant events.first -ℤ pos 1)) outcome old new
