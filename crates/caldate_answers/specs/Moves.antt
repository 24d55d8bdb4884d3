-- The day after a move, and the moments on it.
use Rattle.std.specs.Prelude.{◌≡◌, ℕ, ◌+◌, ◌-◌, ◌*◌, ◌%◌, max, true, false, pos, ◌*ℤ◌, List, [], ◌∷◌, Some, slice_get}
use Rattle.cal_time.specs.Date.{IsDate}
use Rattle.cal_time.specs.Occurrences.{next_occurrences, prev_occurrences, kth}
use Rattle.cal_time.specs.SignedDuration as duration
use Rattle.cal_time.specs.Time.{hour_of, minute_of}
use Rattle.cal_datetime.specs.DateTime.{date_at, date_time, time_at}
use Rattle.cal_datetime.specs.OffsetDateTime.{LocalAndOffset}
use Rattle.cal_rounding.specs.Rounding.{RoundsTimeOf}
use Rattle.cal_rounding.specs.declared.rounding_mode.RoundingMode.TheVariants.{HalfCeil}
use Rattle.cal_time.specs.Weekday.{index}
use Rattle.cal_schedule.specs.Months.{IsMonthsLater}
use Rattle.cal_schedule.specs.Units.{IsFirstOf, IsLastOf}
use Rattle.cal_schedule.specs.Weekdays.{occurrences_from, occurrences_upto}
use Rattle.cal_schedule.specs.Workdays.{WorkWeek, nth_workday}
use Rattle.caldate_answers.specs.declared.request.DayMove.{DayMove}
use Rattle.caldate_answers.specs.declared.request.DayMove.TheVariants as move

-- Monday to Friday, without holidays or without these.
abbrev pub weekdays_except : List ℕ → WorkWeek
weekdays_except days = record { marks = true ∷ true ∷ true ∷ true ∷ true ∷ false ∷ false ∷ []; holidays = days }

abbrev pub monday_to_friday : WorkWeek
monday_to_friday = weekdays_except []

-- Moment m moves to day n and keeps its time of day and offset.
abbrev pub on_day : LocalAndOffset → ℕ → LocalAndOffset
on_day m n = record { local = date_time n (time_at m.local); offset = m.offset }

-- The time of day is rounded down to a multiple of n minutes after midnight, or of 1 minute for 0.
abbrev pub floored : ℕ → LocalAndOffset → LocalAndOffset
floored n m =
    let minutes = hour_of (time_at m.local) * 60 + minute_of (time_at m.local) in
    record { local = date_time (date_at m.local) ((minutes - minutes % max n 1) * duration.minute); offset = m.offset }

-- The time of day is rounded to the nearest multiple of n nanoseconds after midnight, and up between
-- two. 24:00 is the midnight after it.
abbrev pub IsNearest : ℕ → LocalAndOffset → LocalAndOffset → Type 0
IsNearest n from m = RoundsTimeOf HalfCeil n from.local (λ z. record { local = z; offset = from.offset }) (Some m)

-- The move goes from day n to day r, with these working days.
abbrev pub MovesTo : WorkWeek → DayMove → ℕ → ℕ → Type 0
MovesTo workdays (move.Next w k) n r = kth k (next_occurrences (index w) n) ≡ Some r
MovesTo workdays (move.Last w k) n r = kth k (prev_occurrences (index w) n) ≡ Some r
MovesTo workdays (move.OnOrAfter w) n r = slice_get (occurrences_from (index w) n) 0 ≡ Some r
MovesTo workdays (move.OnOrBefore w) n r = slice_get (occurrences_upto (index w) n) 0 ≡ Some r
MovesTo workdays (move.Months z) n r = IsDate r × IsMonthsLater n z r
MovesTo workdays (move.Years z) n r = IsDate r × IsMonthsLater n (pos 12 *ℤ z) r
MovesTo workdays (move.Workdays z) n r = nth_workday workdays z n ≡ Some r
MovesTo workdays (move.Start unit) n r = IsDate r × IsFirstOf unit n r
MovesTo workdays (move.End unit) n r = IsDate r × IsLastOf unit n r
