-- The dates and moments within bounds.
use Rattle.std.specs.Prelude.{not, nat_lt, int_lt, ◌&&◌, Bool, Option, Some, None, if◌then◌else◌}
use Rattle.cal_datetime.specs.OffsetDateTime.{instant}
use Rattle.cal_text.specs.declared.any.DateOrMoment.{DateOrMoment}
use Rattle.cal_text.specs.declared.any.DateOrMoment.TheVariants.{Date, Moment}
use Rattle.caldate_answers.specs.Found.{day_of, is_date, moment_of}
use Rattle.caldate_answers.specs.declared.request.Bounds.{Bounds}
use Rattle.caldate_answers.specs.declared.request.Bounds.TheVariants.{FromTo, After, Before}

-- The local date of a date or moment is before a date bound, or its instant before a moment bound.
abbrev pub is_before : DateOrMoment → DateOrMoment → Bool
is_before found (Date form n) = nat_lt (day_of found) n
is_before found (Moment form m) = int_lt (instant (moment_of found)) (instant m)

-- The local date of a date or moment is after a date bound, or its instant after a moment bound.
abbrev pub is_after : DateOrMoment → DateOrMoment → Bool
is_after found (Date form n) = nat_lt n (day_of found)
is_after found (Moment form m) = int_lt (instant m) (instant (moment_of found))

-- A date or moment lies within the bounds: `from` and `to` include them, `after` and `before`
-- don't.
abbrev pub is_within : Bounds → DateOrMoment → Bool
is_within (FromTo first last) found = not (is_before found first) && not (is_after found last)
is_within (After bound) found = is_after found bound
is_within (Before bound) found = is_before found bound

-- The bounds are dates.
abbrev pub are_dates : Bounds → Bool
are_dates (FromTo first last) = is_date first && is_date last
are_dates (After bound) = is_date bound
are_dates (Before bound) = is_date bound

-- A date has no time to compare with a moment, so then the result is None.
abbrev pub lies_in : Bounds → DateOrMoment → Option Bool
lies_in bounds found = if is_date found && not (are_dates bounds) then None else Some (is_within bounds found)
