-- The times of day of a recurrence rule (BYHOUR, BYMINUTE and BYSECOND of RFC 5545).
use Rattle.std.specs.Prelude.{ℕ, Bool, ◌&&◌, ◌==◌, if◌then◌else◌, List, [], length, None}
use Rattle.std.specs.List.{list_any}
use Rattle.cal_time.specs.IsoWeekDate.{count_before}
use Rattle.cal_time.specs.SignedDuration.{day}
use Rattle.cal_time.specs.Time.{hour_of, minute_of, second_of, nanosecond_of}
use Rattle.cal_recurrence.specs.declared.times_of_day.TimesOfDay.{TimesOfDay}

-- A list of hours, minutes or seconds allows its values. An empty list allows the value of the
-- start.
abbrev pub allows_or_start : ℕ → List ℕ → ℕ → Bool
allows_or_start own values n = if length values == 0 then n == own else list_any (λ value. value == n) values

-- The time of day t passes: the lists allow its hour, its minute and its second, and it has the
-- nanoseconds of the start. `own` is the time of day of the start.
unfoldable pub matches_time : TimesOfDay → ℕ → ℕ → Bool
matches_time times own t =
    allows_or_start (hour_of own) times.hours (hour_of t)
    && (allows_or_start (minute_of own) times.minutes (minute_of t)
    && (allows_or_start (second_of own) times.seconds (second_of t) && (nanosecond_of t == nanosecond_of own)))

-- The lists without values, which give the time of the start.
abbrev pub no_times : TimesOfDay
no_times = record { hours = []; minutes = []; seconds = []; clock = None }

-- The number of times that pass in a day.
abbrev pub times_per_day : TimesOfDay → ℕ → ℕ
times_per_day times own = count_before (matches_time times own) day
