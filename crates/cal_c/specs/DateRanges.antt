-- Ranges of days for C.
use Rattle.std.specs.Prelude.{◌≡◌, ℕ, ◌≤◌, ℤ, pos}
use Rattle.cal_time.specs.Date.{julian_day_at}
use Rattle.cal_schedule.specs.Ranges.{range, Range}
use Rattle.cal_c.specs.Results.{no_value, number_ok}
use Rattle.cal_c.specs.Values.{day_of, IsJulianDay}
use Rattle.cal_c.specs.declared.results.NumberResult.{NumberResult}
use Rattle.cal_c.specs.declared.schedule.date_ranges.DateRangeParts.{DateRangeParts}
use Rattle.cal_c.specs.declared.schedule.date_ranges.DateRangeResult.{DateRangeResult}
use Rattle.cal_c.specs.declared.schedule.date_ranges.ShareResult.{ShareResult}
use Rattle.cal_c.specs.declared.status.TheConstants.{OK}

-- A range is valid if its two dates are, and if its end isn't before its start.
pub record IsRange (p : DateRangeParts) : Type 0 where
  pub start : IsJulianDay p.start
  pub end : IsJulianDay p.end
  pub order : day_of p.start ≤ day_of p.end

abbrev pub range_in : DateRangeParts → Range
range_in p = range (day_of p.start) (day_of p.end)

abbrev pub date_range_ok : Range → DateRangeResult
date_range_ok r = record { status = OK; start = julian_day_at r.start; end = julian_day_at r.end }

abbrev pub date_range_error : ℤ → DateRangeResult
date_range_error s = record { status = s; start = no_value; end = no_value }

-- The result with the common days and the days of a range.
abbrev pub share_ok : ℕ → ℕ → ShareResult
share_ok common days = record { status = OK; common = common; days = days }

abbrev pub share_error : ℤ → ShareResult
share_error s = record { status = s; common = 0; days = 0 }

-- The result is 1 for yes, and 0 for no.
pub record IsYesNo (Yes : Type 0) (r : NumberResult) : Type 0 where
  pub yes : Yes → r ≡ number_ok (pos 1)
  pub no : (Yes → ⊥) → r ≡ number_ok (pos 0)
