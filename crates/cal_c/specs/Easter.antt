-- Easter for C.
use Rattle.std.specs.Prelude.{◌≡◌, ℕ}
use Rattle.cal_time.specs.Date.{julian_day_at, IsDate, NoDate}
use Rattle.cal_c.specs.Results.{date_error, date_ok}
use Rattle.cal_c.specs.declared.results.DateResult.{DateResult}
use Rattle.cal_c.specs.declared.status.TheConstants.{YEAR_OUT_OF_RANGE}

-- The result is the day of a year with a property, or the error of a year without one.
pub record IsDayOfYear (Is : ℕ → Type 0) (r : DateResult) : Type 0 where
  pub day : (n : ℕ) → IsDate n → Is n → r ≡ date_ok (julian_day_at n)
  pub no_year : NoDate Is → r ≡ date_error YEAR_OUT_OF_RANGE
