-- The results of calls that create a date from components, or replace a component.
use Rattle.std.specs.Prelude.{◌≡◌, ℕ, ◌↔◌, ◌⊎◌, ℤ, Result, Ok, IfOk, IfErr, IsErr}
use Rattle.cal_units.specs.declared.error.ComponentRange.{ComponentRange}
use Rattle.cal_units.specs.ComponentError.{FailsWith}
use Rattle.cal_date.specs.Date.{IsDate, IsYear, IsDayOfMonth, IsOrdinal, NoDate}
use Rattle.cal_date.specs.DateErrors.{year_out_of_range, day_out_of_range, ordinal_out_of_range}

-- The result is the date of the range that has the property. It is an error if and only if no date
-- of the range has it.
pub record ReturnsDate (Has : ℕ → Type 0) (result : Result ℕ ComponentRange) : Type 0 where
  pub every : (n : ℕ) → IsDate n → Has n → result ≡ Ok n
  pub value : IfOk result (λ n. IsDate n × Has n)
  pub error : IsErr result ↔ NoDate Has

-- The error names the year y if it is out of range, else the day d if month m doesn't have it.
pub record ChecksYearAndDay {T : Type 0} (y : ℤ) (m d : ℕ) (result : Result T ComponentRange) : Type 0 where
  pub error_kind : IfErr result (λ e. (e ≡ year_out_of_range) ⊎ (e ≡ day_out_of_range))
  pub year : FailsWith year_out_of_range result ↔ ¬ IsYear y
  pub day : FailsWith day_out_of_range result ↔ IsYear y × ¬ IsDayOfMonth y m d

-- The only error is that month m of the year y doesn't have the day d.
pub record ChecksDay {T : Type 0} (y : ℤ) (m d : ℕ) (result : Result T ComponentRange) : Type 0 where
  pub error_kind : IfErr result (λ e. e ≡ day_out_of_range)
  pub day : FailsWith day_out_of_range result ↔ ¬ IsDayOfMonth y m d

-- The only error is that the year y doesn't have the ordinal o.
pub record ChecksOrdinal {T : Type 0} (y : ℤ) (o : ℕ) (result : Result T ComponentRange) : Type 0 where
  pub error_kind : IfErr result (λ e. e ≡ ordinal_out_of_range)
  pub ordinal : FailsWith ordinal_out_of_range result ↔ ¬ IsOrdinal y o
