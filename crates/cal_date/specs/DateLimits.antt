-- The years and the months of the range, and the numbers of `Date::MIN` and `Date::MAX`, for higher
-- crates, in which a constant opens as its literal.
use Rattle.std.specs.Prelude.{◌≡◌, ℕ, ◌*◌, pos, neg_ℤ}
use Rattle.std.proofs.Common.{arith, refl}
use Rattle.cal_date.specs.Date.{last_year, last_day}
use Rattle.cal_date.specs.CountLaws.{days_of_years, years_before, days_of_years-closed}
use Rattle.cal_date.specs.PackedDate.{year_of, ordinal_of, number_of}

-- The number of years of the range.
abbrev pub years_in_range : ℕ
years_in_range = 1_999_999

-- The number of months of the range.
abbrev pub months_in_range : ℕ
months_in_range = 12 * years_in_range

-- The packed value of `Date::MIN` has the number 0.
pub MIN-number : number_of (record { packed = neg_ℤ (pos 1_023_998_975) }) ≡ 0
unfolding year_of ordinal_of days_of_years
MIN-number = refl

-- The packed value of `Date::MAX` has the number of the last day.
pub MAX-number : number_of (record { packed = pos 1_023_999_341 }) ≡ last_day
unfolding year_of ordinal_of
MAX-number = omega (arith, days_of_years-closed (years_before last_year))
