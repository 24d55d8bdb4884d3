-- Each number of the count has an ordinal date, and each ordinal date of the range has a number.
use Rattle.std.proofs.Common.{◌≡◌, ℕ, suc, refl, sym, ◌+◌, ◌<◌, ◌≤◌, ap, ◌∙◌, arith, ℤ, pos, ◌+ℤ◌, ◌-ℤ◌, ◌≤ℤ◌, unsigned_abs, to_z, of_z, w32, FitsSigned}
use Rattle.std.proofs.lemmas.Bool.Decides.{nat_tests}
use Rattle.std.proofs.lemmas.Int.{ints, to_z-of_z}
use Rattle.cal_units.specs.Lengths.{days_in_year}
use Rattle.cal_date.specs.Date.{first_year, year_at, ordinal_at, IsYear, IsDate, IsOrdinal, HasOrdinalDate}
use Rattle.cal_date.specs.CountLaws.{days_of_years, in_year, year_start, days_of_years-closed}
use Rattle.cal_date.specs.PackedDate.{ordinal_number, HasOrdinalDate-ordinal_number}
use Rattle.cal_date.proofs.Years.{year_of, IsYear-days_before, days_before-IsYear}

-- The ordinal date of a number.
pub record StandsAt (y : ℤ) (o n : ℕ) : Type 0 where
  pub has : HasOrdinalDate y o n
  pub year : first_year ≤ℤ y
  pub ordinal : IsOrdinal y o
  pub number_is : n ≡ ordinal_number y o

stands_in : (n i j : ℕ) → j < days_in_year (first_year +ℤ pos i) → n ≡ days_of_years i + j → StandsAt (first_year +ℤ pos i) (j + 1) n
stands_in n i j h e =
    let here = in_year (days_of_years i) (first_year +ℤ pos i) j (year_start i) h in
    let years : unsigned_abs ((first_year +ℤ pos i) -ℤ first_year) ≡ i = omega (arith, ints) in
    record {
      has = (ap year_at e ∙ here.0, ap ordinal_at e ∙ here.1);
      year = omega (arith, ints);
      ordinal = (omega arith, omega arith);
      number_is = rw years (omega arith);
    }

pub stands : (n : ℕ) → StandsAt (year_at n) (ordinal_at n) n
stands n =
    let found = year_of (suc n) n (omega (arith, days_of_years-closed (suc n))) in
    let at = stands_in n found.0 found.1 found.3 found.4 in
    rw (← at.has.0, ← at.has.1) at at

-- A day of the range has a year of the range, an ordinal of this year, and therefore one number.
pub record IsInRange (y : ℤ) (o n : ℕ) : Type 0 where
  pub year : IsYear y
  pub ordinal : IsOrdinal y o
  pub number_is : n ≡ ordinal_number y o

pub in_range : (n : ℕ) (y : ℤ) (o : ℕ) → IsDate n → HasOrdinalDate y o n → IsInRange y o n
in_range n y o h has =
    let at : StandsAt y o n = rw (has.0, has.1) at (stands n) in
    record {
      year = IsYear-days_before y at.year (omega (arith, at.number_is));
      ordinal = at.ordinal;
      number_is = at.number_is;
    }

-- The number of an ordinal date of the range is in the range.
pub IsDate-ordinal_number : (y : ℤ) (o : ℕ) → IsYear y → IsOrdinal y o → IsDate (ordinal_number y o)
IsDate-ordinal_number y o h f = omega (arith, days_before-IsYear y h)

-- A year of the range fits in an i32.
pub IsYear-i32 : (y : ℤ) → IsYear y → to_z w32 (of_z w32 y) ≡ y
IsYear-i32 y h = let fits : FitsSigned w32 y = grind (arith, ints) in to_z-of_z w32 y fits

-- A year has at most 366 days.
pub year-most : (y : ℤ) → days_in_year y ≤ 366
year-most y = grind (arith, nat_tests)

pub ordinal-most : (n : ℕ) → ordinal_at n ≤ 366
ordinal-most n =
    let at = stands n in
    omega (arith, at.ordinal.1, year-most (year_at n))

pub ruleset places_in_years = (stands, year-most, ints, nat_tests)

-- The number of a day from its year and its ordinal.
pub number_of_parts : (n : ℕ) → ordinal_number (year_at n) (ordinal_at n) ≡ n
number_of_parts n = sym (stands n).number_is

pub year_of_date : (n : ℕ) → IsDate n → IsYear (year_at n)
year_of_date n h = (in_range n (year_at n) (ordinal_at n) h (refl, refl)).year

pub ordinal_of_date : (n : ℕ) → IsOrdinal (year_at n) (ordinal_at n)
ordinal_of_date n = (stands n).ordinal

pub ruleset ordinal_dates = (number_of_parts, year_of_date, ordinal_of_date, HasOrdinalDate-ordinal_number, IsDate-ordinal_number, to_z-of_z, ints, nat_tests)
