-- The closed form of the Julian day, from the year of a day.
use Rattle.std.proofs.Common.{◌≡◌, ℕ, suc, ◌+◌, ◌-◌, ◌*◌, ◌/◌, ◌≤◌, ap, arith, ℤ, pos, ◌+ℤ◌, ◌-ℤ◌, unsigned_abs}
use Rattle.std.proofs.lemmas.Int.{ints}
use Rattle.std.proofs.lemmas.Bool.Decides.{nat_tests}
use Rattle.cal_units.specs.Lengths.{days_in_year}
use Rattle.cal_date.specs.Date.{first_year, first_julian_day, year_at, ordinal_at, julian_day_at}
use Rattle.cal_date.specs.CountLaws.{days_of_years, years_before, days_of_years-closed, days_of_years-suc}
use Rattle.cal_date.specs.ClosedForms.{julian_day_of}
use Rattle.cal_date.proofs.Dates.{stands}

-- Day n has this ordinal in the year after the first k years. The numbers of days are closed forms.
pub record IsAfterYears (k o n : ℕ) : Type 0 where
  pub days_before : ℕ
  pub days_of_year : ℕ
  pub before : days_before + k / 100 ≡ 365 * k + k / 4 + k / 400
  pub next : days_before + days_of_year + (k + 1) / 100 ≡ 365 * (k + 1) + (k + 1) / 4 + (k + 1) / 400
  pub least : 1 ≤ o
  pub most : o ≤ days_of_year
  pub number_is : n ≡ days_before + (o - 1)

pub after_years : (n : ℕ) → IsAfterYears (years_before (year_at n)) (ordinal_at n) n
after_years n =
    let at = stands n in
    let k = years_before (year_at n) in
    let year : first_year +ℤ pos k ≡ year_at n = omega (arith, ints, at.year) in
    let after : suc k ≡ k + 1 = omega arith in
    record {
      days_before = days_of_years k;
      days_of_year = days_in_year (year_at n);
      before = days_of_years-closed k;
      next = omega (arith, days_of_years-closed (suc k), days_of_years-suc k, ap days_in_year year);
      least = at.ordinal.0;
      most = at.ordinal.1;
      number_is = at.number_is;
    }

-- The closed form of the Julian day is the Julian day.
pub julian_day_of-is : (n : ℕ) → julian_day_of (year_at n) (ordinal_at n) ≡ julian_day_at n
unfolding julian_day_of
julian_day_of-is n =
    let at = after_years n in
    let y = year_at n in
    let late = (stands n).year in
    omega (arith, ints)

-- The number of days of the first years of the range.
pub days_of_years-sum : (k : ℕ) → days_of_years k ≡ 1461 * k / 4 - k / 100 + k / 100 / 4
days_of_years-sum k = omega (arith, days_of_years-closed k)

pub ruleset days_of_years_closed = (days_of_years-sum, nat_tests)

-- The number of the day with a Julian day.
abbrev pub number_at : ℤ → ℕ
number_at j = unsigned_abs (j -ℤ first_julian_day)
