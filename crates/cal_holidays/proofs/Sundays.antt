-- The Sunday after a day, and 1 March of a year.
use Rattle.std.proofs.Common.{◌≡◌, ℕ, ◌+◌, ◌-◌, ◌*◌, ◌/◌, ◌%◌, ◌<◌, ◌≤◌, ℤ, pos, ◌+ℤ◌, sym, subst, ◌∙◌, arith, if◌then◌else◌}
use Rattle.std.proofs.lemmas.Bool.Decides.{nat_tests}
use Rattle.std.proofs.lemmas.Int.{ints}
use Rattle.cal_time.specs.Laws.{weekday_at-is, calendar_date-one}
use Rattle.cal_date.specs.Date.{first_year, last_day, IsYear, IsDate, HasCalendarDate}
use Rattle.cal_units.specs.Lengths.{is_leap_year, days_in_month}
use Rattle.cal_date.specs.CountLaws.{days_of_years-closed, years_before, days_before, days_of_months, in_months, year_start-days_before}
use Rattle.cal_date.proofs.Years.{days_before-IsYear}
use Rattle.cal_holidays.specs.Easter.{IsSundayAfter, IsEaster, counted_from}
use Rattle.cal_holidays.specs.Epacts.{table_year, full_moon}

-- The Sunday after a day counted from 1 March, by a remainder.
pub is_sunday : (m d n : ℕ) → 1 ≤ d → n ≡ m + d - 1 + 7 - (m + d - 1 + 1) % 7 → IsSundayAfter (counted_from (pos m) d) n
is_sunday m d n some e = record {
  after = omega (arith, ints);
  within = omega (arith, ints);
  sunday = weekday_at-is n ∙ omega arith;
}

pub sunday-is : (m d n : ℕ) → 1 ≤ m + d → IsSundayAfter (counted_from (pos m) d) n → n ≡ m + d - 1 + 7 - (m + d - 1 + 1) % 7
sunday-is m d n some h = omega (arith, ints, sym (weekday_at-is n) ∙ h.sunday, h.after, h.within)

sunday-one : (p : ℤ) (a b : ℕ) → IsSundayAfter p a → IsSundayAfter p b → a ≡ b
sunday-one p a b f g = omega (arith, ints, sym (weekday_at-is a) ∙ f.sunday, sym (weekday_at-is b) ∙ g.sunday, f.after, f.within, g.after, g.within)

pub easter-one : (y : ℤ) (a b : ℕ) → IsEaster y a → IsEaster y b → a ≡ b
easter-one y a b f g =
    let same : f.march ≡ g.march = calendar_date-one y 3 1 f.march g.march f.range g.range f.march_is g.march_is in
    sunday-one _ a b (subst (λ m. IsSundayAfter (counted_from (pos m) (full_moon (table_year y))) a) same f.sunday) g.sunday

days_of_two : (y : ℤ) → days_of_months y 2 ≡ 59 + (if is_leap_year y then 1 else 0)
unfolding days_of_months days_in_month
days_of_two y = grind (arith, nat_tests)

-- 1 March, by the days of the years before it.
abbrev pub march_of : ℤ → ℕ
march_of y = days_before y + (days_of_months y 2 + 0)

pub is_march : (y : ℤ) → IsYear y → HasCalendarDate y 3 1 (march_of y)
is_march y h =
    let some : 0 < days_in_month y 3 = unfold days_in_month in omega arith in
    let there = in_months (days_before y) y 2 0 (year_start-days_before y h.0) (omega arith) some in
    there.day_is

pub march_of-range : (y : ℤ) → IsYear y → IsDate (march_of y)
march_of-range y h = grind (arith, nat_tests, days_before-IsYear y h, days_of_two y)

pub march-is : (y : ℤ) (m : ℕ) → IsYear y → IsDate m → HasCalendarDate y 3 1 m → m ≡ days_before y + (59 + (if is_leap_year y then 1 else 0))
march-is y m h date has = calendar_date-one y 3 1 m (march_of y) date (march_of-range y h) has (is_march y h) ∙ omega (arith, days_of_two y)

pub march-early : (y : ℤ) (m : ℕ) → IsYear y → IsDate m → HasCalendarDate y 3 1 m → m + 300 ≤ last_day
march-early y m h date has = grind (arith, nat_tests, march-is y m h date has, days_before-IsYear y h)

leap-march : (k : ℕ) → (if is_leap_year (first_year +ℤ pos k) then 1 else 0) + (k + 4700001) / 100 + k / 4 + k / 400 + 1_163_250 ≡ k / 100 + (k + 4700001) / 4 + (k + 4700001) / 400 + 23_500
leap-march k = grind (arith, ints, nat_tests)

-- 1 March, by the year of the tables.
pub march-days : (y : ℤ) (m : ℕ) → IsYear y → IsDate m → HasCalendarDate y 3 1 m
    → m + table_year y / 100 + 1716640056 ≡ 365 * table_year y + table_year y / 4 + table_year y / 400
march-days y m h date has =
    let k = years_before y in
    let same : first_year +ℤ pos k ≡ y = omega (arith, ints, h.0) in
    let table : table_year y ≡ k + 4700001 = omega (arith, ints, h.0) in
    let leap : (if is_leap_year y then 1 else 0) + (k + 4700001) / 100 + k / 4 + k / 400 + 1_163_250 ≡ k / 100 + (k + 4700001) / 4 + (k + 4700001) / 400 + 23_500 =
    rw same at (leap-march k) in
    omega (arith, table, leap, march-is y m h date has, days_of_years-closed k)
