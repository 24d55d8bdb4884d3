-- The days of the Julian calendar in closed form.
use Rattle.std.proofs.Common.{◌≡◌, ℕ, zero, suc, ◌+◌, ◌-◌, ◌*◌, ◌/◌, ◌%◌, ℤ, pos, ◌+ℤ◌, refl, sym, ◌∙◌, arith, if◌then◌else◌}
use Rattle.std.specs.Prelude.{◌==◌, ◌-ℤ◌}
use Rattle.std.proofs.lemmas.Bool.Decides.{nat_tests}
use Rattle.std.proofs.lemmas.Int.{ints}
use Rattle.cal_time.specs.Laws.{weekday_at-is}
use Rattle.cal_date.specs.Date.{IsYear, IsDate, HasCalendarDate}
use Rattle.cal_holidays.specs.Easter.{julian_days, IsJulianMarch, IsJulianEaster}
use Rattle.cal_holidays.specs.Epacts.{julian_full_moon, table_year}
use Rattle.cal_holidays.proofs.Sundays.{march-days, march_of, march_of-range, is_march}

julian_days-suc : (y : ℕ) → julian_days (suc y) ≡ julian_days y + (if suc y % 4 == 0 then 366 else 365)
unfolding julian_days
julian_days-suc y = refl

pub julian_days-closed : (y : ℕ) → julian_days y ≡ 365 * y + y / 4
julian_days-closed zero = unfold julian_days in refl
julian_days-closed (suc y) = grind (arith, nat_tests, julian_days-suc y, julian_days-closed y)

common-is : (m : ℕ) → IsDate m → HasCalendarDate (pos 200) 3 1 m → m ≡ 365_315_242
common-is m date has = omega (arith, ints, march-days (pos 200) m (omega (arith, ints), omega (arith, ints)) date has)

-- 1 March of a year of the Julian calendar, by the year of the tables.
pub march-is : (y m : ℤ) → IsJulianMarch y m → m +ℤ pos 1_716_682_808 ≡ pos (365 * table_year y + table_year y / 4)
march-is y m is =
    omega (arith, ints, is.days, common-is is.common is.range is.common_is, julian_days-closed 5_700_200, julian_days-closed (table_year y))

-- A number from the day 0 of the tables on, for Easter of a year.
abbrev pub moon_at : ℕ → ℕ
moon_at t = 365 * t + t / 4 + julian_full_moon t - 1

pub easter-is : (y : ℤ) (n : ℕ) → IsJulianEaster y n → n + 1_716_682_808 ≡ moon_at (table_year y) + 7 - moon_at (table_year y) % 7
easter-is y n is =
    omega (arith, ints, march-is y is.march is.march_is, is.sunday.after, is.sunday.within, sym (weekday_at-is n) ∙ is.sunday.sunday)

pub is_easter : (y : ℤ) (n : ℕ) → IsYear y → n + 1_716_682_808 ≡ moon_at (table_year y) + 7 - moon_at (table_year y) % 7 → IsJulianEaster y n
is_easter y n h is =
    let t = table_year y in
    let common = march_of (pos 200) in
    let in_range : IsYear (pos 200) = (omega (arith, ints), omega (arith, ints)) in
    let date : IsDate common = march_of-range (pos 200) in_range in
    let has : HasCalendarDate (pos 200) 3 1 common = is_march (pos 200) in_range in
    record {
      year = h;
      march = pos (365 * t + t / 4) -ℤ pos 1_716_682_808;
      march_is = record {
        common = common;
        range = date;
        common_is = has;
        days = omega (arith, ints, common-is common date has, julian_days-closed 5_700_200, julian_days-closed t);
      };
      sunday = record {
        after = omega (arith, ints);
        within = omega (arith, ints);
        sunday = weekday_at-is n ∙ omega arith;
      };
    }

pub easter-one : (y : ℤ) (a b : ℕ) → IsJulianEaster y a → IsJulianEaster y b → a ≡ b
easter-one y a b f g = omega (arith, easter-is y a f, easter-is y b g)
