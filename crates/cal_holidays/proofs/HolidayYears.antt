-- How far from its year the holiday of a rule is.
use Rattle.std.proofs.Common.{◌≡◌, ℕ, ◌+◌, ◌-◌, ◌*◌, ◌/◌, ◌<◌, ◌≤◌, ℤ, pos, ◌+ℤ◌, refl, ap, subst, arith}
use Rattle.std.specs.Prelude.{slice_index_or, unsigned_abs}
use Rattle.std.proofs.lemmas.Bool.Decides.{nat_tests}
use Rattle.std.proofs.lemmas.Int.{ints}
use Rattle.cal_date.specs.CountLaws.{days_of_years, years_before, days_of_years-closed}
use Rattle.cal_date.specs.Date.{IsDate, IsYear, year_at, weekday_at}
use Rattle.cal_date.proofs.Dates.{stands}
use Rattle.cal_date.proofs.JulianDays.{after_years}
use Rattle.cal_holidays.specs.Easter.{IsEaster, IsJulianEaster}
use Rattle.cal_holidays.specs.Epacts.{full_moon, table_year}
use Rattle.cal_holidays.specs.Holidays.{IsDayOf}
use Rattle.cal_holidays.specs.HolidaySearch.{AreMovesWithin, AreWithinYears, IsNearEaster, IsWithinYears}
use Rattle.cal_holidays.specs.declared.holiday_day.HolidayDay.{HolidayDay}
use Rattle.cal_holidays.specs.declared.holiday_day.HolidayDay.TheVariants.{Fixed, Nth, Last, OnOrAfter, Easter, JulianEaster}
use Rattle.cal_holidays.specs.declared.holiday_rule.HolidayRule.{HolidayRule}
use Rattle.cal_holidays.proofs.Epacts.{full_moon_closed, julian_full_moon_closed}
use Rattle.cal_holidays.proofs.JulianDays.{easter-is}

-- Day n is at most so many days before the first day of the year after k years, or after it.
pub record IsNear (low high k n : ℕ) : Type 0 where
  pub start : ℕ
  pub start_is : start + k / 100 ≡ 365 * k + k / 4 + k / 400
  pub from : start ≤ n + low
  pub through : n ≤ start + high

in_year : (y : ℤ) (n : ℕ) → year_at n ≡ y → IsNear 0 365 (years_before y) n
in_year y n is =
    let at = after_years n in
    let same : years_before (year_at n) ≡ years_before y = ap years_before is in
    let near : IsNear 0 365 (years_before (year_at n)) n =
    record { start = at.days_before; start_is = at.before; from = omega (arith, at.number_is); through = omega (arith, at.number_is, at.most, at.before, at.next) } in
    subst (λ k. IsNear 0 365 k n) same near

full_moon-most : (y : ℕ) → full_moon y ≤ 60
full_moon-most y = grind (arith, nat_tests, full_moon_closed y)

near-easter : (y : ℤ) (n : ℕ) → IsEaster y n → IsNear 0 440 (years_before y) n
near-easter y n is =
    let march = in_year y is.march (ap (λ d. d.year) is.march_is) in
    record {
      start = march.start;
      start_is = march.start_is;
      from = omega (arith, ints, march.from, is.sunday.after);
      through = omega (arith, ints, march.through, is.sunday.within, full_moon-most (table_year y));
    }

near-julian_easter : (y : ℤ) (n : ℕ) → IsJulianEaster y n → IsNear 7500 7700 (years_before y) n
near-julian_easter y n is =
    let k = years_before y in
    let low = is.year.0 in
    let high = is.year.1 in
    let same : table_year y ≡ k + 4700001 = omega (arith, ints) in
    let most : k ≤ 1999998 = omega (arith, ints) in
    let number = easter-is y n is in
    let moon = julian_full_moon_closed (table_year y) in
    record {
      start = days_of_years k;
      start_is = days_of_years-closed k;
      from = omega (arith, days_of_years-closed k);
      through = omega (arith, days_of_years-closed k);
    }

moved : (low high k d n most : ℕ) (days : ℤ) → IsNear low high k d → unsigned_abs days ≤ most → pos n ≡ pos d +ℤ days → IsNear (low + most) (high + most) k n
moved low high k d n most days near few is = record {
  start = near.start;
  start_is = near.start_is;
  from = omega (arith, ints, near.from);
  through = omega (arith, ints, near.through);
}

wider : (low high low' high' k n : ℕ) → low ≤ low' → high ≤ high' → IsNear low high k n → IsNear low' high' k n
wider low high low' high' k n l h near = record {
  start = near.start;
  start_is = near.start_is;
  from = omega (arith, near.from);
  through = omega (arith, near.through);
}

near-day : (day : HolidayDay) (y : ℤ) (n most : ℕ) → most < 256 → ((x : ℤ) → ¬ (day ≡ JulianEaster x)) → IsNearEaster day most → IsDayOf day y n → IsNear 256 700 (years_before y) n
near-day (Fixed m d) y n most few not near is = wider 0 365 256 700 (years_before y) n (omega arith) (omega arith) (in_year y n (ap (λ d. d.year) is))
near-day (Nth m w k) y n most few not near is = wider 0 365 256 700 (years_before y) n (omega arith) (omega arith) (in_year y n is.is.year)
near-day (Last m w) y n most few not near is = wider 0 365 256 700 (years_before y) n (omega arith) (omega arith) (in_year y n is.is.year)
near-day (OnOrAfter m d w) y n most few not near is =
    let start = in_year y is.start (ap (λ d. d.year) is.start_is) in
    record { start = start.start; start_is = start.start_is; from = omega (arith, start.from, is.from); through = omega (arith, start.through, is.within) }
near-day (Easter days) y n most few not near is =
    wider (0 + most) (440 + most) 256 700 (years_before y) n (omega arith) (omega arith) (moved 0 440 (years_before y) is.start n most days (near-easter y is.start is.has) near is.days_after)
near-day (JulianEaster days) y n most few not near is = absurd (not days refl)

-- Years whose first days are near each other.
apart : (k j s t : ℕ) → s + k / 100 ≡ 365 * k + k / 4 + k / 400 → t + j / 100 ≡ 365 * j + j / 4 + j / 400 → s ≤ t + 1090 → k ≤ j + 2
apart k j s t e f h = omega arith

far_apart : (k j s t : ℕ) → s + k / 100 ≡ 365 * k + k / 4 + k / 400 → t + j / 100 ≡ 365 * j + j / 4 + j / 400 → s ≤ t + 8766 → k ≤ j + 24
far_apart k j s t e f h = omega arith

-- A day near its year is within some years.
within : (y : ℤ) (n d : ℕ) → IsYear y → IsDate d → IsNear 600 1000 (years_before y) n → IsWithinYears 2 y n d
within y n d year date near =
    let at = in_year (year_at d) d refl in
    let own = (stands d).year in record {
      before = λ h. let less = apart (years_before y) (years_before (year_at d)) near.start at.start near.start_is at.start_is (omega (arith, near.from, at.through)) in
          omega (arith, ints, year.0);
      after = λ h. let less = apart (years_before (year_at d)) (years_before y) at.start near.start at.start_is near.start_is (omega (arith, near.through, at.from)) in
          omega (arith, ints, year.0);
    }

within_far : (y : ℤ) (n d : ℕ) → IsYear y → IsDate d → IsNear 8300 8300 (years_before y) n → IsWithinYears 24 y n d
within_far y n d year date near =
    let at = in_year (year_at d) d refl in
    let own = (stands d).year in record {
      before = λ h. let less = far_apart (years_before y) (years_before (year_at d)) near.start at.start near.start_is at.start_is (omega (arith, near.from, at.through)) in
          omega (arith, ints, year.0);
      after = λ h. let less = far_apart (years_before (year_at d)) (years_before y) at.start near.start at.start_is near.start_is (omega (arith, near.through, at.from)) in
          omega (arith, ints, year.0);
    }

pub reach-is : (rule : HolidayRule) (most moves : ℕ) → most < 256 → moves < 256 → ((x : ℤ) → ¬ (rule.day ≡ JulianEaster x)) → IsNearEaster rule.day most → AreMovesWithin rule.moves moves
    → AreWithinYears rule 2
reach-is rule most moves few less not near moved_by y n k is date =
    let day = near-day rule.day y is.day most few not near is.is_day in
    let here = moved 256 700 (years_before y) is.day n moves (slice_index_or rule.moves (weekday_at is.day) (pos 0)) day (moved_by (weekday_at is.day)) is.moved in
    within y n k is.year date (wider (256 + moves) (700 + moves) 600 1000 (years_before y) n (omega arith) (omega arith) here)

pub far_reach-is : (rule : HolidayRule) (most moves : ℕ) (x : ℤ) → most < 256 → moves < 256 → rule.day ≡ JulianEaster x → IsNearEaster rule.day most → AreMovesWithin rule.moves moves
    → AreWithinYears rule 24
far_reach-is rule most moves x few less same near moved_by y n k is date =
    let after = subst (λ d. IsDayOf d y is.day) same is.is_day in
    let days = subst (λ d. IsNearEaster d most) same near in
    let day = moved 7500 7700 (years_before y) after.start is.day most x (near-julian_easter y after.start after.has) days after.days_after in
    let here =
    moved (7500 + most) (7700 + most) (years_before y) is.day n moves (slice_index_or rule.moves (weekday_at is.day) (pos 0)) day (moved_by (weekday_at is.day)) is.moved in
    within_far y n k is.year date (wider (7500 + most + moves) (7700 + most + moves) 8300 8300 (years_before y) n (omega arith) (omega arith) here)
