-- The day of a year: the weekday on or after a day, and the day some days after another.
use Rattle.std.proofs.Common.{◌≡◌, ℕ, ◌+◌, ◌-◌, ◌%◌, ◌≤◌, ℤ, pos, ◌+ℤ◌, Option, Some, None, sym, ap, ◌∙◌, arith}
use Rattle.std.specs.Prelude.{◌≤ℤ◌, IfSome, SomeIff, slice_index_or, unsigned_abs}
use Rattle.std.proofs.lemmas.Int.{ints}
use Rattle.cal_time.specs.Laws.{weekday_at-is, calendar_date-one}
use Rattle.cal_date.specs.Arithmetic.{IsDateNumber}
use Rattle.cal_date.specs.Date.{last_day, IsDate, IsYear, HasCalendarDate, weekday_at}
use Rattle.cal_holidays.specs.Holidays.{IsOnOrAfter, IsDaysAfter, IsDayOf, IsHolidayFor}
use Rattle.cal_holidays.specs.declared.holiday_rule.HolidayRule.{HolidayRule}

-- The days from a day to the next one with a weekday.
abbrev days_to : ℕ → ℕ → ℕ
days_to w s = (w + 7 - weekday_at s) % 7

pub on_or_after-value : (r : Option ℕ) (y : ℤ) (m d w s : ℕ) → IsDate s → HasCalendarDate y m d s → SomeIff r (s + days_to w s ≤ last_day) (s + days_to w s)
    → IfSome r (λ n. weekday_at n ≡ w) → IfSome r (λ n. IsDate n × IsOnOrAfter y m d w n)
on_or_after-value None y m d w s date has some is = tt
on_or_after-value (Some n) y m d w s date has some is = (
  omega (arith, some.0, some.1),
  record {
    start = s;
    range = date;
    start_is = has;
    from = omega (arith, some.1);
    within = omega (arith, some.1);
    weekday = is;
  },
)

pub on_or_after-every : (r : Option ℕ) (y : ℤ) (m d w s : ℕ) → IsDate s → HasCalendarDate y m d s → SomeIff r (s + days_to w s ≤ last_day) (s + days_to w s)
    → (n : ℕ) → IsDate n → IsOnOrAfter y m d w n → r ≡ Some n
on_or_after-every r y m d w s date has some n range is = found r some
  where
    same : is.start ≡ s
    same = calendar_date-one y m d is.start s is.range date is.start_is has

    n-is : n ≡ s + days_to w s
    n-is = omega (arith, same, is.from, is.within, is.weekday, weekday_at-is n, weekday_at-is s)

    found : (r : Option ℕ) → SomeIff r (s + days_to w s ≤ last_day) (s + days_to w s) → r ≡ Some n
    found None none = absurd (none (omega (arith, n-is, range)))
    found (Some k) some = ap Some (some.1 ∙ sym n-is)

pub days_after-value : (Has : ℕ → Type 0) (days : ℤ) (s : ℕ) (r : Option ℕ) → IsDate s → Has s → SomeIff r (IsDateNumber (pos s +ℤ days)) (unsigned_abs (pos s +ℤ days))
    → IfSome r (λ n. IsDate n × IsDaysAfter Has days n)
days_after-value Has days s None date has some = tt
days_after-value Has days s (Some n) date has some = (
  omega (arith, ints, some.0.not_before, some.0.not_after, some.1),
  record {
    start = s;
    range = date;
    has = has;
    days_after = omega (arith, ints, some.0.not_before, some.1);
  },
)

-- The day that is some days after a day.
pub days_after-is : (days : ℤ) (s n : ℕ) (r : Option ℕ) → IsDate n → pos n ≡ pos s +ℤ days → SomeIff r (IsDateNumber (pos s +ℤ days)) (unsigned_abs (pos s +ℤ days))
    → r ≡ Some n
days_after-is days s n None date is none = absurd (none (record { not_before = omega (arith, ints); not_after = omega (arith, ints) }))
days_after-is days s n (Some k) date is some = ap Some (omega (arith, ints, some.0.not_before, some.1))

pub days_after-every : (Has : ℕ → Type 0) (days : ℤ) (s : ℕ) (r : Option ℕ) → ((k : ℕ) → IsDate k → Has k → k ≡ s)
    → SomeIff r (IsDateNumber (pos s +ℤ days)) (unsigned_abs (pos s +ℤ days)) → (n : ℕ) → IsDate n → IsDaysAfter Has days n → r ≡ Some n
days_after-every Has days s r one some n date is =
    let same = one is.start is.range is.has in
    days_after-is days s n r date (is.days_after ∙ ap (λ k. pos k +ℤ days) same) some

-- The holiday for a year is the day of the year, moved.
pub holiday-value : (rule : HolidayRule) (y : ℤ) (s : ℕ) (days : ℤ) (r : Option ℕ) → IsYear y × (rule.first_year ≤ℤ y) × (y ≤ℤ rule.last_year) → IsDate s → IsDayOf rule.day y s
    → days ≡ slice_index_or rule.moves (weekday_at s) (pos 0) → SomeIff r (IsDateNumber (pos s +ℤ days)) (unsigned_abs (pos s +ℤ days)) → IfSome r (IsHolidayFor rule y)
holiday-value rule y s days None force date is moves some = tt
holiday-value rule y s days (Some n) force date is moves some = record {
  in_range = omega (arith, ints, some.0.not_before, some.0.not_after, some.1);
  year = force.0;
  not_before = force.1;
  not_after = force.2;
  day = s;
  range = date;
  is_day = is;
  moved = omega (arith, ints, some.0.not_before, some.1) ∙ ap (λ m. pos s +ℤ m) moves;
}

pub holiday-every : (rule : HolidayRule) (y : ℤ) (s : ℕ) (days : ℤ) (r : Option ℕ) → ((k : ℕ) → IsDate k → IsDayOf rule.day y k → k ≡ s)
    → days ≡ slice_index_or rule.moves (weekday_at s) (pos 0) → SomeIff r (IsDateNumber (pos s +ℤ days)) (unsigned_abs (pos s +ℤ days)) → (n : ℕ) → IsHolidayFor rule y n → r ≡ Some n
holiday-every rule y s days r one moves some n is =
    let same = one is.day is.range is.is_day in
    let here = ap (λ k. pos k +ℤ slice_index_or rule.moves (weekday_at k) (pos 0)) same in
    days_after-is days s n r is.in_range (is.moved ∙ here ∙ ap (λ m. pos s +ℤ m) (sym moves)) some
