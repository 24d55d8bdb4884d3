-- Each year has the day of a rule's change, which lies in its month.
use mir.Val.{bool_byte}
use Rattle.std.proofs.Common.{nat_le, ◌≡◌, ℕ, suc, ◌+◌, ◌-◌, ◌*◌, ◌%◌, ◌<◌, ◌≤◌, ◌==◌, refl, sym, ap, ◌∙◌, subst, arith, ℤ, pos, ◌+ℤ◌, ◌-ℤ◌, ◌*ℤ◌, ◌<ℤ◌, inl, inr, true, false, filter, slice_get, Some}
use Rattle.std.proofs.lemmas.Bool.{and_parts, cases_lt, cases_Bool, cases_eq, eq-eqb, eqb-true}
use Rattle.std.proofs.lemmas.Bool.Decides.{nat_tests, Decides-int_eq}
use Rattle.std.proofs.lemmas.Int.{ints}
use Rattle.cal_time.specs.Date.{first_year, last_day, year_at, weekday_at, IsDate, IsYear, HasCalendarDate}
use Rattle.cal_time.specs.Days.{IsMonth, day_with, days-follow, days_in_month-least}
use Rattle.cal_time.specs.IsoWeekDate.{count_before}
use Rattle.cal_time.specs.Laws.{weekday_at-is}
use Rattle.cal_time.specs.Lengths.{days_in_month, days_in_year}
use Rattle.cal_date.specs.CountLaws.{years_before, days_of_years-suc}
use Rattle.cal_date.proofs.MarchYears.{number_with, has_number, march_number, marked}
use Rattle.cal_time.specs.Month.{number}
use Rattle.cal_time.specs.Weekday.{index}
use Rattle.cal_time.specs.MonthCycle as months
use Rattle.cal_time.specs.WeekdayCycle as weekdays
use Rattle.cal_time.specs.Occurrences.{days_from, days_back_from}
use Rattle.cal_time.proofs.Weekdays.{count_before-same}
use Rattle.cal_schedule.specs.MonthLaws.{month_numbers-rise, number_from, first-least, last-greatest}
use Rattle.cal_schedule.specs.Months.{month_number_at}
use Rattle.cal_schedule.specs.Ranks.{count-none, count-yes, nth-from, nth-back}
use Rattle.cal_schedule.specs.Weekdays.{is_weekday_in_month, IsWeekdayInMonth, IsNthWeekday, IsLastWeekday}
use Rattle.cal_schedule.specs.WeekdaysLaws.{index-nth, last-index}
use Rattle.cal_zone.specs.declared.yearly.Yearly.{Yearly}
use Rattle.cal_zone.specs.Rule.{day_of, IsYearly}

-- the test and what it means
test-yes : (w : ℕ) (y : ℤ) (m n : ℕ) → IsWeekdayInMonth y m w n → is_weekday_in_month w y m n ≡ true
test-yes w y m n is = rw ((Decides-int_eq (year_at n) y).1 is.year, eq-eqb _ _ is.month, eq-eqb _ _ is.weekday) refl

test-is : (w : ℕ) (y : ℤ) (m n : ℕ) → is_weekday_in_month w y m n ≡ true → IsWeekdayInMonth y m w n
test-is w y m n h =
    let year = and_parts _ _ h in
    let month = and_parts _ _ year.1 in
    record { year = (Decides-int_eq (year_at n) y).0 year.0; month = eqb-true _ _ month.0; weekday = eqb-true _ _ month.1 }

-- ---- what the code finds is what the definition finds
pub found-nth : (w : ℕ) (y : ℤ) (m k n size : ℕ) → n < size → 1 ≤ k → IsNthWeekday y m w k n
    → slice_get (filter (is_weekday_in_month w y m) (days_from 0 size)) (k - 1) ≡ Some n
found-nth w y m k n size below some is =
    let test = is_weekday_in_month w y m in
    let on : test n ≡ true = test-yes w y m n is.is in
    let next : n + 1 ≡ suc n = omega arith in
    nth-from test 0 size (k - 1) n (omega arith) (omega arith) on
    (omega (arith, count-none test, count-yes test n on, ap (count_before test) next, is.nth))

pub found-last : (w : ℕ) (y : ℤ) (m n size : ℕ) → n < size → IsLastWeekday y m w n
    → slice_get (filter (is_weekday_in_month w y m) (days_back_from size)) 0 ≡ Some n
found-last w y m n size below is =
    let test = is_weekday_in_month w y m in
    let on : test n ≡ true = test-yes w y m n is.is in
    let later : (k : ℕ) → suc n ≤ k → test k ≡ false = λ k h. elim (cases_Bool (test k)) [
      | inl hit ↦ absurd (is.last k (omega arith) (test-is w y m k hit))
      | inr miss ↦ miss
    ] in
    let still = count_before-same test (suc n) (size - suc n) later in
    let sums : suc n + (size - suc n) ≡ size = omega arith in
    nth-back test size 0 n below on
    (omega (arith, count-yes test n on, still, ap (count_before test) sums))

-- ---- each year has it
pub record IsFound (P : ℕ → Type 0) : Type 0 where
  pub day : ℕ
  pub date : IsDate day
  pub is : P day

place : ℕ → ℕ → ℕ → ℕ
place f w k = 7 * k + (w + 7 - f % 7) % 7 - 6

pub some-nth : (y : ℤ) (m w k : ℕ) → IsYear y → IsMonth m → w < 7 → 1 ≤ k → k ≤ 4 → IsFound (IsNthWeekday y m w k)
unfolding place
some-nth y m w k year month below low high =
    let least = days_in_month-least y m in
    let first = day_with y m 1 year month (omega arith, omega arith) in
    let d = place first.day w k in
    let found = day_with y m d year month (omega arith, omega arith) in
    record { day = found.day; date = found.date; is = index-nth y m first.day w k d found.day first.has found.has below (omega arith) }

pub some-last : (y : ℤ) (m w : ℕ) → IsYear y → IsMonth m → w < 7 → IsFound (IsLastWeekday y m w)
some-last y m w year month below =
    let least = days_in_month-least y m in
    let end = day_with y m (days_in_month y m) year month (omega arith, omega arith) in
    let found = day_with y m (days_in_month y m - (weekday_at end.day + 7 - w) % 7) year month (omega arith, omega arith) in
    record { day = found.day; date = found.date; is = last-index y m end.day w found.day end.date found.date below end.has found.has }

-- ---- the day of a change, by cases
pub day_of-nth : (r : Yearly) (y : ℤ) (n : ℕ) → IsDate n → 1 ≤ r.week → r.week ≤ 4 → IsNthWeekday y (number r.month) (index r.weekday) r.week n → day_of r y ≡ n
unfolding day_of
day_of-nth r y n date low high is =
    let other : (r.week == 5) ≡ false = grind (arith, nat_tests) in
    let find = found-nth (index r.weekday) y (number r.month) r.week n (last_day + 1) (omega arith) low is in
    rw (other, find) refl

pub day_of-last : (r : Yearly) (y : ℤ) (n : ℕ) → IsDate n → r.week ≡ 5 → IsLastWeekday y (number r.month) (index r.weekday) n → day_of r y ≡ n
unfolding day_of
day_of-last r y n date five is =
    let same : (r.week == 5) ≡ true = grind (arith, nat_tests) in
    let find = found-last (index r.weekday) y (number r.month) n (last_day + 1) (omega arith) is in
    rw (same, find) refl

-- as the code counts it, from the last or the first day of the month
pub last_is : (r : Yearly) (y : ℤ) (l t s p d n : ℕ) → l ≡ days_in_month y (number r.month) → s ≡ weekday_at t → p ≡ index r.weekday → d ≡ l - (s + 7 - p) % 7
    → r.week ≡ 5 → IsDate t → IsDate n → HasCalendarDate y (number r.month) l t → HasCalendarDate y (number r.month) d n → n ≡ day_of r y
last_is r y l t s p d n length weekday place day five dates date end at =
    let m = number r.month in
    let is : d ≡ days_in_month y m - (weekday_at t + 7 - index r.weekday) % 7 = omega (arith, length, weekday, place, day) in
    sym (day_of-last r y n date five
    (last-index y m t (index r.weekday) n dates date (weekdays.index-below r.weekday)
    (subst (λ (k : ℕ). HasCalendarDate y m k t) length end) (subst (λ (k : ℕ). HasCalendarDate y m k n) is at)))

pub nth_is : (r : Yearly) (y : ℤ) (f s p d n : ℕ) → s ≡ weekday_at f → p ≡ index r.weekday → d ≡ 7 * r.week - 6 + (p + 7 - s) % 7
    → 1 ≤ r.week → r.week ≤ 4 → IsDate n → HasCalendarDate y (number r.month) 1 f → HasCalendarDate y (number r.month) d n → n ≡ day_of r y
nth_is r y f s p d n weekday place day low high date first at =
    sym (day_of-nth r y n date low high
    (index-nth y (number r.month) f (index r.weekday) r.week d n first at (weekdays.index-below r.weekday) (omega (arith, weekday_at-is f, weekday, place, day, low))))

-- it is a day of the range in that year and month
pub record IsRuleDay (r : Yearly) (y : ℤ) : Type 0 where
  pub date : IsDate (day_of r y)
  pub month : month_number_at (day_of r y) ≡ y *ℤ pos 12 +ℤ pos (number r.month) -ℤ pos 1

pub is_month : (r : Yearly) → IsMonth (number r.month)
is_month r = let h = months.index-below r.month in (omega arith, omega arith)

in_month : (r : Yearly) (y : ℤ) (n : ℕ) → day_of r y ≡ n → IsDate n → IsWeekdayInMonth y (number r.month) (index r.weekday) n → IsRuleDay r y
in_month r y n e date is = record {
  date = subst IsDate (sym e) date;
  month = ap month_number_at e ∙ ap (λ m. year_at n *ℤ pos 12 +ℤ pos m -ℤ pos 1) is.month ∙ ap (λ z. z *ℤ pos 12 +ℤ pos (number r.month) -ℤ pos 1) is.year;
}

pub rule_day : (r : Yearly) (y : ℤ) → IsYear y → IsYearly r → IsRuleDay r y
rule_day r y year h =
    elim (cases_eq r.week 5) as (λ _. IsRuleDay r y) [
      | inl five ↦
          let f = some-last y (number r.month) (index r.weekday) year (is_month r) (weekdays.index-below r.weekday) in
          in_month r y f.day (day_of-last r y f.day f.date five f.is) f.date f.is.is
      | inr other ↦
          let f = some-nth y (number r.month) (index r.weekday) r.week year (is_month r) (weekdays.index-below r.weekday) h.week.0 (let most = h.week.1 in omega arith) in
          in_month r y f.day (day_of-nth r y f.day f.date h.week.0 (let most = h.week.1 in omega arith) f.is) f.date f.is.is
    ]

-- ---- a whole month lies between days whose months are two apart
before_month : (a f : ℕ) → month_number_at a <ℤ month_number_at f → a < f
before_month a f h =
    elim (cases_lt a f) as (λ _. a < f) [
      | inl less ↦ less
      | inr most ↦ absurd (omega (arith, ints, h, month_numbers-rise f a most))
    ]

pub month_between : (a b : ℕ) (y : ℤ) (m : ℕ) → IsYear y → IsMonth m
    → month_number_at a <ℤ (y *ℤ pos 12 +ℤ pos m -ℤ pos 1) → (y *ℤ pos 12 +ℤ pos m -ℤ pos 1) <ℤ month_number_at b → a + 29 ≤ b
month_between a b y m year month low high =
    let least = days_in_month-least y m in
    let first = day_with y m 1 year month (omega arith, omega arith) in
    let late = days-follow y m first.day 27 first.has (omega arith) in
    let start = before_month a first.day (subst (λ (z : ℤ). month_number_at a <ℤ z) (sym (number_from first.day y m 1 first.has)) low) in
    let end = before_month (first.day + 27) b (subst (λ (z : ℤ). z <ℤ month_number_at b) (sym (number_from (first.day + 27) y m 28 late)) high) in
    omega arith

-- ---- the day of a change is at least 335 days later in the next year
longest : (y : ℤ) (m : ℕ) → days_in_month y m ≤ 31
unfolding days_in_month
longest y m = grind (arith, nat_tests)

shortest : (y : ℤ) → 365 ≤ days_in_year y
shortest y = grind (arith, nat_tests)

first_later : (y : ℤ) (m : ℕ) → IsYear y → IsMonth m → number_with y m (days_in_month y m) + 335 ≤ number_with (y +ℤ pos 1) m 1
first_later y m year month =
    let mark = bool_byte (nat_le m 2) in
    let is = marked m mark refl in
    let most = is.most in
    let years = years_before y + 1 - mark in
    let next : suc years + mark ≡ years_before (y +ℤ pos 1) + 1 = omega (arith, ints, year.0, most) in
    let least = days_in_month-least y m in
    let here = march_number y m (days_in_month y m) mark years year.0 month (omega arith) is (omega (arith, most)) in
    let there = march_number (y +ℤ pos 1) m 1 mark (suc years) (omega (arith, ints, year.0)) month (omega arith) is next in
    omega (arith, here, there, days_of_years-suc years, shortest (first_year +ℤ pos years), longest y m)

pub year_later : (r : Yearly) (y : ℤ) → IsYear y → IsYear (y +ℤ pos 1) → IsYearly r → day_of r y + 335 ≤ day_of r (y +ℤ pos 1)
year_later r y year next h =
    let m = number r.month in
    let month = is_month r in
    let least = days_in_month-least y m in
    let end = has_number y m (days_in_month y m) year.0 month (omega arith, omega arith) in
    let start = has_number (y +ℤ pos 1) m 1 next.0 month (omega arith, omega (arith, days_in_month-least (y +ℤ pos 1) m)) in
    let before = last-greatest _ (day_of r y) y m end (omega (arith, ints, (rule_day r y year h).month)) in
    let after = first-least _ (day_of r (y +ℤ pos 1)) (y +ℤ pos 1) m start (omega (arith, ints, (rule_day r (y +ℤ pos 1) next h).month)) in
    omega (arith, before, after, first_later y m year month)
