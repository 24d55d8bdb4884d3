-- The number of a weekday in a rule agrees with a count of days.
use Rattle.std.proofs.Common.{◌≡◌, ℕ, zero, suc, ◌+◌, ◌-◌, ◌/◌, ◌≤◌, ◌==◌, ◌↔◌, refl, sym, ap, ◌∙◌, arith, ℤ, pos, negsuc, ◌+ℤ◌, inl, inr, Bool, true, false}
use Rattle.std.proofs.lemmas.Bool.{cases_lt, eq-eqb, eqb-true}
use Rattle.cal_time.specs.Date.{year_at, month_at, day_of_month_at, ordinal_at, weekday_at, IsDate, HasCalendarDate}
use Rattle.cal_time.specs.Days.{day_of_month_at-range, day_with, month_at-range, year-next, year_at-range}
use Rattle.cal_time.specs.Laws.{weekday_at-is}
use Rattle.cal_time.specs.Lengths.{days_in_month, days_in_year}
use Rattle.cal_time.specs.Components.{ordinals-apart, ordinals-apart_a_year}
use Rattle.cal_schedule.specs.Rule.{is_nth_weekday}
use Rattle.cal_schedule.specs.RuleLaws.{NumbersByCount}
use Rattle.cal_schedule.specs.Weekdays.{IsLastWeekday, IsNthWeekday, IsNthWeekdayFromEnd, IsNthWeekdayOfYear, IsNthWeekdayOfYearFromEnd}
use Rattle.cal_schedule.proofs.Ends.{days_in_month-least, last-apart}
use Rattle.cal_schedule.proofs.MonthMoves.{days_apart, first_before, number_from}
use Rattle.cal_schedule.specs.WeekdaysLaws.{IsInMonths, after_first, before_last, month_span, within_months}
use Rattle.cal_schedule.proofs.WeekdaySpans.{IsPlaced, count_onward, count_upto, year_span}

-- the month of a day, from its first day to its last
pub record IsMonthOf (n : ℕ) : Type 0 where
  pub first : ℕ
  pub last : ℕ
  pub date : IsDate last
  pub begins : HasCalendarDate (year_at n) (month_at n) 1 first
  pub ends : HasCalendarDate (year_at n) (month_at n) (days_in_month (year_at n) (month_at n)) last
  pub place : first + day_of_month_at n ≡ n + 1
  pub left : last + day_of_month_at n ≡ n + days_in_month (year_at n) (month_at n)

pub month_of : (n : ℕ) → IsDate n → IsMonthOf n
month_of n h =
    let y = year_at n in
    let m = month_at n in
    let some = days_in_month-least y m in
    let first = day_with y m 1 (year_at-range n h) (month_at-range n) (omega arith, omega arith) in
    let last = day_with y m (days_in_month y m) (year_at-range n h) (month_at-range n) (omega arith, omega arith) in
    record {
      first = first.day;
      last = last.day;
      date = last.date;
      begins = first.has;
      ends = last.has;
      place = first_before first.day n first.has;
      left = last-apart last.day n last.date last.has;
    }

-- and its year
ordinal_at-first : (y : ℤ) (n : ℕ) → HasCalendarDate y 1 1 n → ordinal_at n ≡ 1
unfolding ordinal_at
ordinal_at-first y zero e = refl
ordinal_at-first y (suc n) e = rw e refl

pub record IsYearOf (n : ℕ) : Type 0 where
  pub first : ℕ
  pub last : ℕ
  pub date : IsDate last
  pub begins : HasCalendarDate (year_at n) 1 1 first
  pub ends : HasCalendarDate (year_at n) 12 (days_in_month (year_at n) 12) last
  pub first_most : first ≤ n
  pub last_least : n ≤ last
  pub place : first + ordinal_at n ≡ n + 1
  pub left : last + ordinal_at n ≡ n + days_in_year (year_at n)

pub year_of : (n : ℕ) → IsDate n → IsYearOf n
year_of n h =
    let y = year_at n in
    let in_year : IsInMonths y 1 12 n = record { year = refl; least = (month_at-range n).0; most = (month_at-range n).1 } in
    let some = days_in_month-least y 12 in
    let january = days_in_month-least y 1 in
    let first = day_with y 1 1 (year_at-range n h) (omega arith, omega arith) (omega arith, omega arith) in
    let month = day_with y 12 1 (year_at-range n h) (omega arith, omega arith) (omega arith, omega arith) in
    let last = day_with y 12 (days_in_month y 12) (year_at-range n h) (omega arith, omega arith) (omega arith, omega arith) in
    let apart : month.day + day_of_month_at last.day ≡ last.day + day_of_month_at month.day =
    days_apart month.day last.day month.date (number_from month.day y 12 1 month.has ∙ sym (number_from last.day y 12 (days_in_month y 12) last.has)) in
    let next : month.day + days_in_month y 12 ≡ last.day + 1 = omega (arith, ap (λ c. c.day) last.has, ap (λ c. c.day) month.has) in
    let new : HasCalendarDate (y +ℤ pos 1) 1 1 (month.day + days_in_month y 12) = year-next y month.day month.has in
    let here = ordinals-apart first.day n (ap (λ c. c.year) first.has) in
    let there = ordinals-apart_a_year y n (month.day + days_in_month y 12) refl (ap (λ c. c.year) new) in
    record {
      first = first.day;
      last = last.day;
      date = last.date;
      begins = first.has;
      ends = last.has;
      first_most = after_first y 1 12 first.day n first.has in_year;
      last_least = before_last y 1 12 last.day n last.has in_year;
      place = omega (arith, ordinal_at-first y first.day first.has);
      left = omega (arith, ordinal_at-first (y +ℤ pos 1) _ new);
    }

-- what the formulas say
up_in_month : (n k : ℕ) → is_nth_weekday false n (pos k) ≡ ((day_of_month_at n + 6) / 7 == k)
unfolding is_nth_weekday
up_in_month n k = refl

back_in_month : (n k : ℕ) → is_nth_weekday false n (negsuc k) ≡ ((days_in_month (year_at n) (month_at n) - day_of_month_at n) / 7 + 1 == suc k)
unfolding is_nth_weekday
back_in_month n k = refl

up_in_year : (n k : ℕ) → is_nth_weekday true n (pos k) ≡ ((ordinal_at n + 6) / 7 == k)
unfolding is_nth_weekday
up_in_year n k = refl

back_in_year : (n k : ℕ) → is_nth_weekday true n (negsuc k) ≡ ((days_in_year (year_at n) - ordinal_at n) / 7 + 1 == suc k)
unfolding is_nth_weekday
back_in_year n k = refl

-- The number equals the count.
same_number : (b : Bool) (a i count k : ℕ) → b ≡ (a == i) → count ≡ a → i ≡ k → (b ≡ true) ↔ (count ≡ k)
same_number b a i count k e f g = (
  λ on. f ∙ eqb-true a i (sym e ∙ on) ∙ g,
  λ same. e ∙ eq-eqb a i (sym f ∙ same ∙ sym g),
)

by_month : (n : ℕ) → IsDate n → IsMonthOf n → (k : ℕ) → (is_nth_weekday false n (pos k) ≡ true) ↔ IsNthWeekday (year_at n) (month_at n) (weekday_at n) k n
by_month n h at k =
    let w = weekday_at n in
    let is = weekday_at-is n in
    let span = month_span w (year_at n) (month_at n) at.first at.last at.begins at.ends in
    let day = day_of_month_at-range n in
    let placed : IsPlaced at.first at.last (day_of_month_at n) n = record { place = at.place; some = day.0; within = omega (arith, at.left, day.1) } in
    let same = same_number _ _ k _ k (up_in_month n k) (count_upto _ w at.first at.last (day_of_month_at n) n span placed (omega arith) (sym is)) refl in
    (λ on. record { is = record { year = refl; month = refl; weekday = refl }; nth = same.0 on }, λ has. same.1 has.nth)

by_month_back : (n : ℕ) → IsDate n → IsMonthOf n → (k : ℕ)
    → (is_nth_weekday false n (negsuc k) ≡ true) ↔ IsNthWeekdayFromEnd (year_at n) (month_at n) (weekday_at n) (k + 1) n
by_month_back n h at k =
    let w = weekday_at n in
    let is = weekday_at-is n in
    let span = month_span w (year_at n) (month_at n) at.first at.last at.begins at.ends in
    let day = day_of_month_at-range n in
    let placed : IsPlaced at.first at.last (day_of_month_at n) n = record { place = at.place; some = day.0; within = omega (arith, at.left, day.1) } in
    let left : at.last - n ≡ days_in_month (year_at n) (month_at n) - day_of_month_at n = omega (arith, at.left, day.1) in
    let count = count_onward _ w at.first at.last (day_of_month_at n) n span placed (omega arith) (sym is) h at.date ∙ ap (λ d. d / 7 + 1) left in
    let same = same_number _ _ (suc k) _ (k + 1) (back_in_month n k) count (omega arith) in
    (λ on. record { is = record { year = refl; month = refl; weekday = refl }; nth = same.0 on }, λ has. same.1 has.nth)

-- the last one has no other of its month after it
by_month_last : (n : ℕ) → IsMonthOf n → (is_nth_weekday false n (negsuc 0) ≡ true) ↔ IsLastWeekday (year_at n) (month_at n) (weekday_at n) n
by_month_last n at =
    let y = year_at n in
    let m = month_at n in
    let day = day_of_month_at-range n in
    let is = weekday_at-is n in
    let left = at.left in (
      λ on. record {
        is = record { year = refl; month = refl; weekday = refl };
        last = λ k later has.
            let one : (days_in_month y m - day_of_month_at n) / 7 + 1 ≡ 1 = eqb-true _ _ (sym (back_in_month n 0) ∙ on) in
            let most : k ≤ at.last = before_last y m m at.last k at.ends (record { year = has.year; least = omega (arith, has.month); most = omega (arith, has.month) }) in
            omega (arith, has.weekday, weekday_at-is k, day.1);
      },
      λ has. back_in_month n 0 ∙ eq-eqb _ _ (elim (cases_lt at.last (n + 7)) as (λ _. (days_in_month y m - day_of_month_at n) / 7 + 1 ≡ 1) [
        | inl less ↦ omega (arith, day.1)
        | inr most ↦
            let next = within_months y m m at.first at.last (n + 7) at.begins at.ends (omega (arith, at.place, day.0)) most in
            absurd (has.last (n + 7) (omega arith) (record {
              year = next.year;
              month = omega (arith, next.least, next.most);
              weekday = omega (arith, weekday_at-is (n + 7));
            }))
      ]),
    )

by_year : (n : ℕ) → IsDate n → IsYearOf n → (k : ℕ) → (is_nth_weekday true n (pos k) ≡ true) ↔ IsNthWeekdayOfYear (year_at n) (weekday_at n) k n
by_year n h at k =
    let w = weekday_at n in
    let is = weekday_at-is n in
    let span = year_span w (year_at n) at.first at.last at.begins at.ends in
    let placed : IsPlaced at.first at.last (ordinal_at n) n = record { place = at.place; some = omega (arith, at.place, at.first_most); within = at.last_least } in
    let same = same_number _ _ k _ k (up_in_year n k) (count_upto _ w at.first at.last (ordinal_at n) n span placed (omega arith) (sym is)) refl in
    (λ on. record { is = record { year = refl; weekday = refl }; nth = same.0 on }, λ has. same.1 has.nth)

by_year_back : (n : ℕ) → IsDate n → IsYearOf n → (k : ℕ)
    → (is_nth_weekday true n (negsuc k) ≡ true) ↔ IsNthWeekdayOfYearFromEnd (year_at n) (weekday_at n) (k + 1) n
by_year_back n h at k =
    let w = weekday_at n in
    let is = weekday_at-is n in
    let span = year_span w (year_at n) at.first at.last at.begins at.ends in
    let placed : IsPlaced at.first at.last (ordinal_at n) n = record { place = at.place; some = omega (arith, at.place, at.first_most); within = at.last_least } in
    let left : at.last - n ≡ days_in_year (year_at n) - ordinal_at n = omega (arith, at.left, at.last_least) in
    let count = count_onward _ w at.first at.last (ordinal_at n) n span placed (omega arith) (sym is) h at.date ∙ ap (λ d. d / 7 + 1) left in
    let same = same_number _ _ (suc k) _ (k + 1) (back_in_year n k) count (omega arith) in
    (λ on. record { is = record { year = refl; weekday = refl }; nth = same.0 on }, λ has. same.1 has.nth)

pub numbers_by_count : (n : ℕ) → IsDate n → NumbersByCount n
numbers_by_count n h =
    let month = month_of n h in
    let year = year_of n h in
    record {
      of_month = by_month n h month;
      of_month_from_end = by_month_back n h month;
      last_of_month = by_month_last n month;
      of_year = by_year n h year;
      of_year_from_end = by_year_back n h year;
    }
