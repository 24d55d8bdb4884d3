-- Laws for callers: the days of a month with a weekday, by their days of the month.
use Rattle.std.proofs.Common.{◌≡◌, ℕ, ◌+◌, ◌-◌, ◌*◌, ◌/◌, ◌%◌, ◌<◌, ◌≤◌, ◌==◌, refl, sym, ap, ◌∙◌, arith, ℤ, Bool, true}
use Rattle.std.proofs.lemmas.Bool.{and_parts, eq-eqb, eqb-true, false_from_ne_true}
use Rattle.std.proofs.lemmas.Bool.Decides.{Decides-int_eq}
use Rattle.std.proofs.lemmas.Int.{ints}
use Rattle.cal_time.specs.CalendarDay.{calendar_day}
use Rattle.cal_time.specs.Date.{year_at, month_at, day_of_month_at, weekday_at, IsDate, HasCalendarDate}
use Rattle.cal_time.specs.Days.{month_at-range, day_of_month_at-range, last_of}
use Rattle.cal_time.specs.IsoWeekDate.{count_before}
use Rattle.cal_time.specs.Laws.{weekday_at-is}
use Rattle.cal_time.specs.Lengths.{days_in_month}
use Rattle.cal_time.proofs.Weekdays.{IsSpan, count_in_span}
use Rattle.cal_schedule.specs.MonthLaws.{month_numbers-rise, first_before, days_apart, number_from, first-least, last-greatest}
use Rattle.cal_schedule.specs.Months.{month_number_at}
use Rattle.cal_schedule.specs.Weekdays.{is_weekday_in_month, IsNthWeekday, IsLastWeekday}

-- Day k is in the year y, in one of its months from a to b.
pub record IsInMonths (y : ℤ) (a b k : ℕ) : Type 0 where
  pub year : year_at k ≡ y
  pub least : a ≤ month_at k
  pub most : month_at k ≤ b

-- A day from the first day f of the month a to the last day l of the month b of the year y is in
-- these months.
pub within_months : (y : ℤ) (a b f l k : ℕ) → HasCalendarDate y a 1 f → HasCalendarDate y b (days_in_month y b) l → f ≤ k → k ≤ l → IsInMonths y a b k
within_months y a b f l k first last low high =
    let start = number_from f y a 1 first in
    let end = number_from l y b (days_in_month y b) last in
    let after = month_numbers-rise f k low in
    let before = month_numbers-rise k l high in
    let month = month_at-range k in
    let from = month_at-range f in
    let to = month_at-range l in
    let a_is : month_at f ≡ a = ap (λ c. c.month) first in
    let b_is : month_at l ≡ b = ap (λ c. c.month) last in
    record { year = omega (arith, ints, month.0, month.1, from.0, to.1); least = omega (arith, ints, month.0, month.1, from.0, to.1); most = omega (arith, ints, month.0, month.1, from.0, to.1) }

-- A day of these months is not before the first day f of the month a.
pub after_first : (y : ℤ) (a b f k : ℕ) → HasCalendarDate y a 1 f → IsInMonths y a b k → f ≤ k
after_first y a b f k first h = first-least f k y a first (omega (arith, ints, h.year, h.least))

-- A day of these months is not after the last day l of the month b.
pub before_last : (y : ℤ) (a b l k : ℕ) → HasCalendarDate y b (days_in_month y b) l → IsInMonths y a b k → k ≤ l
before_last y a b l k last h = last-greatest l k y b last (omega (arith, ints, h.year, h.most))

-- If a test holds for the days of these months with the weekday w, and for no other days, these are
-- the days with this weekday from day f to day l.
pub span_of : (test : ℕ → Bool) (w : ℕ) (y : ℤ) (a b f l : ℕ) → HasCalendarDate y a 1 f → HasCalendarDate y b (days_in_month y b) l
    → ((k : ℕ) → test k ≡ true → IsInMonths y a b k) → ((k : ℕ) → IsInMonths y a b k → test k ≡ (k % 7 == w)) → IsSpan test w f l
span_of test w y a b f l first last out in_months = record {
  before = λ k h. false_from_ne_true (test k) (λ on. omega (arith, after_first y a b f k first (out k on)));
  within = λ k low high. in_months k (within_months y a b f l k first last low high);
  past = λ k h. false_from_ne_true (test k) (λ on. omega (arith, before_last y a b l k last (out k on)));
}

-- A day that is in the month m of the year y and has the weekday w is in the months from m to m.
of_month : (w : ℕ) (y : ℤ) (m k : ℕ) → is_weekday_in_month w y m k ≡ true → IsInMonths y m m k
of_month w y m k on =
    let year = and_parts _ _ on in
    let month : month_at k ≡ m = eqb-true _ _ (and_parts _ _ year.1).0 in
    record { year = (Decides-int_eq (year_at k) y).0 year.0; least = omega arith; most = omega arith }

-- A day in the month m of the year y passes the test for the weekday w exactly if its remainder by
-- 7 is w.
in_month : (w : ℕ) (y : ℤ) (m k : ℕ) → IsInMonths y m m k → is_weekday_in_month w y m k ≡ (k % 7 == w)
in_month w y m k h =
    let month : (month_at k == m) ≡ true = eq-eqb _ _ (omega (arith, h.least, h.most)) in
    rw ((Decides-int_eq (year_at k) y).1 h.year, month, weekday_at-is k) refl

-- The days of a month with the weekday w are the days with this weekday from its first day f to its
-- last day l.
pub month_span : (w : ℕ) (y : ℤ) (m f l : ℕ) → HasCalendarDate y m 1 f → HasCalendarDate y m (days_in_month y m) l → IsSpan (is_weekday_in_month w y m) w f l
month_span w y m f l first last = span_of (is_weekday_in_month w y m) w y m m f l first last (of_month w y m) (in_month w y m)

-- Day n, the day d of a month with the first day f, is d - 1 days after f. The days of the month
-- with the weekday w up to day n are counted by whole weeks.
pub counted : (y : ℤ) (m f w d n : ℕ) → HasCalendarDate y m 1 f → HasCalendarDate y m d n → w < 7
    → (f + d ≡ n + 1) × (count_before (is_weekday_in_month w y m) (n + 1) + (f + 6 - w) / 7 ≡ (n + 7 - w) / 7)
counted y m f w d n e h below =
    let first : HasCalendarDate (year_at n) (month_at n) 1 f =
    e ∙ ap (λ z. calendar_day z m 1) (sym (ap (λ c. c.year) h)) ∙ ap (λ k. calendar_day (year_at n) k 1) (sym (ap (λ c. c.month) h)) in
    let day : day_of_month_at n ≡ d = ap (λ c. c.day) h in
    let sums : f + d ≡ n + 1 = omega (arith, first_before f n first) in
    let most : day_of_month_at n ≤ days_in_month (year_at n) (month_at n) = (day_of_month_at-range n).1 in
    let length : days_in_month (year_at n) (month_at n) ≡ days_in_month y m =
    ap (λ z. days_in_month z (month_at n)) (ap (λ c. c.year) h) ∙ ap (days_in_month y) (ap (λ c. c.month) h) in
    let span = month_span w y m f _ e (last_of y m f e) in
    let count = count_in_span (is_weekday_in_month w y m) w f _ d span below (omega arith) in
    let numbers : f + d + 6 - w ≡ n + 7 - w = omega arith in
    (sums, ap (λ k. count_before (is_weekday_in_month w y m) k + (f + 6 - w) / 7) (sym sums) ∙ count ∙ ap (λ k. k / 7) numbers)

-- The k-th day of a month with the weekday w, by its day of the month d. The first day of the month
-- is f.
pub index-nth : (y : ℤ) (m f w k d n : ℕ) → HasCalendarDate y m 1 f → HasCalendarDate y m d n → w < 7 → d + 6 ≡ 7 * k + (w + 7 - f % 7) % 7 → IsNthWeekday y m w k n
index-nth y m f w k d n e at below day =
    let count = counted y m f w d n e at below in
    record {
      is = record { year = ap (λ c. c.year) at; month = ap (λ c. c.month) at; weekday = weekday_at-is n ∙ omega (arith, count.0) };
      nth = omega (arith, count.0, count.1);
    }

-- The last day of a month with the weekday w, by its day of the month. The last day of the month is
-- t.
pub last-index : (y : ℤ) (m t w r : ℕ) → IsDate t → IsDate r → w < 7 → HasCalendarDate y m (days_in_month y m) t
    → HasCalendarDate y m (days_in_month y m - (weekday_at t + 7 - w) % 7) r → IsLastWeekday y m w r
last-index y m t w r dates date below end at =
    let weekday = weekday_at-is t in
    let day : day_of_month_at r ≡ days_in_month y m - (weekday_at t + 7 - w) % 7 = ap (λ c. c.day) at in
    let length : day_of_month_at t ≡ days_in_month y m = ap (λ c. c.day) end in
    let some : 1 ≤ day_of_month_at r = (day_of_month_at-range r).0 in
    let month = number_from t y m _ end in
    let here : r + day_of_month_at t ≡ t + day_of_month_at r = days_apart r t date (number_from r y m _ at ∙ sym month) in
    record {
      is = record { year = ap (λ c. c.year) at; month = ap (λ c. c.month) at; weekday = weekday_at-is r ∙ omega (arith, here, length, day, weekday, some) };
      last = λ k later is.
          let same : month_number_at t ≡ month_number_at k = omega (arith, ints, is.year, is.month, month) in
          let there : t + day_of_month_at k ≡ k + day_of_month_at t = days_apart t k dates same in
          let most : day_of_month_at k ≤ days_in_month (year_at k) (month_at k) = (day_of_month_at-range k).1 in
          let lengths : days_in_month (year_at k) (month_at k) ≡ days_in_month y m =
          ap (λ z. days_in_month z (month_at k)) is.year ∙ ap (days_in_month y) is.month in
          omega (arith, here, there, length, day, weekday, some, weekday_at-is k, is.weekday, most, lengths);
    }
