-- How often a weekday comes in the days of a month or of a year, which are a span of days.
use Rattle.std.proofs.Common.{◌≡◌, ℕ, ◌+◌, ◌-◌, ◌/◌, ◌%◌, ◌<◌, ◌≤◌, ◌==◌, refl, sym, ap, ◌∙◌, arith, ℤ, Bool, true}
use Rattle.std.proofs.lemmas.Bool.{and_parts}
use Rattle.std.proofs.lemmas.Bool.Decides.{Decides-int_eq}
use Rattle.cal_time.specs.Date.{last_day, year_at, IsDate, HasCalendarDate}
use Rattle.cal_time.specs.Days.{month_at-range}
use Rattle.cal_time.specs.IsoWeekDate.{count_before, is_weekday_of_year}
use Rattle.cal_time.specs.Laws.{weekday_at-is}
use Rattle.cal_time.specs.Lengths.{days_in_month}
use Rattle.cal_time.proofs.Weekdays.{IsSpan, count_before-same, count_in_span}
use Rattle.cal_schedule.specs.Ranks.{length-from}
use Rattle.cal_schedule.specs.Weekdays.{count_from}
use Rattle.cal_schedule.specs.WeekdaysLaws.{IsInMonths, span_of}

-- a day of the span: the o-th one, with o days up to it and as many from it on as are left
pub record IsPlaced (f l o n : ℕ) : Type 0 where
  pub place : f + o ≡ n + 1
  pub some : 1 ≤ o
  pub within : n ≤ l

pub count_upto : (test : ℕ → Bool) (w f l o n : ℕ) → IsSpan test w f l → IsPlaced f l o n → w < 7 → n % 7 ≡ w → count_before test (n + 1) ≡ (o + 6) / 7
count_upto test w f l o n span at below weekday =
    let count = count_in_span test w f l o span below (omega (arith, at.place, at.within)) in
    let place = at.place in
    omega (arith, ap (count_before test) place)

pub count_onward : (test : ℕ → Bool) (w f l o n : ℕ) → IsSpan test w f l → IsPlaced f l o n → w < 7 → n % 7 ≡ w → IsDate n → IsDate l
    → count_from test n ≡ (l - n) / 7 + 1
count_onward test w f l o n span at below weekday date end =
    let place = at.place in
    let within = at.within in
    let upto : count_before test n + (f + 6 - w) / 7 ≡ (n + 6 - w) / 7 =
    let sum : f + (o - 1) ≡ n = omega (arith, at.some) in
    rw sum at (count_in_span test w f l (o - 1) span below (omega (arith, at.some))) in
    let all : count_before test (l + 1) + (f + 6 - w) / 7 ≡ (l + 1 + 6 - w) / 7 =
    let sum : f + (l + 1 - f) ≡ l + 1 = omega (arith, at.some) in
    rw sum at (count_in_span test w f l (l + 1 - f) span below (omega (arith, at.some))) in
    let rest : count_before test (last_day + 1) ≡ count_before test (l + 1) =
    let sum : l + 1 + (last_day - l) ≡ last_day + 1 = omega arith in
    ap (count_before test) (sym sum) ∙ count_before-same test (l + 1) (last_day - l) (λ k h. span.past k (omega arith)) in
    let whole : n + (last_day + 1 - n) ≡ last_day + 1 = omega arith in
    omega (arith, length-from test n (last_day + 1 - n), ap (count_before test) whole)

of_year : (w : ℕ) (y : ℤ) (k : ℕ) → is_weekday_of_year w y k ≡ true → IsInMonths y 1 12 k
of_year w y k on =
    let month = month_at-range k in
    record { year = (Decides-int_eq (year_at k) y).0 (and_parts _ _ on).0; least = month.0; most = month.1 }

in_year : (w : ℕ) (y : ℤ) (k : ℕ) → IsInMonths y 1 12 k → is_weekday_of_year w y k ≡ (k % 7 == w)
in_year w y k h = rw ((Decides-int_eq (year_at k) y).1 h.year, weekday_at-is k) refl

pub year_span : (w : ℕ) (y : ℤ) (f l : ℕ) → HasCalendarDate y 1 1 f → HasCalendarDate y 12 (days_in_month y 12) l → IsSpan (is_weekday_of_year w y) w f l
year_span w y f l first last = span_of (is_weekday_of_year w y) w y 1 12 f l first last (of_year w y) (in_year w y)
