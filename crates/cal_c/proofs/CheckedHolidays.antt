-- Holidays of a struct, and its working days by their ranks.
use Rattle.std.proofs.Common.{◌≡◌, ℕ, zero, suc, ◌+◌, ◌-◌, ◌<◌, ◌≤◌, sym, ap, ◌∙◌, arith, subst, List, Bool, add-one, if◌then◌else◌, not, false, pos, length, get_or, take, Option, true, inl, inr, ℤ, negsuc, ◌+ℤ◌, ◌-ℤ◌, ◌<ℤ◌, ◌≤ℤ◌}
use Rattle.std.specs.Int.Signed.{lt_z, lt_z_yes, lt_z_no}
use Rattle.std.specs.Prelude.{Result, Ok, Err}
use Rattle.std.specs.Int.{from_bool}
use Rattle.std.proofs.lemmas.Bool.{cases_Bool, cases_lt}
use Rattle.std.proofs.lemmas.Float.{T_from_true}
use Rattle.std.proofs.lemmas.Int.{ints}
use Rattle.std.proofs.lemmas.List.{get_or-map, get_or_default, length-map, length-take}
use Rattle.std.proofs.Math.Nat.{min-le_left}
use Rattle.std.proofs.lemmas.List.Sums.{count_by-le-length}
use Rattle.cal_time.specs.Date.{IsDate}
use Rattle.cal_time.specs.IsoWeekDate.{count_before}
use Rattle.cal_schedule.specs.Ranks.{count-yes, count-no}
use Rattle.cal_schedule.specs.Workdays.{WorkWeek, is_marked, is_workday, nth_workday}
use Rattle.cal_schedule.specs.WorkdaysSplit.{marked_count, IsRanked}
use Rattle.cal_schedule.proofs.WorkdaysSearch.{from-rank, back-rank}
use Rattle.cal_text.proofs.Results.{one}
use Rattle.cal_c.specs.CheckedWorkdays.{counted_at, counted_in, week_of, AreCounted, CountedHolidays, HasLimits, IsForView, IsForWeek, IsNext, IsValid}
use Rattle.cal_c.specs.Values.{IsJulianDay, dates_in, day_of, max_dates}
use Rattle.cal_c.specs.Weekmasks.{AreHolidays, IsWeekmask}
use Rattle.cal_c.specs.declared.schedule.workdays.checked_workdays.CheckedWorkdays.{CheckedWorkdays}
use Rattle.cal_c.specs.declared.schedule.workdays.workdays_view.WorkdaysView.{WorkdaysView}
use Rattle.cal_c.specs.declared.status.TheConstants.{INVALID_HOLIDAYS, INVALID_WEEKMASK, TOO_MANY_HOLIDAYS}

-- numbers that are Julian days, each greater than the one before it, are holidays
pub are-holidays : (hs : List ℤ) → ((k : ℕ) → k < length hs → IsNext hs k) → AreHolidays hs
are-holidays hs next = record {
  dates = λ k d low. subst IsJulianDay (get_or_default hs k (pos 0) d low) (next k low).date;
  rising = λ k d low.
      let here = length-map hs day_of in
      let less : k + 1 < length hs = omega (arith, here, low) in
      let less_one : k < length hs = omega (arith, less) in
      let one = get_or-map day_of hs k (pos 0) d less_one in
      let other = get_or-map day_of hs (k + 1) (pos 0) d less in
      let j = (next k less_one).date in
      let h = (next (k + 1) less).date in
      let same : k + 1 - 1 ≡ k = omega arith in
      let more = (next (k + 1) less).after (omega arith) in
      let before = ap (λ i. get_or hs i (pos 0)) same in
      omega (arith, ints, one, other, j.not_before, h.not_before, more, before);
}

pub holidays-next : (hs : List ℤ) → AreHolidays hs → (k : ℕ) → k < length hs → IsNext hs k
holidays-next hs are k low = record {
  date = are.dates k (pos 0) low;
  after = λ some.
      let here = length-map hs day_of in
      let up : k - 1 + 1 ≡ k = omega (arith, some) in
      let less : k - 1 < length hs = omega (arith, low) in
      let one = get_or-map day_of hs (k - 1) (pos 0) 0 less in
      let other = get_or-map day_of hs k (pos 0) 0 low in
      let j = are.dates (k - 1) (pos 0) less in
      let h = are.dates k (pos 0) low in
      let more = are.rising (k - 1) 0 (omega (arith, here, low, up)) in
      let after = ap (λ i. get_or (dates_in hs) i 0) up in
      omega (arith, ints, one, other, j.not_before, h.not_before, more, after);
}

-- one more number
pub next-more : (hs : List ℤ) (i : ℕ) → ((k : ℕ) → k < i → IsNext hs k) → IsNext hs i → (k : ℕ) → k < i + 1 → IsNext hs k
next-more hs i before here k less = elim (cases_lt k i) as (λ _. IsNext hs k) [
  | inl low ↦ before k low
  | inr most ↦ let same : i ≡ k = omega (arith, most, less) in subst (IsNext hs) same here
]

-- at most as many holidays are marked as there are before an index
pub marked-most : (w : WorkWeek) (i : ℕ) → marked_count w i ≤ i
marked-most w i = omega (arith, count_by-le-length (is_marked w.marks) (take i w.holidays), length-take i w.holidays, min-le_left i (length w.holidays))

-- the n-th working day after a day, and before it
pub after-rank : (w : WorkWeek) (n : ℕ) (days rank : ℤ) (r : Option ℕ) → IsDate n → pos 0 <ℤ days
    → rank ≡ pos (count_before (is_workday w) (n + 1)) +ℤ (days -ℤ pos 1) → IsRanked (is_workday w) rank r → r ≡ nth_workday w days n
after-rank w n (pos zero) rank r date up e h = absurd (omega (arith, ints))
after-rank w n (pos (suc k)) rank r date up e h = (from-rank w (n + 1) k rank r (omega (arith, date)) (omega (arith, ints)) h).0
after-rank w n (negsuc k) rank r date up e h = absurd (omega (arith, ints))

pub before-rank : (w : WorkWeek) (n : ℕ) (days rank : ℤ) (r : Option ℕ) → IsDate n → days ≤ℤ pos 0
    → rank ≡ pos (count_before (is_workday w) n) +ℤ days → IsRanked (is_workday w) rank r → r ≡ nth_workday w days n
before-rank w n (pos zero) rank r date down e h = (from-rank w n 0 rank r (omega (arith, date)) (omega (arith, ints)) h).0
before-rank w n (pos (suc k)) rank r date down e h = absurd (omega (arith, ints))
before-rank w n (negsuc k) rank r date down e h = (back-rank w n k rank r (omega (arith, date)) (omega (arith, ints)) h).0

pub bit-of : (b q : Bool) → b ≡ q → pos (from_bool b) ≡ (if q then pos 1 else pos 0)
bit-of true q e = ap (λ a. if a then pos 1 else pos 0) e
bit-of false q e = ap (λ a. if a then pos 1 else pos 0) e

-- the rank rises by 1 after a working day
pub rank-test : (w : WorkWeek) (n : ℕ) (a b : ℤ) → a ≡ pos (count_before (is_workday w) n) → b ≡ pos (count_before (is_workday w) (n + 1)) → lt_z a b ≡ is_workday w n
rank-test w n a b e f =
    let next = ap (count_before (is_workday w)) (add-one n) in
    elim (cases_Bool (lt_z a b)) as (λ _. lt_z a b ≡ is_workday w n) [
      | inl less ↦ elim (cases_Bool (is_workday w n)) as (λ _. lt_z a b ≡ is_workday w n) [
        | inl on ↦ less ∙ sym on
        | inr off ↦ absurd (omega (arith, ints, lt_z_yes {a = a} {b = b} (T_from_true (lt_z a b) less), next, count-no (is_workday w) n off))
      ]
      | inr most ↦ elim (cases_Bool (is_workday w n)) as (λ _. lt_z a b ≡ is_workday w n) [
        | inl on ↦ absurd (omega (arith, ints, lt_z_no {a = a} {b = b} (T_from_true (not (lt_z a b)) (ap not most)), next, count-yes (is_workday w) n on))
        | inr off ↦ most ∙ sym off
      ]
    ]

-- the result for working days with valid limits, and for those of a view
never : {d : CountedHolidays} {s : ℤ} → ◌≡◌ {A = Result CountedHolidays ℤ} (Ok d) (Err s) → ⊥
never e = cc

pub for_week : (c : CheckedWorkdays) (d : CountedHolidays) (Error : ℤ → Type 0) (Any : Type 0) (Then : WorkWeek → Type 0)
    → ((IsWeekmask c.weekmask → ⊥) → ◌≡◌ {A = Result CountedHolidays ℤ} (Ok d) (Err INVALID_WEEKMASK))
    → (IsWeekmask c.weekmask → max_dates < c.holidays_length → ◌≡◌ {A = Result CountedHolidays ℤ} (Ok d) (Err TOO_MANY_HOLIDAYS))
    → (IsValid c → ◌≡◌ {A = Result CountedHolidays ℤ} (Ok d) (Ok (counted_in c))) → Any → (AreCounted d → Then (week_of d)) → IsForWeek c Error Any Then
for_week c d Error Any Then weekmask holidays same any found = record {
  invalid_weekmask = λ out. absurd (never (weekmask out));
  too_many_holidays = λ is many. absurd (never (holidays is many));
  any = λ limits. any;
  value = λ checked. subst (λ (k : CountedHolidays). AreCounted k → Then (week_of k)) (one d (counted_in c) (same checked.limits)) found checked.counted;
}

pub for_view : (v : WorkdaysView) (d : CountedHolidays) (Error : ℤ → Type 0) (Any : Type 0) (Then : WorkWeek → Type 0)
    → ((IsWeekmask v.weekmask → ⊥) → ◌≡◌ {A = Result CountedHolidays ℤ} (Ok d) (Err INVALID_WEEKMASK))
    → (IsWeekmask v.weekmask → (HasLimits (counted_at v) → ⊥) → ◌≡◌ {A = Result CountedHolidays ℤ} (Ok d) (Err INVALID_HOLIDAYS))
    → (HasLimits (counted_at v) → ◌≡◌ {A = Result CountedHolidays ℤ} (Ok d) (Ok (counted_at v))) → Any → (AreCounted d → Then (week_of d)) → IsForView v Error Any Then
for_view v d Error Any Then weekmask holidays same any found = record {
  invalid_weekmask = λ out. absurd (never (weekmask out));
  invalid_holidays = λ is out. absurd (never (holidays is out));
  any = λ limits. any;
  value = λ limits counted. subst (λ (k : CountedHolidays). AreCounted k → Then (week_of k)) (one d (counted_at v) (same limits)) found counted;
}
