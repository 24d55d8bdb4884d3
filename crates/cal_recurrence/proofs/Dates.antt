-- The day that eight digits spell.
use Rattle.std.proofs.Common.{◌≡◌, ℕ, ◌+◌, ◌-◌, ◌/◌, ◌%◌, ◌<◌, ◌≤◌, true, ℤ, pos, Some, None, Result, Ok, Err, refl, sym, ap, ◌∙◌, arith, slice_get, subst}
use Rattle.std.specs.Prelude.{IfOk, IsErr, ◌⊎◌}
use Rattle.std.specs.Result.{result_ok}
use Rattle.std.proofs.lemmas.Bool.{and_from, and_parts, eq-eqb, eqb-true, false_from_ne_true}
use Rattle.std.proofs.lemmas.Bool.Decides.{Decides-int_eq}
use Rattle.cal_time.specs.CalendarDay.{calendar_day}
use Rattle.cal_time.specs.Date.{last_day, year_at, month_at, day_of_month_at, HasCalendarDate, IsDate, NoDate}
use Rattle.cal_time.specs.Days.{month_at-range}
use Rattle.cal_time.specs.Filters.{filter-first, filter-none}
use Rattle.cal_time.specs.Month.{number, index, month_of_index as month_with_index, IsMonthFromNumber}
use Rattle.cal_time.specs.MonthCycle.{month_of_index-index}
use Rattle.cal_time.specs.declared.Month.{Month}
use Rattle.cal_time.specs.declared.error.ComponentRange.{ComponentRange}
use Rattle.cal_recurrence.specs.DateWords.{day_with, has_digits}

-- the test of the digits
pub same_date : (y : ℤ) (m d k : ℕ) → year_at k ≡ y → month_at k ≡ m → day_of_month_at k ≡ d → HasCalendarDate y m d k
same_date y m d k e f g = λ i. calendar_day (e i) (f i) (g i)

pub has_them : (n m k : ℕ) → m ≡ n / 100 % 100 → has_digits n k ≡ true → HasCalendarDate (pos (n / 10000)) m (n % 100) k
has_them n m k e h =
    let parts = and_parts _ _ h in
    let both = and_parts _ _ parts.1 in
    same_date _ _ _ k ((Decides-int_eq _ _).0 parts.0) (eqb-true _ _ both.0 ∙ sym e) (eqb-true _ _ both.1)

pub passes : (n m k : ℕ) → m ≡ n / 100 % 100 → HasCalendarDate (pos (n / 10000)) m (n % 100) k → has_digits n k ≡ true
passes n m k e h =
    and_from _ _ ((Decides-int_eq _ _).1 (ap (λ d. d.year) h)) (and_from _ _ (eq-eqb _ _ (ap (λ d. d.month) h ∙ e)) (eq-eqb _ _ (ap (λ d. d.day) h)))

one_ok : {E : Type 0} (j k : ℕ) (r : Result ℕ E) → r ≡ Ok j → r ≡ Ok k → j ≡ k
one_ok j k r e f = cc

record IsAnswer (n : ℕ) (y : ℤ) (m : Month) (r : Result ℕ ComponentRange) : Type 0 where
  every : (k : ℕ) → IsDate k → HasCalendarDate y (number m) (n % 100) k → r ≡ Ok k
  has : IfOk r (λ k. IsDate k × HasCalendarDate y (number m) (n % 100) k)
  none : IsErr r → NoDate (HasCalendarDate y (number m) (n % 100))

found_at : (n : ℕ) (m : Month) (r : Result ℕ ComponentRange) → number m ≡ n / 100 % 100 → IsAnswer n (pos (n / 10000)) m r → result_ok r ≡ day_with n
unfolding day_with
found_at n m (Ok k) e h =
    let first = filter-first (has_digits n) 0 (last_day + 1) k (record {
      not_before = omega arith;
      within = omega (arith, h.has.0);
      passes = passes n (number m) k e h.has.1;
      none_before = λ j low less. false_from_ne_true _ (λ on.
          let same = one_ok j k (Ok k) (h.every j (omega (arith, h.has.0)) (has_them n (number m) j e on)) refl in omega (arith, same));
    }) in
    sym (ap (λ days. slice_get days 0) first)
found_at n m (Err why) e h =
    sym (ap (λ days. slice_get days 0) (filter-none (has_digits n) 0 (last_day + 1) (λ k low high.
    false_from_ne_true _ (λ on. h.none refl k (omega arith) (has_them n (number m) k e on)))))

pub found : (n : ℕ) (y : ℤ) (m : Month) (r : Result ℕ ComponentRange) → y ≡ pos (n / 10000) → number m ≡ n / 100 % 100
    → ((k : ℕ) → IsDate k → HasCalendarDate y (number m) (n % 100) k → r ≡ Ok k)
    → IfOk r (λ k. IsDate k × HasCalendarDate y (number m) (n % 100) k)
    → (IsErr r → NoDate (HasCalendarDate y (number m) (n % 100)))
    → result_ok r ≡ day_with n
found n y m r same e every has none =
    found_at n m r e (subst (λ z. IsAnswer n z m r) same (record { every = every; has = has; none = none }))

pub no_month : (n : ℕ) → ((n / 100 % 100 ≡ 0) ⊎ (12 < n / 100 % 100)) → None ≡ day_with n
unfolding day_with
no_month n h =
    sym (ap (λ days. slice_get days 0) (filter-none (has_digits n) 0 (last_day + 1) (λ k low high.
    false_from_ne_true _ (λ on.
    let month : month_at k ≡ n / 100 % 100 = eqb-true _ _ (and_parts _ _ (and_parts _ _ on).1).0 in
    omega (arith, month, (month_at-range k).0, (month_at-range k).1, h)))))

-- the month with a number
pub month_with : (n : ℕ) (r : Result Month ComponentRange) → IsMonthFromNumber n r → 1 ≤ n → n ≤ 12 → result_ok r ≡ Some (month_with_index (n - 1))
month_with n (Ok m) h low high = let same : n - 1 ≡ index m = omega (arith, h) in ap Some (sym (ap month_with_index same ∙ month_of_index-index m))
month_with n (Err why) h low high = absurd (omega (arith, h.1, low, high))
