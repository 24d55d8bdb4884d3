-- The steps of a period from a local date-time are in order.
use Rattle.std.proofs.Common.{◌≡◌, ℕ, ◌<◌, ◌≤◌, refl, sym, ap, ◌∙◌, subst, arith, inl, inr, ℤ, pos, negsuc, ◌+ℤ◌, ◌*ℤ◌, ◌≤ℤ◌, ◌<ℤ◌}
use Rattle.std.proofs.Math.Nat.{mul-le-mul_left}
use Rattle.std.specs.Prelude.{Option, Some, None}
use Rattle.std.proofs.lemmas.Int.{ints, by_lt_z}
use Rattle.cal_time.specs.Date.{IsDate}
use Rattle.cal_datetime.specs.DateTime.{IsDateTime, date_at, with_date}
use Rattle.cal_datetime.specs.DateTimeLaws.{date_time-parts, IsDate-date_at}
use Rattle.cal_schedule.specs.Months.{IsMonthsLater}
use Rattle.cal_schedule.specs.Period.{IsDaysLater, IsOneSign, Parts, days_of, months_of}
use Rattle.cal_schedule.proofs.Periods.{one_days_later}
use Rattle.cal_schedule.proofs.StepsInOrder.{earlier_step}
use Rattle.cal_schedule.proofs.Untils.{no_months}
use Rattle.cal_zoned.specs.Period.{IsLaterBy}
use Rattle.cal_zoned.specs.Steps.{end_of_steps, IsNextStep, IsPositive, IsStepUpTo, Series, YieldsStep}

-- ---- products of numbers that are not negative
scaled : (h k z : ℤ) → pos 0 ≤ℤ h → h ≤ℤ k → pos 0 ≤ℤ z → (pos 0 ≤ℤ (h *ℤ z)) × ((h *ℤ z) ≤ℤ (k *ℤ z))
scaled (pos a) (pos b) (pos c) p q r =
    let h : a ≤ b = omega (arith, ints, q) in
    (omega (arith, ints), omega (arith, ints, mul-le-mul_left c h))
scaled (negsuc a) k z p q r = absurd (omega (arith, ints, p))
scaled h (negsuc b) z p q r = absurd (omega (arith, ints, p, q))
scaled h k (negsuc c) p q r = absurd (omega (arith, ints, r))

times_none : (k z : ℤ) → z ≡ pos 0 → k *ℤ z ≡ pos 0
times_none (pos n) z e = ap (λ (x : ℤ). pos n *ℤ x) e ∙ omega (arith, ints)
times_none (negsuc n) z e = ap (λ (x : ℤ). negsuc n *ℤ x) e ∙ omega (arith, ints)

-- ---- on its own day
pub own_day : (n : ℕ) (m d : ℤ) → m ≡ pos 0 → d ≡ pos 0 → IsDaysLater n m d n
own_day n m d e f = record {
  middle = n;
  months_later = subst (λ (x : ℤ). IsMonthsLater n x n) (sym e) (no_months n);
  days_later = omega (arith, ints, f);
}

-- ---- the day of a step before another one isn't after the day of that one
record IsEarlierDay (n : ℕ) (m d : ℤ) (top : ℕ) : Type 0 where
  day : ℕ
  date : IsDate day
  later : IsDaysLater n m d day
  in_time : day ≤ top

earlier_day : (n top : ℕ) (p : Parts) (h k : ℤ) → IsDate n → pos 0 ≤ℤ months_of p → pos 0 ≤ℤ days_of p → pos 0 ≤ℤ h → h ≤ℤ k → IsDate top
    → IsDaysLater n (k *ℤ months_of p) (k *ℤ days_of p) top → IsEarlierDay n (h *ℤ months_of p) (h *ℤ days_of p) top
earlier_day n top p h k inside months days low high date later =
    by_lt_z (pos 0) (months_of p +ℤ days_of p)
    (λ some.
    let step = earlier_step n top p h k inside (months, days, some) low high (record { day = top; date = date; later = later; in_time = omega arith }) in
    record { day = step.day; date = step.date; later = step.later; in_time = step.in_time })
    (λ none.
    let m : months_of p ≡ pos 0 = omega (arith, ints, months, days, none) in
    let d : days_of p ≡ pos 0 = omega (arith, ints, months, days, none) in
    let same = one_days_later n n top _ _ (own_day n (k *ℤ months_of p) (k *ℤ days_of p) (times_none k (months_of p) m) (times_none k (days_of p) d)) later in
    record { day = n; date = inside; later = own_day n (h *ℤ months_of p) (h *ℤ days_of p) (times_none h (months_of p) m) (times_none h (days_of p) d); in_time = omega (arith, same) })

-- ---- the start is step 0
pub first_step : (z t : ℤ) (p : Parts) → IsDateTime z → z ≤ℤ t → IsStepUpTo z t p (pos 0)
first_step z t p inside h = record {
  there = z;
  in_range = inside;
  later = record {
    day = date_at z;
    in_range = IsDate-date_at z inside;
    moved = own_day (date_at z) (pos 0 *ℤ months_of p) (pos 0 *ℤ days_of p) (none_times (months_of p)) (none_times (days_of p));
    exact = let none = none_times p.exact in let own = date_time-parts z inside in omega (arith, ints, own, none);
  };
  in_time = h;
}
  where
    none_times : (z : ℤ) → pos 0 *ℤ z ≡ pos 0
    none_times (pos n) = omega (arith, ints)
    none_times (negsuc n) = omega (arith, ints)

-- ---- a step before one that is not after t isn't after it
pub earlier : (z t : ℤ) (p : Parts) (h k : ℤ) → IsDateTime z → IsPositive p → pos 0 ≤ℤ h → h ≤ℤ k → IsStepUpTo z t p k → IsStepUpTo z t p h
earlier z t p h k inside positive low high step =
    let near = earlier_day (date_at z) step.later.day p h k (IsDate-date_at z inside) positive.0 positive.1 low high step.later.in_range step.later.moved in
    let e = scaled h k p.exact low high positive.2 in
    let f = e.0 in let g = e.1 in
    let days = near.in_time in
    let own = step.later.exact in
    let range = step.in_range in
    let most = range.not_after in
    let within = step.in_time in
    record {
      there = with_date z near.day +ℤ h *ℤ p.exact;
      in_range = record { not_before = omega (arith, ints, f); not_after = omega (arith, ints, g, days, own, most) };
      later = record { day = near.day; in_range = near.date; moved = near.later; exact = refl };
      in_time = omega (arith, ints, g, days, own, within);
    }

pub all_later : (z t : ℤ) (p : Parts) (n : ℤ) → IsDateTime z → IsPositive p → pos 0 ≤ℤ n → (IsStepUpTo z t p n → ⊥) → (k : ℤ) → n ≤ℤ k → k <ℤ pos end_of_steps → ¬ IsStepUpTo z t p k
all_later z t p n inside positive low none k more less = λ step. none (earlier z t p n k inside positive low more step)

-- ---- a step that is reached
pub found_step : (z t : ℤ) (p : Parts) (n there : ℤ) → IsLaterBy z (n *ℤ months_of p) (n *ℤ days_of p) (n *ℤ p.exact) there → IsStepUpTo z t p n → there ≤ℤ t
found_step z t p n there later step =
    let same = one_days_later (date_at z) later.day step.later.day _ _ later.moved step.later.moved in
    let a = later.exact in
    let b = step.later.exact in
    let within = step.in_time in
    omega (arith, ints, same, a, b, within)

-- ---- a period with a positive part is positive
pub some_months : (p : Parts) (z : ℤ) → IsOneSign p → z ≡ months_of p → pos 0 <ℤ z → IsPositive p
some_months p z (inl up) is some = let y = up.0 in let m = up.1 in let w = up.2 in let d = up.3 in let e = up.4 in
    (omega (arith, ints, y, m), omega (arith, ints, w, d), e, omega (arith, ints, is, some, w, d, e))
some_months p z (inr down) is some = let y = down.0 in let m = down.1 in absurd (omega (arith, ints, is, some, y, m))

pub some_days : (p : Parts) (z : ℤ) → IsOneSign p → z ≡ days_of p → pos 0 <ℤ z → IsPositive p
some_days p z (inl up) is some = let y = up.0 in let m = up.1 in let w = up.2 in let d = up.3 in let e = up.4 in
    (omega (arith, ints, y, m), omega (arith, ints, w, d), e, omega (arith, ints, is, some, y, m, e))
some_days p z (inr down) is some = let w = down.2 in let d = down.3 in absurd (omega (arith, ints, is, some, w, d))

pub some_exact : (p : Parts) (z : ℤ) → IsOneSign p → z ≡ p.exact → pos 0 <ℤ z → IsPositive p
some_exact p z (inl up) is some = let y = up.0 in let m = up.1 in let w = up.2 in let d = up.3 in let e = up.4 in
    (omega (arith, ints, y, m), omega (arith, ints, w, d), e, omega (arith, ints, is, some, y, m, w, d))
some_exact p z (inr down) is some = let e = down.4 in absurd (omega (arith, ints, is, some, e))

pub only_exact : (p : Parts) (x y z : ℤ) → x ≡ months_of p → y ≡ days_of p → z ≡ p.exact → x ≤ℤ pos 0 → y ≤ℤ pos 0 → IsPositive p → pos 0 <ℤ z
only_exact p x y z e f g none least h = let s = h.3 in omega (arith, ints, e, f, g, none, least, s)

-- ---- None is not a value
IsNone : Option ℤ → Type 0
IsNone None = Unit {0}
IsNone (Some n) = ⊥

pub no_value : (n : ℤ) → None ≡ Some n → ⊥
unfolding IsNone
no_value n e = subst IsNone e tt

-- ---- no step after the last one
pub no_next : (s : Series) (r : Option ℤ) → r ≡ None → (s.next < end_of_steps → (x : ℤ) → IsDateTime x → IsNextStep s x → ⊥) → YieldsStep s r s
no_next s r e h = subst (λ (x : Option ℤ). YieldsStep s x s) (sym e) (h, refl)
