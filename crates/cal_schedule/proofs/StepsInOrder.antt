-- The steps of a period are in order.
use Rattle.std.proofs.Common.{◌≡◌, ℕ, ◌≤◌, refl, sym, subst, arith, inl, inr, ℤ, pos, negsuc, ◌+ℤ◌, ◌*ℤ◌, ◌≤ℤ◌, ◌<ℤ◌, unsigned_abs}
use Rattle.std.proofs.Math.Nat.{mul-le-mul_left}
use Rattle.std.specs.Prelude.{Option, None}
use Rattle.std.proofs.lemmas.Int.{ints, by_lt_z}
use Rattle.cal_time.specs.Date.{IsDate}
use Rattle.cal_schedule.specs.Months.{IsMonthsLater}
use Rattle.cal_schedule.specs.Period.{IsDaysLater, IsOneSign, Parts, days_of, months_of}
use Rattle.cal_schedule.specs.Steps.{IsGreatestStep, IsNextStep, IsPositive, IsStepUpTo, Series, YieldsStep}
use Rattle.cal_schedule.proofs.MonthMoves.{IsMonthNumber-date}
use Rattle.cal_schedule.proofs.Periods.{one_days_later, parts_agree}
use Rattle.cal_schedule.proofs.Untils.{has_later, later-rises, no_months}

-- ---- products of numbers that are not negative
scaled : (h k z : ℤ) → pos 0 ≤ℤ h → h ≤ℤ k → pos 0 ≤ℤ z → (pos 0 ≤ℤ (h *ℤ z)) × ((h *ℤ z) ≤ℤ (k *ℤ z))
scaled (pos a) (pos b) (pos c) p q r =
    let h : a ≤ b = omega (arith, ints, q) in
    (omega (arith, ints), omega (arith, ints, mul-le-mul_left c h))
scaled (negsuc a) k z p q r = absurd (omega (arith, ints, p))
scaled h (negsuc b) z p q r = absurd (omega (arith, ints, p, q))
scaled h k (negsuc c) p q r = absurd (omega (arith, ints, r))

at_least : (k z : ℤ) → pos 0 ≤ℤ k → pos 1 ≤ℤ z → k ≤ℤ (k *ℤ z)
at_least (pos a) (pos c) p q =
    let h : 1 ≤ c = omega (arith, ints, q) in
    omega (arith, ints, mul-le-mul_left a h)
at_least (negsuc a) z p q = absurd (omega (arith, ints, p))
at_least k (negsuc c) p q = absurd (omega (arith, ints, q))

none_times : (z : ℤ) → pos 0 *ℤ z ≡ pos 0
none_times (pos n) = omega (arith, ints)
none_times (negsuc n) = omega (arith, ints)

-- ---- the start is step 0
pub first_step : (start t : ℕ) (p : Parts) → IsDate start → start ≤ t → IsStepUpTo start t p (pos 0)
first_step start t p inside h = record {
  day = start;
  date = inside;
  later = record {
    middle = start;
    months_later = subst (λ (m : ℤ). IsMonthsLater start m start) (sym (none_times (months_of p))) (no_months start);
    days_later = omega (arith, ints, none_times (days_of p));
  };
  in_time = h;
}

-- ---- a step before one that is not after a day isn't after it
pub earlier_step : (start t : ℕ) (p : Parts) (h k : ℤ) → IsDate start → IsPositive p → pos 0 ≤ℤ h → h ≤ℤ k → IsStepUpTo start t p k → IsStepUpTo start t p h
earlier_step start t p h k inside positive low high step =
    let m = scaled h k (months_of p) low high positive.0 in
    let d = scaled h k (days_of p) low high positive.1 in
    let there = step.later in
    let on : there.middle ≤ step.day = omega (arith, ints, there.days_later, d.0, d.1) in
    let first = IsMonthNumber-date start inside in
    let last = IsMonthNumber-date there.middle (omega (arith, on, step.date)) in
    let near = has_later start (h *ℤ months_of p) (record { not_before = omega (arith, ints, first.not_before, m.0); not_after = omega (arith, ints, last.not_after, there.months_later.month, m.1) }) in
    let before : near.day ≤ there.middle = later-rises start near.day there.middle (h *ℤ months_of p) (k *ℤ months_of p) m.1 near.later there.months_later in
    let r = unsigned_abs (pos near.day +ℤ h *ℤ days_of p) in
    let is : pos r ≡ pos near.day +ℤ h *ℤ days_of p = omega (arith, ints, d.0) in
    let within : r ≤ step.day = omega (arith, ints, is, before, there.days_later, d.1) in
    record {
      day = r;
      date = omega (arith, within, step.date);
      later = record { middle = near.day; months_later = near.later; days_later = is };
      in_time = omega (arith, within, step.in_time);
    }

-- ---- no step of the range has this number
pub no_step : (start t : ℕ) (p : Parts) (k : ℤ) → IsDate start → IsPositive p → pos 1_073_741_824 ≤ℤ k → IsStepUpTo start t p k → ⊥
no_step start t p k inside positive high step =
    let m = scaled (pos 0) k (months_of p) (omega (arith, ints)) (omega (arith, ints, high)) positive.0 in
    let d = scaled (pos 0) k (days_of p) (omega (arith, ints)) (omega (arith, ints, high)) positive.1 in
    let zero = none_times (months_of p) in
    let none = none_times (days_of p) in
    let there = step.later in
    let on : there.middle ≤ step.day = omega (arith, ints, there.days_later, d.1, none) in
    let first = IsMonthNumber-date start inside in
    let last = IsMonthNumber-date there.middle (omega (arith, on, step.date)) in
    by_lt_z (pos 0) (months_of p)
    (λ some. let more = at_least k (months_of p) (omega (arith, ints, high)) (omega (arith, ints, some)) in omega (arith, ints, more, high, first.not_before, last.not_after, there.months_later.month))
    (λ no. let more = at_least k (days_of p) (omega (arith, ints, high)) (let s = positive.2 in omega (arith, ints, no, s)) in
    let date = step.date in omega (arith, ints, more, high, there.days_later, date))

-- ---- the last step is the one whose next one is after the day
pub last_one : (start t : ℕ) (p : Parts) (n next : ℤ) → IsDate start → IsPositive p → pos 0 ≤ℤ n → next ≤ℤ (n +ℤ pos 1) → IsStepUpTo start t p n → (IsStepUpTo start t p next → ⊥) → n <ℤ next → IsGreatestStep start t p n
last_one start t p n next inside positive low near holds past less = record {
  holds = holds;
  greatest = λ k at. by_lt_z n k (λ more. absurd (past (earlier_step start t p next k inside positive (omega (arith, ints, low, less)) (omega (arith, ints, near, more)) at))) (λ most. most);
}

pub found_step : (start t : ℕ) (p : Parts) (n : ℤ) (day : ℕ) → IsDate day → IsDaysLater start (n *ℤ months_of p) (n *ℤ days_of p) day → IsStepUpTo start t p n → day ≤ t
found_step start t p n day date later step =
    let same = one_days_later start day step.day _ _ later step.later in
    let in_time = step.in_time in
    omega (arith, same, in_time)

-- ---- the last step isn't after the day
pub in_time : (start t : ℕ) (p : Parts) (n : ℤ) → IsGreatestStep start t p n → (r : ℕ) → IsDaysLater start (n *ℤ months_of p) (n *ℤ days_of p) r → r ≤ t
in_time start t p n h r later =
    let same = one_days_later start r h.holds.day _ _ later h.holds.later in
    let within = h.holds.in_time in
    omega (arith, same, within)

-- ---- a period with a positive part is positive
pub is_positive : (p : Parts) → IsOneSign p → (pos 0 <ℤ months_of p → IsPositive p) × (pos 0 <ℤ days_of p → IsPositive p)
is_positive p h =
    elim (parts_agree p h) as (λ _. (pos 0 <ℤ months_of p → IsPositive p) × (pos 0 <ℤ days_of p → IsPositive p)) [
      | inl up ↦ let a = up.0 in let b = up.1 in (λ some. (a, b, omega (arith, ints, some, b)), λ some. (a, b, omega (arith, ints, some, a)))
      | inr down ↦ let a = down.0 in let b = down.1 in (λ some. absurd (omega (arith, ints, some, a)), λ some. absurd (omega (arith, ints, some, b)))
    ]

pub positive_days : (p : Parts) (m d : ℤ) → IsOneSign p → m ≡ months_of p → d ≡ days_of p → m ≤ℤ pos 0 → (pos 0 <ℤ d → IsPositive p) × (IsPositive p → pos 0 <ℤ d)
positive_days p m d h e f none = (
  λ some. (is_positive p h).1 (omega (arith, ints, f, some)),
  λ is. let s = is.2 in omega (arith, ints, e, f, none, s),
)

-- ---- no step after the last one
pub past_end : (s : Series) → IsDate s.start → IsPositive s.period → 1_073_741_824 ≤ s.next → (r : ℕ) → IsDate r → IsNextStep s r → ⊥
past_end s inside positive high r date is = no_step s.start r s.period (pos s.next) inside positive (omega (arith, ints, high)) (record { day = r; date = date; later = is; in_time = omega arith })

pub no_next : (s : Series) (r : Option ℕ) → r ≡ None → ((n : ℕ) → IsDate n → IsNextStep s n → ⊥) → YieldsStep s r s
no_next s r e h = subst (λ (x : Option ℕ). YieldsStep s x s) (sym e) (h, refl)
