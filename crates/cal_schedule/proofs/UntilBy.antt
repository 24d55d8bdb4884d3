-- Periods counted in a unit.
use Rattle.std.proofs.Common.{◌≡◌, ℕ, ◌+◌, ◌-◌, ◌<◌, ◌≤◌, sym, ap, subst, arith, inl, inr, ℤ, pos, neg_ℤ, ◌+ℤ◌, ◌*ℤ◌, ◌≤ℤ◌}
use Rattle.std.specs.Prelude.{Option, Some, None, IfSome, SomeIff}
use Rattle.std.proofs.lemmas.Bool.{cases_lt}
use Rattle.std.proofs.lemmas.Int.{ints, by_lt_z}
use Rattle.cal_time.specs.Date.{last_day, weekday_at, IsDate}
use Rattle.cal_time.specs.Laws.{weekday_at-is}
use Rattle.cal_schedule.specs.declared.unit.CalendarUnit.TheVariants.{Day, Week, Month, Quarter, Year}
use Rattle.cal_schedule.specs.Period.{date_period, months_of, parts, IsOneSign, Parts}
use Rattle.cal_schedule.specs.Until.{IsGreatest, IsLeast, IsMonthsBackTo, IsMonthsUpTo, IsPeriodUntil}
use Rattle.cal_schedule.specs.Units.{IsUntilBy}
use Rattle.cal_schedule.proofs.Periods.{until_sign}
use Rattle.cal_schedule.proofs.Untils.{no_months}

-- ---- the last day of a week
pub week_last : (n : ℕ) (r : Option ℕ) → SomeIff r (n + 6 ≤ last_day + weekday_at n) (n + 6 - weekday_at n) → IfSome r (λ (k : ℕ). IsDate k × (k + weekday_at n ≡ n + 6))
week_last n None h = tt
week_last n (Some k) h =
    let w = weekday_at-is n in
    let a = h.0 in
    let e = h.1 in (omega (arith, w, a, e), omega (arith, w, a, e))

-- ---- days
pub by_days : (n t : ℕ) (d : ℤ) → pos t ≡ pos n +ℤ d → IsUntilBy Day n t (parts (pos 0) (pos 0) (pos 0) d (pos 0))
by_days n t d e = record {
  leads = record { middle = n; months_later = no_months n; days_later = omega (arith, ints, e) };
  most = omega (arith, ints);
  counted = (omega (arith, ints), omega (arith, ints), omega (arith, ints));
  one_sign = by_lt_z d (pos 0)
      (λ less. inr (omega (arith, ints), omega (arith, ints), omega (arith, ints), omega (arith, ints), omega (arith, ints)))
      (λ most. inl (omega (arith, ints), omega (arith, ints), omega (arith, ints), omega (arith, ints), omega (arith, ints)));
  no_clock = omega (arith, ints);
}

-- ---- weeks and days
pub weeks_sign : (d w r : ℤ) → (pos 0 ≤ℤ d → (pos 0 ≤ℤ w) × (pos 0 ≤ℤ r) × (r ≤ℤ pos 6)) → (d ≤ℤ pos 0 → (w ≤ℤ pos 0) × (neg_ℤ (pos 6) ≤ℤ r) × (r ≤ℤ pos 0))
    → IsOneSign (parts (pos 0) (pos 0) w r (pos 0)) × (neg_ℤ (pos 6) ≤ℤ r) × (r ≤ℤ pos 6)
weeks_sign d w r forward backward =
    by_lt_z d (pos 0)
    (λ less. let h = backward (omega (arith, ints)) in let a = h.0 in let b = h.1 in let c = h.2 in (inr (omega (arith, ints), omega (arith, ints), a, c, omega (arith, ints)), b, omega (arith, ints, c)))
    (λ most. let h = forward most in let a = h.0 in let b = h.1 in let c = h.2 in (inl (omega (arith, ints), omega (arith, ints), a, b, omega (arith, ints)), omega (arith, ints, b), c))

pub by_weeks : (n t : ℕ) (d w r : ℤ) → pos t ≡ pos n +ℤ d → d ≡ pos 7 *ℤ w +ℤ r → IsOneSign (parts (pos 0) (pos 0) w r (pos 0)) → neg_ℤ (pos 6) ≤ℤ r → r ≤ℤ pos 6
    → IsUntilBy Week n t (parts (pos 0) (pos 0) w r (pos 0))
by_weeks n t d w r e f sign low high = record {
  leads = record { middle = n; months_later = no_months n; days_later = omega (arith, ints, e, f) };
  most = omega (arith, ints);
  counted = (omega (arith, ints), omega (arith, ints), low, high);
  one_sign = sign;
  no_clock = omega (arith, ints);
}

-- ---- months and days
pub months_sign : (n t : ℕ) (m d : ℤ) → (n ≤ t → (pos 0 ≤ℤ m) × (pos 0 ≤ℤ d)) → (t < n → (m ≤ℤ pos 0) × (d ≤ℤ pos 0)) → IsOneSign (parts (pos 0) m (pos 0) d (pos 0))
months_sign n t m d forward backward =
    elim (cases_lt t n) as (λ _. IsOneSign (parts (pos 0) m (pos 0) d (pos 0))) [
      | inl back ↦ let h = backward back in let a = h.0 in let b = h.1 in inr (omega (arith, ints), a, omega (arith, ints), b, omega (arith, ints))
      | inr on ↦ let h = forward on in let a = h.0 in let b = h.1 in inl (omega (arith, ints), a, omega (arith, ints), b, omega (arith, ints))
    ]

pub by_months : (n t : ℕ) (m d : ℤ) → IsPeriodUntil n t (date_period (pos 0) m d) → (n ≤ t → IsGreatest (IsMonthsUpTo n t) m) → (t < n → IsLeast (IsMonthsBackTo n t) m)
    → IsOneSign (parts (pos 0) m (pos 0) d (pos 0)) → IsUntilBy Month n t (parts (pos 0) m (pos 0) d (pos 0))
by_months n t m d h on back sign =
    let whole : m ≡ pos 12 *ℤ pos 0 +ℤ m = omega (arith, ints) in
    record {
      leads = record { middle = h.day; months_later = h.later; days_later = omega (arith, ints, h.days) };
      most = (λ a. subst (IsGreatest (IsMonthsUpTo n t)) whole (on a), λ b. subst (IsLeast (IsMonthsBackTo n t)) whole (back b));
      counted = (omega (arith, ints), omega (arith, ints));
      one_sign = sign;
      no_clock = omega (arith, ints);
    }

pub by_quarters : (n t : ℕ) (p : Parts) → IsUntilBy Month n t p → IsUntilBy Quarter n t p
by_quarters n t p h = record { leads = h.leads; most = h.most; counted = h.counted; one_sign = h.one_sign; no_clock = h.no_clock }

-- ---- years, months and days
pub by_years : (n t : ℕ) (p : Parts) → IsPeriodUntil n t p → (n ≤ t → IsGreatest (IsMonthsUpTo n t) (months_of p)) → (t < n → IsLeast (IsMonthsBackTo n t) (months_of p))
    → (n ≤ t → (pos 0 ≤ℤ p.years) × (pos 0 ≤ℤ p.months) × (p.months ≤ℤ pos 11) × (pos 0 ≤ℤ p.days))
    → (t < n → (p.years ≤ℤ pos 0) × (neg_ℤ (pos 11) ≤ℤ p.months) × (p.months ≤ℤ pos 0) × (p.days ≤ℤ pos 0))
    → IsUntilBy Year n t p
by_years n t p h on back forward backward =
    let weeks : p.weeks ≡ pos 0 = ap (λ (q : Parts). q.weeks) h.only in
    let bound : (neg_ℤ (pos 11) ≤ℤ p.months) × (p.months ≤ℤ pos 11) = elim (cases_lt t n) [
      | inl less ↦ let x = backward less in let a = x.1 in let b = x.2 in (a, omega (arith, ints, b))
      | inr most ↦ let x = forward most in let a = x.1 in let b = x.2 in (omega (arith, ints, a), b)
    ] in
    record {
      leads = record { middle = h.day; months_later = h.later; days_later = omega (arith, ints, h.days, weeks) };
      most = (on, back);
      counted = (bound.0, bound.1, weeks);
      one_sign = subst IsOneSign (sym h.only) (until_sign n t p.years p.months p.days forward backward);
      no_clock = ap (λ (q : Parts). q.exact) h.only;
    }
