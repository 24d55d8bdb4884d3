use Rattle.std.proofs.Common.{◌≡◌, true, not, arith, ap, sym, ◌∙◌, rules, w64, to_z, of_z, FitsSigned, ℤ, pos, ◌≤ℤ◌, ◌<ℤ◌, inl, inr}
use Rattle.std.specs.Int.Signed.{lt_z, lt_z_yes, lt_z_no}
use Rattle.std.proofs.lemmas.Bool.{cases_Bool}
use Rattle.std.proofs.lemmas.Float.{T_from_true}
use Rattle.std.proofs.lemmas.Int.{ints, to_z-of_z}
use Rattle.cal_schedule.proofs.StepsInOrder.{positive_days}
use Rattle.cal_schedule.proofs.steps.is_positive.Goals as goal

less : (a b : ℤ) → lt_z a b ≡ true → a <ℤ b
less a b e = lt_z_yes {a = a} {b = b} (T_from_true (lt_z a b) e)

is_less : (a b : ℤ) → a <ℤ b → lt_z a b ≡ true
is_less a b h =
    elim (cases_Bool (lt_z a b)) as (λ _. lt_z a b ≡ true) [
      | inl is ↦ is
      | inr is_not ↦ let most = lt_z_no {a = a} {b = b} (T_from_true (not (lt_z a b)) (ap not is_not)) in absurd (omega (arith, ints, h, most))
    ]

pub returns-else-whole_months-gt0 : goal.returns-else-whole_months-gt0
returns-else-whole_months-gt0 c =
    let a : FitsSigned w64 c.whole_months.result = search rules in
    let b : FitsSigned w64 c.whole_days.result = search rules in
    let none : c.whole_months.result ≤ℤ pos 0 = omega (arith, ints) in
    let h = positive_days c.args.period c.whole_months.result c.whole_days.result c.whole_months.ensures.one_sign c.whole_months.ensures.value c.whole_days.ensures none in
    let e : lt_z (pos 0) (to_z w64 (of_z w64 c.whole_days.result)) ≡ lt_z (pos 0) c.whole_days.result = ap (lt_z (pos 0)) (to_z-of_z w64 c.whole_days.result b) in
    (λ t. h.0 (less (pos 0) c.whole_days.result (sym e ∙ t)), λ is. e ∙ is_less (pos 0) c.whole_days.result (h.1 is))
