use Rattle.std.proofs.Common.{◌∙◌, ap, sym, refl}
use Rattle.std.specs.Prelude.{◌≡◌, ℕ, Ok, pos}
use Rattle.std.proofs.lemmas.Int.{to_z-of_z}
use Rattle.cal_schedule.proofs.Periods.{false_true, no_value, one_days_later}
use Rattle.cal_schedule.proofs.period_moves.nth_period.Goals as goal

pub returns-then-not-is_zero : goal.returns-then-not-is_zero
returns-then-not-is_zero c =
    let clock : c.args.period.exact ≡ pos 0 → ⊥ = λ e. false_true ((c.if-not-is_zero.ensures).1 (c.duration.ensures ∙ e)) in
    record { no_clock = λ h. refl; value = λ e. absurd (clock e); none = λ e. absurd (clock e); is = tt }

pub returns-in-Some : goal.returns-in-Some
returns-in-Some c =
    let zero : c.args.period.exact ≡ pos 0 = sym c.duration.ensures ∙ (c.if-not-is_zero.ensures).0 refl in
    let n = c.ranges.n in
    let found = simp to_z-of_z at c.in-Some.ensures.value in
    record {
      no_clock = λ h. absurd (h zero);
      value = λ e m h later. ap (λ (n : ℕ). Ok n) (one_days_later c.args.start c.in-Some.date m _ _ found.1 later);
      none = λ e h. absurd (h c.in-Some.date found.0 found.1);
      is = (zero, found.0, found.1);
    }

pub returns-in-None : goal.returns-in-None
returns-in-None c =
    let zero : c.args.period.exact ≡ pos 0 = sym c.duration.ensures ∙ (c.if-not-is_zero.ensures).0 refl in
    let n = c.ranges.n in
    record {
      no_clock = λ h. absurd (h zero);
      value = λ e m h later. absurd (no_value m ((simp to_z-of_z at c.in-None.ensures.every) m h later));
      none = λ e h. refl;
      is = tt;
    }
