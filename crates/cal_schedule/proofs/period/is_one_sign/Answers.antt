use Rattle.std.proofs.Common.{inl, inr, sym, ◌∙◌}
use Rattle.std.specs.Prelude.{IsTrue}
use Rattle.std.proofs.lemmas.Int.{to_z-of_z}
use Rattle.cal_schedule.proofs.Periods.{false_true}
use Rattle.cal_schedule.proofs.period.is_one_sign.Goals as goal

pub returns-then-rises : goal.returns-then-rises
returns-then-rises c =
    let years = c.ranges.years in
    let months = c.ranges.months in
    let weeks = c.ranges.weeks in
    let days = c.ranges.days in
    (λ t. inl ((simp to_z-of_z at c.rises.ensures).0 c.if-rises.true), λ h. c.if-rises.true)

pub returns-else-rises : goal.returns-else-rises
returns-else-rises c =
    let years = c.ranges.years in
    let months = c.ranges.months in
    let weeks = c.ranges.weeks in
    let days = c.ranges.days in
    let up = simp to_z-of_z at c.rises.ensures in
    let down = simp to_z-of_z at c.falls.ensures in (
      λ t. inr (down.0 t),
      λ h. elim h as (λ _. IsTrue c.falls.result) [
        | inl rising ↦ absurd (false_true (sym c.if-rises.false ∙ up.1 rising))
        | inr falling ↦ down.1 falling
      ],
    )
