use Rattle.std.proofs.Common.{◌≡◌, true, arith, inl, inr, pos, ◌≤ℤ◌, ◌<ℤ◌, rules}
use Rattle.std.proofs.lemmas.Bool.{cases_Bool}
use Rattle.std.proofs.lemmas.Int.{ints}
use Rattle.cal_schedule.proofs.Periods.{false_true}
use Rattle.cal_zoned.proofs.StepsInOrder.{found_step, no_value}
use Rattle.cal_zoned.proofs.steps.is_reached.Goals as goal

pub returns-in-Some : goal.returns-in-Some
returns-in-Some c =
    let found = c.in-Some.ensures.value in (
      λ t. let late : c.in-Some.step ≤ℤ c.args.reading = search rules in record { there = c.in-Some.step; in_range = found.0; later = found.1; in_time = late },
      λ s.
          let within = found_step c.args.start c.args.reading c.args.period (pos c.args.n) c.in-Some.step found.1 s in
          elim (cases_Bool c.le.result) as (λ _. c.le.result ≡ true) [
            | inl is ↦ is
            | inr is_not ↦ let past : c.args.reading <ℤ c.in-Some.step = search rules in absurd (omega (arith, ints, past, within))
          ],
    )

pub returns-in-None : goal.returns-in-None
returns-in-None c = (
  λ t. absurd (false_true t),
  λ s. absurd (no_value s.there (c.in-None.ensures.every s.there s.in_range s.later)),
)
