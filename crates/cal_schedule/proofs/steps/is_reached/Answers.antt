use Rattle.std.proofs.lemmas.Bool.Decides.{nat_tests}
use Rattle.std.proofs.Common.{arith, pos, ◌≤◌}
use Rattle.cal_schedule.proofs.StepsInOrder.{found_step}
use Rattle.cal_schedule.proofs.Periods.{no_value, false_true}
use Rattle.cal_schedule.proofs.steps.is_reached.Goals as goal

pub returns-in-Some : goal.returns-in-Some
returns-in-Some c =
    let found = c.in-Some.ensures.value in (
      λ t. record { day = c.in-Some.step; date = found.0; later = found.1; in_time = grind (arith, nat_tests) },
      λ s. let within : c.in-Some.step ≤ c.args.date = found_step c.args.start c.args.date c.args.period (pos c.args.n) c.in-Some.step found.0 found.1 s in grind (arith, nat_tests),
    )

pub returns-in-None : goal.returns-in-None
returns-in-None c = (
  λ t. absurd (false_true t),
  λ s. absurd (no_value s.day (c.in-None.ensures.every s.day s.date s.later)),
)
