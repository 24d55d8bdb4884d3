use Rattle.std.proofs.Common.{arith, refl, ◌≡◌, ◌≤◌, pos, to_z, w32}
use Rattle.std.proofs.lemmas.Int.{ints}
use Rattle.std.proofs.lemmas.Bool.Decides.{nat_tests}
use Rattle.cal_schedule.proofs.StepsInOrder.{in_time}
use Rattle.cal_schedule.proofs.steps.step_of.Goals as goal

pub returns-clause-some : goal.returns-clause-some
returns-clause-some c =
    let h : c.args.start ≤ c.args.date = grind (arith, nat_tests) in
    (λ t. (h, c.is_repeated.ensures.0 c.if-not-is_repeated.false), λ s. refl)

pub returns-clause-in_time : goal.returns-clause-in_time
returns-clause-in_time c r later =
    let n : to_z w32 c.last_step.result ≡ pos c.last_step.result = omega (arith, ints) in
    in_time c.args.start c.args.date c.args.period (pos c.last_step.result) c.last_step.ensures.value r (rw n at later)
