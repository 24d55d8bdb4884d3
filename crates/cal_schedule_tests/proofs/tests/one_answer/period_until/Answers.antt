use Rattle.std.proofs.Common.{◌≡◌, arith, inl, inr}
use Rattle.std.proofs.lemmas.Bool.{cases_lt}
use Rattle.std.proofs.lemmas.Int.{ints}
use Rattle.cal_schedule.specs.Period.{months_of}
use Rattle.cal_schedule.proofs.OneAnswer.{period-one, until-one}
use Rattle.cal_schedule_tests.proofs.tests.one_answer.period_until.Goals as goal

pub returns : goal.returns
returns c =
    let r = c.period_until.ensures in
    let s = c.period_until-2.ensures in
    let months : months_of c.period_until.result ≡ months_of c.period_until-2.result = until-one _ _ _ _ _ _ r.value_forward r.value_backward s.value_forward s.value_backward in
    elim (cases_lt c.args.to c.args.from) [
      | inl before ↦ period-one _ _ _ _ r.value s.value months (omega (arith, ints, r.backward before, s.backward before)) (omega (arith, ints, r.backward before, s.backward before))
      | inr after ↦ period-one _ _ _ _ r.value s.value months (omega (arith, ints, r.forward after, s.forward after)) (omega (arith, ints, r.forward after, s.forward after))
    ]
