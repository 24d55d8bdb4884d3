use Rattle.std.proofs.Common.{arith, rules}
use Rattle.std.specs.Prelude.{◌<ℤ◌}
use Rattle.cal_datetime.specs.OffsetDateTime.{instant}
use Rattle.caldate_run.proofs.MomentSteps.{far_steps, no_step, past_last}
use Rattle.caldate_run.proofs.list.moments.moment_within.Goals as goal

pub returns-then-count-ge-FAR-clause-step : goal.returns-then-count-ge-FAR-clause-step
returns-then-count-ge-FAR-clause-step c = far_steps c.args.moments.now c.args.count (omega (arith, c.if-count-ge-FAR.true))

pub returns-then-gt-clause-step : goal.returns-then-gt-clause-step
returns-then-gt-clause-step c =
    let past : instant c.args.moments.now.last <ℤ instant c.in-Ok.moment = search rules in
    past_last c.args.moments.now c.args.count c.in-Ok.moment c.one_local.ensures c.in-Ok.ensures past

pub returns-in-Err-clause-step : goal.returns-in-Err-clause-step
returns-in-Err-clause-step c = no_step c.args.moments.now c.args.count c.in-Err.field-0 c.one_local.ensures c.in-Err.ensures
