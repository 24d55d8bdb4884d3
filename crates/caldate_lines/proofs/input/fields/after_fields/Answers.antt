use Rattle.caldate_lines.proofs.Cuts.{further}
use Rattle.caldate_lines.proofs.input.fields.after_fields.Goals as goal

pub loop-preserved : goal.loop-preserved
loop-preserved c =
    further c.args.field c.loop.counter c.args.text.now c.loop.rest.now _ c.in_ok-after.after.now c.in_ok-after.ensures.fields c.in_ok-after.ensures.whole c.loop.invariant
