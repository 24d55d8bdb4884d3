use Rattle.std.proofs.Common.{ℕ, List, Some, ◌++◌, arith, refl}
use Rattle.std.specs.Prelude.{codes}
use Rattle.cal_recurrence.specs.Buffers.{IsPut}
use Rattle.cal_recurrence.specs.SetWritten.{line_end}
use Rattle.cal_recurrence.proofs.Puts.{then_put}
use Rattle.cal_recurrence.proofs.set_writing.put_rule.Goals as goal

pub returns : goal.returns
returns c =
    let at = c.args.at in
    let old = c.args.buffer.now in
    let named : List ℕ = codes "RRULE:" ++ c.args.text.now in
    let second : IsPut at named old c.put-2.new.buffer (Some c.in_ok-next-2.next) =
    then_put at c.in_ok-next.next (codes "RRULE:") c.args.text.now named old c.put.new.buffer c.put-2.new.buffer (Some c.in_ok-next-2.next)
    (omega (arith, c.put.auto.buffer)) c.in_ok-next.ensures c.in_ok-next-2.ensures refl in
    then_put at c.in_ok-next-2.next named line_end (named ++ line_end) old c.put-2.new.buffer c.put-3.new.buffer c.put-3.result
    (omega (arith, c.put.auto.buffer, c.put-2.auto.buffer)) second c.put-3.ensures refl
