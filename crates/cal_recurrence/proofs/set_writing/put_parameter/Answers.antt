use Rattle.std.proofs.Common.{◌++◌, ap, arith, rules}
use Rattle.std.specs.Prelude.{codes}
use Rattle.cal_recurrence.specs.SetWritten.{parameter_text}
use Rattle.cal_recurrence.proofs.Puts.{then_put}
use Rattle.cal_recurrence.proofs.set_writing.put_parameter.Goals as goal

pub returns-in_ok-next-in-Some : goal.returns-in_ok-next-in-Some
returns-in_ok-next-in-Some c =
    then_put c.args.at c.in_ok-next-in-Some.next (codes ";TZID=") c.as_bytes.result.now (parameter_text c.args.zone.now c.args.value.now) c.args.buffer.now c.put-in-Some.new.buffer
    c.put-in-Some-2.new.buffer c.put-in-Some-2.result
    (omega (arith, c.put-in-Some.auto.buffer)) c.in_ok-next-in-Some.ensures c.put-in-Some-2.ensures
    (rw (c.in-Local.is, c.in-Some.is) (ap (λ text. codes ";TZID=" ++ text) (search rules)))
