use Rattle.std.proofs.Common.{[], ◌∷◌, ◌∙◌, ap, arith, sym}
use Rattle.cal_recurrence.specs.Written.{date_or_time_text}
use Rattle.cal_recurrence.proofs.Puts.{then_put}
use Rattle.cal_recurrence.proofs.set_writing.put_next.Goals as goal

pub returns : goal.returns
returns c =
    then_put c.args.at c.in_ok-next.next (44 ∷ []) c.as_bytes.result.now (44 ∷ date_or_time_text c.args.value.now) c.args.buffer.now c.put.new.buffer c.put-2.new.buffer c.put-2.result
    (omega (arith, c.put.auto.buffer)) c.in_ok-next.ensures c.put-2.ensures (ap (λ text. 44 ∷ text) (sym (c.as_bytes.ensures.value ∙ c.date_or_time_text.ensures.text)))
