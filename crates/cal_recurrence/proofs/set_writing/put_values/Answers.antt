use Rattle.std.proofs.Common.{◌-◌, ◌∷◌, ◌≡◌, ap, arith, drop, length, take}
use Rattle.cal_recurrence.specs.SetWritten.{head_text, more_text, values_text}
use Rattle.cal_recurrence.proofs.Puts.{first_value, then_put}
use Rattle.cal_recurrence.proofs.set_writing.put_values.Goals as goal

pub returns-in_ok-next-in-len1-up : goal.returns-in_ok-next-in-len1-up
returns-in_ok-next-in-len1-up c =
    let name = c.args.name.now in
    let zone = c.args.zone.now in
    let values = c.args.values.now in
    let value = c.value-item.result in
    let others = take (length values - 1) (drop 1 values) in
    let is : values ≡ value ∷ others = first_value values value (omega (arith, c.in-len1-up.len_at_least)) c.value-item.is in
    then_put c.args.at c.in_ok-next-in-len1-up.next (head_text name zone value) (more_text name zone value others) (values_text name zone values) c.args.buffer.now c.put_head.new.buffer c.put_more.new.buffer c.put_more.result
    (omega (arith, c.put_head.auto.buffer)) c.in_ok-next-in-len1-up.ensures c.put_more.ensures (ap (values_text name zone) is)
