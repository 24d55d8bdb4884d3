use Rattle.std.proofs.Common.{ℕ, List, Some, ◌++◌, ◌∙◌, ap, arith, refl, sym}
use Rattle.std.specs.Prelude.{codes}
use Rattle.cal_recurrence.specs.Buffers.{IsPut}
use Rattle.cal_recurrence.specs.SetWritten.{head_text, parameter_text}
use Rattle.cal_recurrence.proofs.Puts.{then_put}
use Rattle.cal_recurrence.proofs.set_writing.put_head.Goals as goal

pub returns : goal.returns
returns c =
    let at = c.args.at in
    let old = c.args.buffer.now in
    let name = c.args.name.now in
    let parameter = parameter_text c.args.zone.now c.args.value.now in
    let head : List ℕ = name ++ parameter ++ codes ":" in
    let second : IsPut at (name ++ parameter) old c.put_parameter.new.buffer (Some c.in_ok-next-2.next) =
    then_put at c.in_ok-next.next name parameter (name ++ parameter) old c.put.new.buffer c.put_parameter.new.buffer (Some c.in_ok-next-2.next)
    (omega (arith, c.put.auto.buffer)) c.in_ok-next.ensures c.in_ok-next-2.ensures refl in
    let third : IsPut at head old c.put-2.new.buffer (Some c.in_ok-next-3.next) =
    then_put at c.in_ok-next-2.next (name ++ parameter) (codes ":") head old c.put_parameter.new.buffer c.put-2.new.buffer (Some c.in_ok-next-3.next)
    (omega (arith, c.put.auto.buffer, c.put_parameter.auto.buffer)) second c.in_ok-next-3.ensures refl in
    then_put at c.in_ok-next-3.next head c.as_bytes.result.now (head_text name c.args.zone.now c.args.value.now) old c.put-2.new.buffer c.put-3.new.buffer c.put-3.result
    (omega (arith, c.put.auto.buffer, c.put_parameter.auto.buffer, c.put-2.auto.buffer)) third c.put-3.ensures
    (ap (λ text. head ++ text) (sym (c.as_bytes.ensures.value ∙ c.date_or_time_text.ensures.text)))
