use Rattle.std.proofs.Common.{ℕ, List, Some, ◌-◌, ◌∷◌, ◌++◌, ◌∙◌, ◌≡◌, ap, arith, cond, drop, length, refl, sym, take}
use Rattle.std.specs.Prelude.{codes}
use Rattle.cal_recurrence.specs.Buffers.{IsPut}
use Rattle.cal_recurrence.specs.SetWritten.{head_text, line_end, more_text}
use Rattle.cal_recurrence.specs.Written.{date_or_time_text}
use Rattle.cal_recurrence.proofs.Puts.{first_value, then_put}
use Rattle.cal_recurrence.proofs.set_writing.+put_more.Goals as goal

pub returns-in_ok-next-in-len1-up : goal.returns-in_ok-next-in-len1-up
returns-in_ok-next-in-len1-up t c =
    let name = c.args.name.now in
    let zone = c.args.zone.now in
    let first = c.args.first.now in
    let values = c.args.values.now in
    let value = c.value-item.result in
    let others = take (length values - 1) (drop 1 values) in
    let is : values ≡ value ∷ others = first_value values value (omega (arith, c.in-len1-up.len_at_least)) c.value-item.is in
    let next : List ℕ = codes "," ++ date_or_time_text value in
    then_put c.args.at c.in_ok-next-in-len1-up.next next (more_text name zone first others) (more_text name zone first values) c.args.buffer.now c.put_next.new.buffer c.put_more.new.buffer c.put_more.result
    (omega (arith, c.put_next.auto.buffer)) c.in_ok-next-in-len1-up.ensures c.put_more.ensures
    (ap (more_text name zone first) is
    ∙ ap (λ b. cond b (next ++ more_text name zone first others) (line_end ++ head_text name zone value ++ more_text name zone value others)) (sym c.is_same_kind.ensures ∙ c.if-is_same_kind.true))

pub returns-in_ok-next-in-len1-up-3 : goal.returns-in_ok-next-in-len1-up-3
returns-in_ok-next-in-len1-up-3 t c =
    let name = c.args.name.now in
    let zone = c.args.zone.now in
    let first = c.args.first.now in
    let values = c.args.values.now in
    let value = c.value-item.result in
    let others = take (length values - 1) (drop 1 values) in
    let old = c.args.buffer.now in
    let is : values ≡ value ∷ others = first_value values value (omega (arith, c.in-len1-up.len_at_least)) c.value-item.is in
    let head : List ℕ = line_end ++ head_text name zone value in
    let second : IsPut c.args.at head old c.put_head.new.buffer (Some c.in_ok-next-in-len1-up-3.next) =
    then_put c.args.at c.in_ok-next-in-len1-up-2.next line_end (head_text name zone value) head old c.put-else-is_same_kind.new.buffer c.put_head.new.buffer (Some c.in_ok-next-in-len1-up-3.next)
    (omega (arith, c.put-else-is_same_kind.auto.buffer)) c.in_ok-next-in-len1-up-2.ensures c.in_ok-next-in-len1-up-3.ensures refl in
    then_put c.args.at c.in_ok-next-in-len1-up-3.next head (more_text name zone value others) (more_text name zone first values) old c.put_head.new.buffer c.put_more-else-is_same_kind.new.buffer c.put_more-else-is_same_kind.result
    (omega (arith, c.put-else-is_same_kind.auto.buffer, c.put_head.auto.buffer)) second c.put_more-else-is_same_kind.ensures
    (ap (more_text name zone first) is
    ∙ ap (λ b. cond b (codes "," ++ date_or_time_text value ++ more_text name zone first others) (head ++ more_text name zone value others)) (sym c.is_same_kind.ensures ∙ c.if-is_same_kind.false))
