use Rattle.std.proofs.Common.{◌++◌, ◌∷◌, [], sym, ap, ◌∙◌, append_assoc}
use Rattle.cal_c.proofs.FormatItems.{first_of, none_some, some_one}
use Rattle.cal_c.proofs.formats.format_parts.+push_items.Goals as goal

pub returns-then-try_push-clause-every : goal.returns-then-try_push-clause-every
returns-then-try_push-clause-every t c items e =
    let first = first_of c.args.parts.now items c.in-len1-up.len_at_least e in
    let pushed = c.push_items.ensures.every first.others first.parts_are in
    let same = c.item_with.ensures.every first.item first.part_is in
    let before = c.args.format.now in
    let item_is = some_one c.item_with.result c.in-Some.item first.item c.in-Some.is same in (
      pushed.0,
      pushed.1 ∙ ap (λ f. f ++ first.others) (c.try_push.ensures.value c.if-try_push.true) ∙ append_assoc before (c.in-Some.item ∷ []) first.others
          ∙ ap (λ i. before ++ i ∷ first.others) item_is ∙ ap (λ all. before ++ all) (sym first.items_are),
    )

pub returns-in-None-clause-every : goal.returns-in-None-clause-every
returns-in-None-clause-every t c items e =
    let first = first_of c.args.parts.now items c.in-len1-up.len_at_least e in
    let same = c.item_with.ensures.every first.item first.part_is in
    absurd (none_some c.item_with.result first.item c.in-None.is same)
