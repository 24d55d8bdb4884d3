use Rattle.std.proofs.Common.{◌++◌, ◌∙◌, ap, arith, length, rules}
use Rattle.cal_recurrence.specs.Written.{list_text}
use Rattle.cal_recurrence.proofs.Marked.{one_more}
use Rattle.cal_recurrence.proofs.writing.push_list.Goals as goal

pub loop-value-preserved : goal.loop-value-preserved
loop-value-preserved g c =
    let word = g.T.Word.text_of in
    let at = c.loop-value in
    let text = c.word.ensures.text in (
      search rules,
      one_more word (c.args.text.now ++ list_text c.args.name.now word c.args.values.now) c.args.text.now at.text at.mark.now c.push.new.self c.push-in-loop-value.new.self (length c.args.name.now) at.value-index c.value-item.result c.args.values.now
          at.invariant.1 c.loop-value-test.true c.value-item.is (omega (arith, c.word.ensures.short, ap length text))
          c.push.ensures.appended (◌∙◌ {b = c.push.new.self ++ c.as_str.result.now} c.push-in-loop-value.ensures.appended (ap (λ bytes. c.push.new.self ++ bytes) (c.as_str.ensures.value ∙ text))),
      omega arith,
    )
