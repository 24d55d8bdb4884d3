use Rattle.std.proofs.Common.{◌≡◌, ◌<◌, ◌∙◌, ap, sym, arith, length}
use Rattle.std.specs.List.{slice_index_or}
use Rattle.cal_recurrence.proofs.SetValues.{one_kept, one_skipped}
use Rattle.cal_recurrence.proofs.set_values.kept.Goals.{in-Some, in_default}
use Rattle.cal_recurrence.proofs.set_values.kept.Goals as goal

pub loop-value-preserved : goal.loop-value-preserved
loop-value-preserved g c =
    let m = g.T.SetValue.meaning_of c.args.is_utc in
    let xs = c.args.values.now in
    let at = c.loop-value in
    let x = c.value-item.result in
    let same = c.as_slice-value-items.ensures.values in
    let less : at.value-index < length xs = omega (arith, c.loop-value-test.true, ap length same) in
    let is : x ≡ slice_index_or xs at.value-index x = c.value-item.is ∙ ap (λ items. slice_index_or items at.value-index x) same in
    elim c.match-of.branch [
      | in-Some w ↦ one_kept m xs at.value-index x _ at.kept c.match-of.kept less is at.invariant (sym c.of.ensures ∙ w.in-Some.is) (w.kept-is ∙ w.push.ensures)
      | in_default w ↦ rw w.kept-is (one_skipped m xs at.value-index x at.kept less is at.invariant (sym c.of.ensures ∙ w.in_default.is))
    ]
