use Rattle.std.proofs.Common.{◌≡◌, ◌<◌, ◌∙◌, ap, sym, arith, length}
use Rattle.std.specs.List.{slice_index_or}
use Rattle.cal_recurrence.proofs.SetValues.{one_kept, one_skipped}
use Rattle.caldate_args.specs.Events.{midnight_of}
use Rattle.caldate_args.proofs.events.event_times.midnights.Goals.{in-Some, in_default}
use Rattle.caldate_args.proofs.events.event_times.midnights.Goals as goal

pub loop-value-preserved : goal.loop-value-preserved
loop-value-preserved c =
    let xs = c.args.values.now in
    let at = c.loop-value in
    let x = c.value-item.result in
    let same = c.as_slice-value-items.ensures.values in
    let less : at.value-index < length xs = omega (arith, c.loop-value-test.true, ap length same) in
    let is : x ≡ slice_index_or xs at.value-index x = c.value-item.is ∙ ap (λ items. slice_index_or items at.value-index x) same in
    elim c.match-midnight_of.branch [
      | in-Some w ↦ one_kept midnight_of xs at.value-index x _ at.readings c.match-midnight_of.readings less is at.invariant (sym c.midnight_of.ensures ∙ w.in-Some.is) (w.readings-is ∙ w.push.ensures)
      | in_default w ↦ rw w.readings-is (one_skipped midnight_of xs at.value-index x at.readings less is at.invariant (sym c.midnight_of.ensures ∙ w.in_default.is))
    ]
