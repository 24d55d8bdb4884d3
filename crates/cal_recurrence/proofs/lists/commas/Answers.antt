use Rattle.std.proofs.Common.{◌+◌, eqb, sym, ap, ◌∙◌, arith, eq-eqb, ne_eqb}
use Rattle.std.proofs.lemmas.List.Sums.{count_by_more_yes, count_by_more_no}
use Rattle.cal_recurrence.proofs.lists.commas.Goals as goal
use Rattle.cal_recurrence.proofs.lists.commas.Goals.{then-byte-eq44, else-byte-eq44}

pub loop-byte-preserved : goal.loop-byte-preserved
loop-byte-preserved c =
    let value = c.args.value.now in
    let at = c.loop-byte in
    let more = c.loop-byte-test.true in
    elim c.if-byte-eq44.branch [
      | then-byte-eq44 w ↦ let is = w.commas-is in (is ∙ ap (λ k. k + 1) at.invariant.0 ∙ sym (count_by_more_yes (λ b. eqb b 44) value at.byte-index 0 more (eq-eqb _ 44 w.if-byte-eq44.true)), omega arith)
      | else-byte-eq44 w ↦ let is = w.commas-is in (is ∙ at.invariant.0 ∙ sym (count_by_more_no (λ b. eqb b 44) value at.byte-index 0 more (ne_eqb _ 44 w.if-byte-eq44.false)), omega arith)
    ]
