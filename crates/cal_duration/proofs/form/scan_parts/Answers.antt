use Rattle.std.proofs.Common.{sym, arith}
use Rattle.cal_duration.proofs.PartsReads.{kept_at_start, found, missing, kept_past, kept_over, ended_at, further}
use Rattle.cal_duration.proofs.form.scan_parts.Goals as goal
use Rattle.cal_duration.proofs.form.scan_parts.Goals.{then-is_some+in_ok-number, else-is_some}

pub loop-i-init : goal.loop-i-init
loop-i-init c = kept_at_start c.args.letters.now _ _ _ c.requires

pub returns-in_err-number-clause-value : goal.returns-in_err-number-clause-value
returns-in_err-number-clause-value c digits is =
    rw c.from_residual.ensures
    (ended_at c.args.letters.now c.loop-i.numbers c.loop-i.i c.loop-i.number _ _ _ _ (omega arith) (c.loop-i.invariant.value digits is) (found _ _ _ _ (sym c.if-is_some.ensures) (record { branches = c.byte.ensures.branches; value = c.byte.ensures.value; unchanged = c.byte.ensures.unchanged }))
    c.in_err-number.ensures.unchanged)

pub loop-i-preserved : goal.loop-i-preserved
loop-i-preserved c =
    elim c.if-is_some.branch [
      | then-is_some+in_ok-number w ↦
          rw (w.scanner-is, w.numbers-is, w.number-is)
          (kept_past c.args.letters.now c.loop-i.numbers c.args.first c.loop-i.i c.loop-i.number _ _ _ _ _ (omega arith) c.loop-i.invariant (found _ _ _ _ (sym w.if-is_some.ensures) (record { branches = c.byte.ensures.branches; value = c.byte.ensures.value; unchanged = c.byte.ensures.unchanged }))
          w.in_ok-number.ensures.value w.in_ok-number.ensures.shorter w.in_ok-number.ensures.optional)
      | else-is_some w ↦
          rw (w.scanner-is, w.numbers-is, w.number-is)
          (kept_over c.args.letters.now c.loop-i.numbers c.args.first c.loop-i.i c.loop-i.number _ _ _ (omega arith) c.loop-i.invariant (missing _ _ _ _ (sym w.if-is_some.ensures) (record { branches = c.byte.ensures.branches; value = c.byte.ensures.value; unchanged = c.byte.ensures.unchanged })))
    ]

pub returns-clause-value : goal.returns-clause-value
returns-clause-value c digits is = further _ _ _ _ _ _ (omega arith) (c.loop-i.invariant.value digits is)
