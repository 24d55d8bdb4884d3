use Rattle.std.proofs.Common.{◌+◌, arith}
use Rattle.caldate_lines.proofs.Parts.{found_at, none_at, one_more}
use Rattle.caldate_lines.proofs.lines.index_of.Goals as goal
use Rattle.caldate_lines.proofs.lines.index_of.Goals.{else-i-bytes-via-then-i-bytes+else-bytes-i-3, else-i-bytes-via-else-i-bytes}

pub loop-i-init : goal.loop-i-init
loop-i-init c = (omega arith, λ k h. absurd (omega (arith, h)))

pub loop-i-preserved : goal.loop-i-preserved
loop-i-preserved c =
    let first = one_more c.args.byte c.args.bytes.now c.loop-i.i c.loop-i.invariant.1 c.if-bytes-i.false in
    let second = one_more c.args.byte c.args.bytes.now (c.loop-i.i + 1) first c.if-bytes-i-2.false in
    (omega (arith, c.loop-i-test.true), λ k h. second k (omega (arith, h)))

pub returns-then-bytes-i : goal.returns-then-bytes-i
returns-then-bytes-i c = found_at c.args.byte c.args.bytes.now c.loop-i.i (omega (arith, c.loop-i-test.true)) c.loop-i.invariant.1 c.if-bytes-i.true

pub returns-then-bytes-i-2 : goal.returns-then-bytes-i-2
returns-then-bytes-i-2 c =
    found_at c.args.byte c.args.bytes.now (c.loop-i.i + 1) c.loop-i-test.true (one_more c.args.byte c.args.bytes.now c.loop-i.i c.loop-i.invariant.1 c.if-bytes-i.false) c.if-bytes-i-2.true

pub returns-then-bytes-i-3 : goal.returns-then-bytes-i-3
returns-then-bytes-i-3 c = found_at c.args.byte c.args.bytes.now c.loop-i.i c.if-i-bytes.true c.loop-i.invariant.1 c.if-bytes-i-3.true

pub returns : goal.returns
returns c =
    let before = c.loop-i.invariant.1 in
    elim c.else-i-bytes.branch [
      | else-i-bytes-via-then-i-bytes+else-bytes-i-3 w ↦
          none_at c.args.byte c.args.bytes.now (c.loop-i.i + 1) (omega (arith, c.loop-i-test.false)) (one_more c.args.byte c.args.bytes.now c.loop-i.i before w.if-bytes-i-3.false)
      | else-i-bytes-via-else-i-bytes w ↦ none_at c.args.byte c.args.bytes.now c.loop-i.i (omega (arith, w.if-i-bytes.false)) before
    ]
