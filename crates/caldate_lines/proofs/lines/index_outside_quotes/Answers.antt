use Rattle.std.proofs.Common.{◌≡◌, ◌+◌, ◌∙◌, inl, inr, length, arith, eq-eqb, eqb, false, get_or, subst, sym}
use Rattle.std.specs.Prelude.{not, ◌&&◌}
use Rattle.caldate_lines.specs.Fields.{is_open}
use Rattle.caldate_lines.proofs.Quotes.{Goes, closed, ends, found, goes_on, not_end}
use Rattle.caldate_lines.proofs.lines.index_outside_quotes.Goals as goal
use Rattle.caldate_lines.proofs.lines.index_outside_quotes.Goals.{else-byte-end-via-then-byte-end+else-not-is_open, else-byte-end-via-else-byte-end}

pub loop-i-preserved : goal.loop-i-preserved
loop-i-preserved c =
    let text = c.args.bytes.now in
    let q = c.loop-i.state in
    let stays : (eqb (get_or text c.loop-i.i 0) c.args.end && not (is_open q)) ≡ false = elim c.else-byte-end.branch [
      | else-byte-end-via-then-byte-end+else-not-is_open w ↦ not_end c.args.end (get_or text c.loop-i.i 0) q (inl (w.if-byte-end.true, sym w.is_open.ensures ∙ w.if-not-is_open.false))
      | else-byte-end-via-else-byte-end w ↦ not_end c.args.end (get_or text c.loop-i.i 0) q (inr w.if-byte-end.false)
    ] in
    subst (Goes c.args.end c.args.separator c.args.start c.args.quoting text (c.loop-i.i + 1)) (sym c.after-state.ensures)
    (goes_on c.args.end c.args.separator c.args.start c.args.quoting text c.loop-i.i q c.loop-i-test.true stays c.loop-i.invariant)

pub returns-then-not-is_open : goal.returns-then-not-is_open
returns-then-not-is_open c =
    let b = get_or c.args.bytes.now c.loop-i.i 0 in
    found c.args.end c.args.separator c.args.start c.args.quoting c.args.bytes.now c.loop-i.i c.loop-i.state c.loop-i-test.true c.if-byte-end.true
    (closed c.args.end b c.loop-i.state (eq-eqb b c.args.end c.if-byte-end.true) (sym c.is_open.ensures ∙ c.if-not-is_open.true)) c.loop-i.invariant

pub returns : goal.returns
returns c =
    let i : c.loop-i.i ≡ length c.args.bytes.now = omega arith in
    ends c.args.end c.args.separator c.args.start c.args.quoting c.args.bytes.now c.loop-i.state (subst (λ n. Goes c.args.end c.args.separator c.args.start c.args.quoting c.args.bytes.now n c.loop-i.state) i c.loop-i.invariant)
