use Rattle.std.proofs.Common.{◌≡◌, ◌+◌, ◌-◌, ◌≤◌, ℕ, ◌∙◌, ap, arith, subst, sym}
use Rattle.std.proofs.lemmas.List.{take_rest}
use Rattle.caldate_answers.specs.Scans.{is_usual_start}
use Rattle.caldate_answers.proofs.Marks.{NoStart, none_before, none_to_end, passes_next}
use Rattle.caldate_answers.proofs.scan.start.usual_place.Goals as goal
use Rattle.caldate_answers.proofs.scan.start.usual_place.Goals.{else-index-from-ge4-via-then-index-from-ge4+else-is_usual_start, else-index-from-ge4-via-else-index-from-ge4}

pub returns-then-is_usual_start-2-clause-none : goal.returns-then-is_usual_start-2-clause-none
returns-then-is_usual_start-2-clause-none c =
    let line = c.args.line.now in
    let index = c.loop-index.index in
    let four : (j : ℕ) → c.args.from ≤ j → j + 4 ≡ index → NoStart line j = λ j least at. elim c.else-index-from-ge4.branch as (λ _. NoStart line j) [
      | else-index-from-ge4-via-then-index-from-ge4+else-is_usual_start w ↦
          let is : index - 4 ≡ j = omega (arith, at) in
          subst (NoStart line) is (sym (w.is_usual_start.ensures ∙ ap is_usual_start (take_rest line (index - 4))) ∙ w.if-is_usual_start.false)
      | else-index-from-ge4-via-else-index-from-ge4 w ↦ absurd (omega (arith, least, at, w.if-index-from-ge4.false))
    ] in
    none_before line c.args.from index c.loop-index.invariant.passes (c.loop-index.invariant.mark c.loop-index-test.true) four

pub loop-index-preserved : goal.loop-index-preserved
loop-index-preserved c =
    let line = c.args.line.now in
    let index = c.loop-index.index in
    let four : (j : ℕ) → c.args.from ≤ j → j + 4 ≡ index → NoStart line j = λ j least at. elim c.else-index-from-ge4.branch as (λ _. NoStart line j) [
      | else-index-from-ge4-via-then-index-from-ge4+else-is_usual_start w ↦
          let is : index - 4 ≡ j = omega (arith, at) in
          subst (NoStart line) is (sym (w.is_usual_start.ensures ∙ ap is_usual_start (take_rest line (index - 4))) ∙ w.if-is_usual_start.false)
      | else-index-from-ge4-via-else-index-from-ge4 w ↦ absurd (omega (arith, least, at, w.if-index-from-ge4.false))
    ] in
    let here = sym (c.is_usual_start-in-loop-index.ensures ∙ ap is_usual_start (take_rest line index)) ∙ c.if-is_usual_start-2.false in
    let next = c.mark_index-index-in-loop-index in record {
      passes = passes_next line c.args.from index next.result c.loop-index.invariant.passes (c.loop-index.invariant.mark c.loop-index-test.true) four here next.ensures.from next.ensures.none;
      mark = next.ensures.mark;
    }

pub returns-clause-none : goal.returns-clause-none
returns-clause-none c = none_to_end c.args.line.now c.args.from c.loop-index.index c.loop-index.invariant.passes (omega (arith, c.loop-index-test.false))
