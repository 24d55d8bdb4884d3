use Rattle.std.proofs.Common.{◌+◌, ◌-◌, ◌∙◌, ◌∷◌, cond, drop, eqb, length, take, Some, None, ap, arith, subst, sym}
use Rattle.std.specs.Prelude.{slice_index}
use Rattle.std.specs.List.{All}
use Rattle.std.proofs.lemmas.List.{take_rest}
use Rattle.cal_recurrence.specs.Buffers.{IsPut}
use Rattle.cal_recurrence.specs.Folding.{IsShortLine}
use Rattle.cal_recurrence.specs.Words.{parts_at}
use Rattle.cal_recurrence.proofs.FoldedLines.{all_folded, column_after, first_folded, folded_of, one_byte, too_short, unfolds, IsFolding}
use Rattle.cal_recurrence.proofs.FoldedParts.{folds, short_lines}
use Rattle.cal_recurrence.proofs.folding.fold.Goals as goal

pub loop-index-preserved : goal.loop-index-preserved
loop-index-preserved c =
    let text = c.args.text.now in
    let at = c.loop-index in
    let next = c.in_ok-filled.filled in
    let rest = take_rest text at.index in
    let given = take (length text - at.index) (drop at.index text) in
    let folds = c.fold_before-folds.ensures in
    let put = subst (λ bytes. IsPut at.filled (first_folded at.column bytes) at.folded c.put_folded.new.buffer (Some next)) rest
    (subst (λ t. IsPut at.filled (cond t (13 ∷ 10 ∷ 32 ∷ take 1 given) (take 1 given)) at.folded c.put_folded.new.buffer (Some next)) folds c.in_ok-filled.ensures) in
    let column = c.column_after-column.ensures ∙ ap (λ t. cond t 2 (cond (eqb (slice_index given 0) 10) 0 (at.column + 1))) folds ∙ ap (column_after at.column) rest in
    subst (λ n. IsFolding text c.args.folded.now c.put_folded.new.buffer next (at.index + 1) n) (sym column)
    (one_byte text c.args.folded.now at.folded c.put_folded.new.buffer at.filled next at.index at.column at.invariant c.loop-index-test.true put (omega (arith, c.put_folded.auto.buffer)))

pub returns-clause-text : goal.returns-clause-text
returns-clause-text c =
    let text = c.args.text.now in
    let at = c.loop-index in
    (folded_of text, (folds text, all_folded text c.args.folded.now at.folded at.filled at.index at.column at.invariant (omega (arith, c.loop-index-test.false))))

pub returns-in_err-filled-clause-text : goal.returns-in_err-filled-clause-text
returns-in_err-filled-clause-text c =
    let text = c.args.text.now in
    let at = c.loop-index in
    let given = take (length text - at.index) (drop at.index text) in
    let put = subst (λ bytes. IsPut at.filled (first_folded at.column bytes) at.folded c.put_folded.new.buffer None) (take_rest text at.index)
    (subst (λ t. IsPut at.filled (cond t (13 ∷ 10 ∷ 32 ∷ take 1 given) (take 1 given)) at.folded c.put_folded.new.buffer None) c.fold_before-folds.ensures c.in_err-filled.ensures) in
    let less = too_short text c.args.folded.now at.folded at.filled at.index at.column at.invariant c.loop-index-test.true put in
    (folded_of text, (folds text, subst (IsPut 0 (folded_of text) c.args.folded.now c.put_folded.new.buffer) (sym c.from_residual.ensures) less))

pub returns-clause-unfolds : goal.returns-clause-unfolds
returns-clause-unfolds c =
    let at = c.loop-index in
    unfolds c.args.text.now c.args.folded.now at.folded at.filled at.index at.column at.invariant (omega (arith, c.loop-index-test.false))

pub returns-clause-lines : goal.returns-clause-lines
returns-clause-lines c =
    let text = c.args.text.now in
    let at = c.loop-index in
    let whole = (all_folded text c.args.folded.now at.folded at.filled at.index at.column at.invariant (omega (arith, c.loop-index-test.false))).2 in
    subst (λ bytes. All IsShortLine (parts_at 10 bytes)) (sym whole) (short_lines text (folded_of text) (folds text))
