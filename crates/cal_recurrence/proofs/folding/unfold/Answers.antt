use Rattle.std.proofs.Common.{◌∙◌, ◌≡◌, ap, arith, rules, sym}
use Rattle.std.proofs.lemmas.List.{take_rest}
use Rattle.cal_recurrence.specs.Folding.{fold_length}
use Rattle.cal_recurrence.proofs.Unfolding.{all_unfolded, one_byte, one_fold}
use Rattle.cal_recurrence.proofs.folding.unfold.Goals as goal

pub loop-index-preserved-then-fold-gt0 : goal.loop-index-preserved-then-fold-gt0
loop-index-preserved-then-fold-gt0 c =
    let at = c.loop-index.index in
    one_fold c.args.text.now c.args.unfolded.now c.loop-index.unfolded c.loop-index.filled at c.fold_length-fold.result
    c.loop-index.invariant c.loop-index-test.true (c.fold_length-fold.ensures.value ∙ ap fold_length (take_rest c.args.text.now at)) c.if-fold-gt0.true

pub loop-index-preserved : goal.loop-index-preserved
loop-index-preserved c =
    let at = c.loop-index.index in
    let value = c.fold_length-fold.ensures.value ∙ ap fold_length (take_rest c.args.text.now at) in
    let none : c.fold_length-fold.result ≡ 0 = omega (arith, c.if-fold-gt0.false) in
    one_byte c.args.text.now c.args.unfolded.now c.loop-index.unfolded c.loop-index.filled at _
    c.loop-index.invariant c.loop-index-test.true (omega (arith, c.if-unfolded-text.false)) (sym value ∙ none) (search rules)

pub returns-clause-value : goal.returns-clause-value
returns-clause-value c =
    let at = c.loop-index.invariant in (
      omega (arith, c.if-unfolded-text.false),
      omega (arith, at.few, at.within, at.size, c.if-unfolded-text.false),
      all_unfolded c.args.text.now c.args.unfolded.now c.loop-index.unfolded c.loop-index.filled c.loop-index.index at (omega (arith, c.loop-index-test.false)),
      at.rest,
    )
