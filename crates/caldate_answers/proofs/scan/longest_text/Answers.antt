use Rattle.std.proofs.Common.{ℕ, ◌<◌, ◌≤◌, ◌∙◌, ap, arith, length, length-drop, refl, subst, sym, take, List}
use Rattle.std.proofs.lemmas.List.{take_rest}
use Rattle.caldate_answers.specs.Scans.{IsText, IsTextAt, is_usual_end}
use Rattle.caldate_answers.proofs.Scans.{none_less, none_past, some_bytes}
use Rattle.caldate_answers.proofs.TextEnds.{none_ends}
use Rattle.caldate_answers.proofs.scan.longest_text.Goals as goal
use Rattle.caldate_answers.proofs.scan.longest_text.Goals.{else-not-usual+else-is_usual_end, then-not-usual+in_default}

pub loop-count-init : goal.loop-count-init
loop-count-init c =
    let line = c.args.line.now in
    let place = c.args.place in
    let bound = c.bound_at-count.result in record {
      within = omega (arith, c.bound_at-count.ensures.within, ap length (take_rest line place), length-drop place line, c.requires.place);
      longer = none_past c.args.filter.now line place bound
          (subst (λ (bytes : List ℕ). (n : ℕ) → bound < n → n ≤ length bytes → IsText c.args.filter.now (take n bytes) → ⊥) (take_rest line place) c.bound_at-count.ensures.none);
    }

pub loop-count-preserved : goal.loop-count-preserved
loop-count-preserved c =
    let filter = c.args.filter.now in
    let line = c.args.line.now in
    let place = c.args.place in
    let count = c.loop-count.count in
    let none : IsTextAt filter line place count → ⊥ = elim c.if-not-usual.branch [
      | then-not-usual+in_default w ↦ w.in_default.ensures
      | else-not-usual+else-is_usual_end w ↦
          none_ends filter line place count (c.requires.usual w.if-not-usual.false)
          (sym (w.is_usual_end.ensures ∙ ap (λ l. is_usual_end l count) (take_rest line place)) ∙ w.if-is_usual_end.false)
    ] in record {
      within = omega (arith, c.loop-count.invariant.within);
      longer = none_less filter line place count none c.loop-count.invariant.longer;
    }

pub returns-in-Some : goal.returns-in-Some
returns-in-Some c = record { at = refl; is = c.in-Some.ensures.0; longest = c.loop-count.invariant.longer; read = c.in-Some.ensures.1 }

pub returns : goal.returns
returns c = λ n h.
    c.loop-count.invariant.longer n (omega (arith, c.loop-count-test.false, some_bytes c.args.filter.now c.args.line.now c.args.place n h)) h
