use Rattle.std.proofs.Common.{ℕ, ◌+◌, ◌∙◌, arith, subst, sym}
use Rattle.caldate_answers.specs.Scans.{IsTextAt, NoneFrom}
use Rattle.caldate_answers.proofs.Scans.{none_begins, none_joined, none_more}
use Rattle.caldate_answers.proofs.scan.first_text.Goals as goal
use Rattle.caldate_answers.proofs.scan.first_text.Goals.{else-may_begin, then-may_begin+in_default}

pub loop-place-preserved : goal.loop-place-preserved
loop-place-preserved c =
    let filter = c.args.filter.now in
    let line = c.args.line.now in
    let place = c.loop-place.place in
    let next = c.first_start-place-in-loop-place in
    let none : (n : ℕ) → IsTextAt filter line place n → ⊥ = elim c.if-may_begin.branch [
      | then-may_begin+in_default w ↦ w.in_default.ensures
      | else-may_begin w ↦ λ n. none_begins filter line place n (sym c.may_begin.ensures ∙ w.if-may_begin.false)
    ] in record {
      from = omega (arith, c.loop-place.invariant.from, next.ensures.from);
      none = none_joined filter line c.args.from (place + 1) next.result (none_more filter line c.args.from place (λ n some. none n) c.loop-place.invariant.none) next.ensures.none;
    }

pub returns-in-Some-clause-first : goal.returns-in-Some-clause-first
returns-in-Some-clause-first c =
    let filter = c.args.filter.now in
    let line = c.args.line.now in
    let text = c.in-Some.text in
    let is = c.in-Some.ensures in record {
      from = omega (arith, is.at, c.loop-place.invariant.from);
      is = subst (λ k. IsTextAt filter line k text.count) (sym is.at) is.is;
      leftmost = subst (NoneFrom filter line c.args.from) (sym is.at) c.loop-place.invariant.none;
      longest = λ m more h. is.longest m more (subst (λ k. IsTextAt filter line k m) is.at h);
    }
