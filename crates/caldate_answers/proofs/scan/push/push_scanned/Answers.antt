use Rattle.std.proofs.Common.{◌≡◌, ◌∙◌, [], false, inl, inr, refl, subst, sym, true}
use Rattle.std.specs.Prelude.{MatchBool}
use Rattle.caldate_answers.specs.Answers.{keeps}
use Rattle.caldate_answers.specs.Scans.{IsReplaced, IsScanned, IsSelected}
use Rattle.caldate_answers.proofs.Appends.{puts_other}
use Rattle.caldate_answers.proofs.scan.push.push_scanned.Goals as goal

pub returns-then-ends_at-clause-answered : goal.returns-then-ends_at-clause-answered
returns-then-ends_at-clause-answered c =
    let ends = c.ends_at.ensures.ends c.if-ends_at.true in
    (refl, inl (ends.0, ends.1, refl))

pub returns-then-keeps-clause-answered : goal.returns-then-keeps-clause-answered
returns-then-keeps-clause-answered c =
    let filter = c.args.filter.now in
    let line = c.args.line.now in
    let same : true ≡ keeps filter.request = sym c.if-keeps.true ∙ c.keeps.ensures in
    puts_other (IsSelected filter line) (IsScanned filter line) c.push_selected.result _ _
    (λ answer h. inr (
      c.ends_at.ensures.goes_on c.if-ends_at.false,
      subst (λ b. MatchBool b (IsSelected filter line answer) (IsReplaced filter line answer [] 0)) same h,
    )) c.push_selected.ensures.answered

pub returns-else-keeps-clause-answered : goal.returns-else-keeps-clause-answered
returns-else-keeps-clause-answered c =
    let filter = c.args.filter.now in
    let line = c.args.line.now in
    let same : false ≡ keeps filter.request = sym c.if-keeps.false ∙ c.keeps.ensures in
    puts_other (λ answer. IsReplaced filter line answer [] 0) (IsScanned filter line) c.push_replaced.result _ _
    (λ answer h. inr (
      c.ends_at.ensures.goes_on c.if-ends_at.false,
      subst (λ b. MatchBool b (IsSelected filter line answer) (IsReplaced filter line answer [] 0)) same h,
    )) c.push_replaced.ensures.answered
