use Rattle.std.proofs.Common.{◌≡◌, ◌∙◌, List, ℕ, Result, Err, ap, false, refl, subst, sym}
use Rattle.std.specs.Prelude.{is_ok}
use Rattle.caldate_lines.specs.declared.missing_field.MissingField.{MissingField}
use Rattle.caldate_lines.specs.declared.no_answer.NoAnswer.TheVariants as why
use Rattle.caldate_run.specs.Pieces.{IsAnswerToAsked, replaced}
use Rattle.caldate_run.proofs.run.pieces.push_unquoted.Goals as goal

pub returns-in-Err-clause-out : goal.returns-in-Err-clause-out
returns-in-Err-clause-out c =
    let filter = c.args.filter.now in
    let source = c.source-in-Err.result.now in
    let missing = c.in-Err.missing in
    let none : c.args.piece.now.asked ≡ Err missing = sym c.text.ensures ∙ c.in-Err.is in
    let out = replaced filter source false (Err (why.NoField missing)) in (
      out,
      c.push_instead-goes_out.ensures.text,
      c.push_instead-goes_out.ensures.goes_out,
      (
        Err (why.NoField missing),
        subst (λ (o : Result (List ℕ) MissingField). IsAnswerToAsked filter c.args.text.now o (Err (why.NoField missing))) (sym none) refl,
        refl,
        ap (λ s. replaced filter s false (Err (why.NoField missing))) c.source-in-Err.ensures
            ∙ ap (λ (o : Result (List ℕ) MissingField). replaced filter c.args.piece.now.source (is_ok o) (Err (why.NoField missing))) (sym none),
      ),
    )
