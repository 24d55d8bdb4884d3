use Rattle.std.proofs.Common.{◌≡◌, ◌∙◌, ◌++◌, [], Some, None, Ok, Err, ap, cond, refl, subst, sym, true}
use Rattle.std.specs.Prelude.{unwrap_or}
use Rattle.std.proofs.lemmas.List.{append-nil}
use Rattle.caldate_answers.specs.Appends.{AppendsAnswer, AppendsSome}
use Rattle.caldate_answers.specs.Targets.{IsAnswerAt}
use Rattle.caldate_run.specs.Pieces.{placed, replaced}
use Rattle.caldate_run.proofs.PieceOuts.{taken_off, words_placed}
use Rattle.caldate_run.proofs.run.pieces.push_asked.Goals as goal

pub returns-in-Ok-true-clause-out : goal.returns-in-Ok-true-clause-out
returns-in-Ok-true-clause-out c =
    let filter = c.args.filter.now in
    let source = c.args.source.now in
    let begun = c.open_words-quoted.new.buffer in
    let given = c.push_answer_at.new.buffer in
    let put : AppendsSome (λ words. IsAnswerAt filter c.args.text.now c.args.asked.now (Ok (Some words))) begun given =
    subst (λ goes. AppendsAnswer (IsAnswerAt filter c.args.text.now c.args.asked.now) (Ok goes) begun given) c.in-Ok-true.field-0-test c.in-Ok-true.ensures.answered in (
      Some source,
      c.push.ensures.appended ∙ ap (λ l. l ++ source) (taken_off c.args.buffer.now begun given put.0 _ _ c.len-start.result c.len-start.ensures c.open_words-quoted.ensures.text put.1 c.truncate.ensures),
      refl,
      (Ok (Some put.0), put.2, refl, ap (λ b. Some (cond b source (placed filter.field source put.0))) (sym (sym c.keeps.ensures ∙ c.if-keeps.true))),
    )

pub returns-in-Ok-true-2-clause-out : goal.returns-in-Ok-true-2-clause-out
returns-in-Ok-true-2-clause-out c =
    let filter = c.args.filter.now in
    let source = c.args.source.now in
    let begun = c.open_words-quoted.new.buffer in
    let given = c.push_answer_at.new.buffer in
    let put : AppendsSome (λ words. IsAnswerAt filter c.args.text.now c.args.asked.now (Ok (Some words))) begun given =
    subst (λ goes. AppendsAnswer (IsAnswerAt filter c.args.text.now c.args.asked.now) (Ok goes) begun given) c.in-Ok-true.field-0-test c.in-Ok-true.ensures.answered in (
      Some (placed filter.field source put.0),
      words_placed filter.field c.open_words-quoted.result source put.0 c.args.buffer.now begun given c.close_words.new.buffer c.len-words.result
          c.open_words-quoted.ensures.quoted c.open_words-quoted.ensures.text c.len-words.ensures put.1 c.close_words.ensures.text,
      refl,
      (Ok (Some put.0), put.2, refl, ap (λ b. Some (cond b source (placed filter.field source put.0))) (sym (sym c.keeps.ensures ∙ c.if-keeps.false))),
    )

pub returns-in-Ok-false-clause-out : goal.returns-in-Ok-false-clause-out
returns-in-Ok-false-clause-out c =
    let filter = c.args.filter.now in
    let begun = c.open_words-quoted.new.buffer in
    let given = c.push_answer_at.new.buffer in
    let put : (given ≡ begun) × IsAnswerAt filter c.args.text.now c.args.asked.now (Ok None) =
    subst (λ goes. AppendsAnswer (IsAnswerAt filter c.args.text.now c.args.asked.now) (Ok goes) begun given) c.in-Ok-false.field-0-test c.in-Ok-false.ensures.answered in (
      None,
      taken_off c.args.buffer.now begun given [] _ _ c.len-start.result c.len-start.ensures c.open_words-quoted.ensures.text (put.0 ∙ sym (append-nil begun)) c.truncate-in-Ok-false.ensures ∙ sym (append-nil c.args.buffer.now),
      refl,
      (Ok None, put.1, refl, refl),
    )

pub returns-in-Err-clause-out : goal.returns-in-Err-clause-out
returns-in-Err-clause-out c =
    let begun = c.open_words-quoted.new.buffer in
    let given = c.push_answer_at.new.buffer in
    let put = c.in-Err.ensures.answered in
    let back = taken_off c.args.buffer.now begun given [] _ _ c.len-start.result c.len-start.ensures c.open_words-quoted.ensures.text (put.0 ∙ sym (append-nil begun)) c.truncate-in-Err.ensures in (
      replaced c.args.filter.now c.args.source.now true (Err c.in-Err.why),
      c.push_instead-goes_out.ensures.text ∙ ap (λ l. l ++ unwrap_or (replaced c.args.filter.now c.args.source.now true (Err c.in-Err.why)) []) back,
      c.push_instead-goes_out.ensures.goes_out,
      (Err c.in-Err.why, put.1, refl, refl),
    )
