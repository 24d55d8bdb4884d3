use Rattle.std.proofs.Common.{◌≡◌, ◌∙◌, ◌++◌, Some, None, Ok, ap, append_assoc, false, refl, subst, sym, true}
use Rattle.std.proofs.lemmas.List.{append-nil}
use Rattle.caldate_answers.specs.Answers.{IsAnswer}
use Rattle.caldate_answers.specs.Appends.{AppendsAnswer, AppendsSome}
use Rattle.caldate_answers.proofs.Appends.{taken_back}
use Rattle.caldate_run.proofs.PieceOuts.{field_answered, field_words}
use Rattle.caldate_run.proofs.run.reply.push_field.Goals as goal

pub returns-in-Ok-true-clause-out : goal.returns-in-Ok-true-clause-out
returns-in-Ok-true-clause-out c =
    let filter = c.args.filter.now in
    let front = c.in_ok-front.front.now in
    let part = c.in_ok-front.part.now in
    let rest = c.in_ok-front.rest.now in
    let put : AppendsSome (λ words. IsAnswer filter part (Ok (Some words))) c.push.new.self c.push_answer.new.buffer =
    subst (λ goes. AppendsAnswer (IsAnswer filter part) (Ok goes) c.push.new.self c.push_answer.new.buffer) c.in-Ok-true.field-0-test c.in-Ok-true.ensures.answered in
    field_answered filter c.args.field c.args.text.now front part rest c.args.buffer.now c.push-in-Ok-true.new.self (Ok (Some put.0)) (Some (front ++ put.0 ++ rest)) true c.requires.own c.requires.single
    c.requires.plain c.requires.in_place c.requires.other c.in_ok-front.ensures.cut c.in_ok-front.ensures.whole put.2 refl
    (field_words filter c.args.field front part rest put.0 c.requires.own c.requires.plain put.2)
    (c.push-in-Ok-true.ensures.appended ∙ ap (λ l. l ++ rest) (put.1 ∙ ap (λ l. l ++ put.0) c.push.ensures.appended ∙ append_assoc c.args.buffer.now front put.0) ∙ append_assoc c.args.buffer.now (front ++ put.0) rest)
    refl

pub returns-in-Ok-false-clause-out : goal.returns-in-Ok-false-clause-out
returns-in-Ok-false-clause-out c =
    let filter = c.args.filter.now in
    let front = c.in_ok-front.front.now in
    let part = c.in_ok-front.part.now in
    let put : (c.push_answer.new.buffer ≡ c.push.new.self) × IsAnswer filter part (Ok None) =
    subst (λ goes. AppendsAnswer (IsAnswer filter part) (Ok goes) c.push.new.self c.push_answer.new.buffer) c.in-Ok-false.field-0-test c.in-Ok-false.ensures.answered in
    field_answered filter c.args.field c.args.text.now front part c.in_ok-front.rest.now c.args.buffer.now c.truncate.new.self (Ok None) None false c.requires.own c.requires.single
    c.requires.plain c.requires.in_place c.requires.other c.in_ok-front.ensures.cut c.in_ok-front.ensures.whole put.1 refl refl
    (taken_back c.args.buffer.now _ front _ _ c.len-start.ensures (put.0 ∙ c.push.ensures.appended) c.truncate.ensures ∙ sym (append-nil c.args.buffer.now)) refl
