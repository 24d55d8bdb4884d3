use Rattle.std.proofs.Common.{◌≡◌, ◌∙◌, ◌++◌, Some, None, Ok, Err, ap, inr, refl, subst, sym}
use Rattle.caldate_answers.specs.Answers.{IsAnswer}
use Rattle.caldate_answers.specs.Appends.{AppendsAnswer, AppendsSome}
use Rattle.caldate_answers.specs.Scans.{IsReadWith}
use Rattle.caldate_answers.proofs.Appends.{taken_back}
use Rattle.caldate_answers.proofs.scan.push.push_selected.Goals as goal

pub push_read-requires-clause-read : goal.push_read-requires-clause-read
push_read-requires-clause-read c = subst (λ t. IsReadWith c.args.filter.now t c.in-Some.text.read) (sym c.part_at-bytes.ensures.part) c.in-Some.ensures.read

pub returns-in-Ok-true-clause-answered : goal.returns-in-Ok-true-clause-answered
returns-in-Ok-true-clause-answered c =
    let filter = c.args.filter.now in
    let text = c.part_at-bytes.result.now in
    let put : AppendsSome (λ words. IsAnswer filter text (Ok (Some words))) c.args.buffer.now c.push_read.new.buffer =
    subst (λ goes. AppendsAnswer (IsAnswer filter text) (Ok goes) c.args.buffer.now c.push_read.new.buffer) c.in-Ok-true.field-0-test c.in-Ok-true.ensures.answered in (
      c.args.line.now,
      c.push.ensures.appended ∙ ap (λ l. l ++ c.args.line.now) (taken_back _ _ put.0 _ _ c.len-start.ensures put.1 c.truncate.ensures),
      inr (
        c.in-Some.text.place,
        c.in-Some.text.count,
        Ok (Some put.0),
        c.in-Some.ensures.first,
        subst (λ t. IsAnswer filter t (Ok (Some put.0))) c.part_at-bytes.ensures.part put.2,
        refl,
      ),
    )

pub returns-in-Ok-false-clause-answered : goal.returns-in-Ok-false-clause-answered
returns-in-Ok-false-clause-answered c =
    let filter = c.args.filter.now in
    let text = c.part_at-bytes.result.now in
    let put : (c.push_read.new.buffer ≡ c.args.buffer.now) × IsAnswer filter text (Ok None) =
    subst (λ goes. AppendsAnswer (IsAnswer filter text) (Ok goes) c.args.buffer.now c.push_read.new.buffer) c.in-Ok-false.field-0-test c.in-Ok-false.ensures.answered in
    (put.0, inr (c.in-Some.text.place, c.in-Some.text.count, Ok None, c.in-Some.ensures.first, subst (λ t. IsAnswer filter t (Ok None)) c.part_at-bytes.ensures.part put.1, refl))

pub returns-in-Err-clause-answered : goal.returns-in-Err-clause-answered
returns-in-Err-clause-answered c =
    let put = c.in-Err.ensures.answered in (
      put.0,
      inr (
        c.in-Some.text.place,
        c.in-Some.text.count,
        Err c.in-Err.why,
        c.in-Some.ensures.first,
        subst (λ t. IsAnswer c.args.filter.now t (Err c.in-Err.why)) c.part_at-bytes.ensures.part put.1,
        refl,
      ),
    )
