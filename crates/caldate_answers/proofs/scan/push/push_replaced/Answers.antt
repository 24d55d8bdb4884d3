use Rattle.std.proofs.Common.{◌≡◌, ◌∙◌, ◌≤◌, ◌<◌, ◌++◌, [], Some, None, Ok, Err, ap, append-nil, arith, length, length-append, drop, refl, subst, sym}
use Rattle.caldate_lines.specs.declared.no_answer.NoAnswer.TheVariants as why
use Rattle.caldate_answers.specs.Answers.{IsAnswer}
use Rattle.caldate_answers.specs.Appends.{AppendsAnswer, AppendsSome}
use Rattle.caldate_answers.specs.Scans.{IsReadWith, with_words}
use Rattle.caldate_answers.specs.Scans.IsReplaced.{no_more, answered, too_long, unanswered}
use Rattle.caldate_answers.proofs.Appends.{taken_back}
use Rattle.caldate_answers.proofs.Scans.{back, fitted_long, fitted_short, last_out, next_out}
use Rattle.caldate_answers.proofs.scan.push.push_replaced.Goals as goal

pub push_read-requires-clause-read : goal.push_read-requires-clause-read
push_read-requires-clause-read c = subst (λ t. IsReadWith c.args.filter.now t c.in-Some.text.read) (sym c.part_at-bytes.ensures.part) c.in-Some.ensures.read

pub loop-text-init : goal.loop-text-init
loop-text-init c = record { within = omega arith; old = omega arith; few = omega arith; so_far = ([], sym (append-nil c.args.buffer.now), λ answer h. h) }

pub returns-in-Ok-false-clause-answered : goal.returns-in-Ok-false-clause-answered
returns-in-Ok-false-clause-answered c =
    let filter = c.args.filter.now in
    let text = c.part_at-bytes.result.now in
    let far = c.loop-text.invariant.so_far in
    let put : (c.push_read.new.buffer ≡ c.push.new.self) × IsAnswer filter text (Ok None) =
    subst (λ goes. AppendsAnswer (IsAnswer filter text) (Ok goes) c.push.new.self c.push_read.new.buffer) c.in-Ok-false.field-0-test c.in-Ok-false.ensures.answered in (
      back _ far.0 _ _ _ _ _ _ c.len-start.ensures far.1 c.push.ensures.appended put.0 c.truncate.ensures,
      far.2 (Ok None) (unanswered far.0 _ _ _ c.in-Some.ensures.first (subst (λ t. IsAnswer filter t (Ok None)) c.part_at-bytes.ensures.part put.1) refl),
    )

pub returns-in-Err-clause-answered : goal.returns-in-Err-clause-answered
returns-in-Err-clause-answered c =
    let filter = c.args.filter.now in
    let far = c.loop-text.invariant.so_far in
    let put = c.in-Err.ensures.answered in (
      back _ far.0 _ _ _ _ _ _ c.len-start.ensures far.1 c.push.ensures.appended put.0 c.truncate-in-Err.ensures,
      far.2 (Err c.in-Err.why) (unanswered far.0 _ _ _ c.in-Some.ensures.first (subst (λ t. IsAnswer filter t (Err c.in-Err.why)) c.part_at-bytes.ensures.part put.1) refl),
    )

pub returns-then-len-start-gt-LONGEST_TEXT-clause-answered : goal.returns-then-len-start-gt-LONGEST_TEXT-clause-answered
returns-then-len-start-gt-LONGEST_TEXT-clause-answered c =
    let filter = c.args.filter.now in
    let line = c.args.line.now in
    let old = c.args.buffer.now in
    let text = c.part_at-bytes.result.now in
    let from = c.loop-text.from in
    let place = c.in-Some.text.place in
    let far = c.loop-text.invariant.so_far in
    let put : AppendsSome (λ words. IsAnswer filter text (Ok (Some words))) c.push.new.self c.push_read.new.buffer =
    subst (λ goes. AppendsAnswer (IsAnswer filter text) (Ok goes) c.push.new.self c.push_read.new.buffer) c.in-Ok-true.field-0-test c.in-Ok-true.ensures.answered in
    let next = next_out old far.0 line put.0 c.loop-text.buffer c.push.new.self c.push_read.new.buffer from place far.1 c.push.ensures.appended put.1 in
    let all = with_words line from place far.0 put.0 in
    let long : 4096 < length all =
    omega (arith, c.if-len-start-gt-LONGEST_TEXT.true, c.len.ensures, c.len-start.ensures, ap length next, length-append old all) in (
      taken_back old c.push_read.new.buffer all _ c.len-start.result c.len-start.ensures next c.truncate-then-len-start-gt-LONGEST_TEXT.ensures,
      far.2 (Err why.TooLong) (too_long far.0 put.0 from place c.in-Some.text.count c.in-Some.ensures.first (subst (λ t. IsAnswer filter t (Ok (Some put.0))) c.part_at-bytes.ensures.part put.2) long refl),
    )

pub loop-text-preserved : goal.loop-text-preserved
loop-text-preserved c =
    let filter = c.args.filter.now in
    let line = c.args.line.now in
    let old = c.args.buffer.now in
    let text = c.part_at-bytes.result.now in
    let from = c.loop-text.from in
    let place = c.in-Some.text.place in
    let far = c.loop-text.invariant.so_far in
    let put : AppendsSome (λ words. IsAnswer filter text (Ok (Some words))) c.push.new.self c.push_read.new.buffer =
    subst (λ goes. AppendsAnswer (IsAnswer filter text) (Ok goes) c.push.new.self c.push_read.new.buffer) c.in-Ok-true.field-0-test c.in-Ok-true.ensures.answered in
    let next = next_out old far.0 line put.0 c.loop-text.buffer c.push.new.self c.push_read.new.buffer from place far.1 c.push.ensures.appended put.1 in
    let all = with_words line from place far.0 put.0 in
    let long = ap length next ∙ length-append old all in
    let fits : length all ≤ 4096 = omega (arith, c.if-len-start-gt-LONGEST_TEXT.false, c.len.ensures, c.len-start.ensures, long) in record {
      within = c.in-Some.ensures.within.2;
      old = omega (arith, long);
      few = omega (arith, long, fits);
      so_far = (
        all,
        next,
        λ answer h. far.2 answer
            (answered far.0 put.0 from place c.in-Some.text.count c.in-Some.ensures.first (subst (λ t. IsAnswer filter t (Ok (Some put.0))) c.part_at-bytes.ensures.part put.2) fits h),
      );
    }

pub returns-then-len-start-gt-LONGEST_TEXT-2-clause-answered : goal.returns-then-len-start-gt-LONGEST_TEXT-2-clause-answered
returns-then-len-start-gt-LONGEST_TEXT-2-clause-answered c =
    let line = c.args.line.now in
    let old = c.args.buffer.now in
    let from = c.loop-text.from in
    let far = c.loop-text.invariant.so_far in
    let all = far.0 ++ drop from line in
    let last = last_out old far.0 line c.loop-text.buffer c.push-2.new.self from far.1 c.push-2.ensures.appended in
    let long : 4096 < length all =
    omega (arith, c.if-len-start-gt-LONGEST_TEXT-2.true, c.len-2.ensures, c.len-start.ensures, ap length last, length-append old all) in (
      taken_back old c.push-2.new.self all _ c.len-start.result c.len-start.ensures last c.truncate-then-len-start-gt-LONGEST_TEXT-2.ensures,
      far.2 (Err why.TooLong) (no_more far.0 from c.in_default.ensures.first (fitted_long all long)),
    )

pub returns-clause-answered : goal.returns-clause-answered
returns-clause-answered c =
    let line = c.args.line.now in
    let old = c.args.buffer.now in
    let from = c.loop-text.from in
    let far = c.loop-text.invariant.so_far in
    let all = far.0 ++ drop from line in
    let last = last_out old far.0 line c.loop-text.buffer c.push-2.new.self from far.1 c.push-2.ensures.appended in
    let fits : length all ≤ 4096 =
    omega (arith, c.if-len-start-gt-LONGEST_TEXT-2.false, c.len-2.ensures, c.len-start.ensures, ap length last, length-append old all) in
    (all, last, far.2 (Ok (Some all)) (no_more far.0 from c.in_default.ensures.first (fitted_short all fits)))
