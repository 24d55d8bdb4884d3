use Rattle.std.proofs.Common.{ap, refl, subst, ◌∙◌, Ok, Err}
use Rattle.cal_format.specs.Moment.{moment_of_offset}
use Rattle.cal_format.specs.Reading.{DeterminesOffset}
use Rattle.cal_format.specs.Rejection.{IsParsed}
use Rattle.cal_format.proofs.Outcomes.{result-or, no-result}
use Rattle.cal_format.proofs.Moments.{offset-holds}
use Rattle.cal_format.proofs.Alike.{offsets-alike}
use Rattle.cal_format.proofs.value_formats.OffsetFormat.parse.Goals as goal

pub returns-in-Err : goal.returns-in-Err
returns-in-Err c =
    let determines = subst DeterminesOffset c.self.view_is c.self.invariant in
    let parsed = subst (λ l. IsParsed l c.args.text.now (Err c.in-Err.error)) c.self.view_is c.in-Err.ensures in
    record {
      every = λ o range holds text. absurd (no-result c.in-Err.error (moment_of_offset o) (parsed.every (moment_of_offset o) (offset-holds c.args.self.now o determines range holds) text));
      value = tt;
      error = parsed.error;
      determines = determines;
    }

pub returns-in-Ok : goal.returns-in-Ok
returns-in-Ok c =
    let determines = subst DeterminesOffset c.self.view_is c.self.invariant in
    let parsed = subst (λ l. IsParsed l c.args.text.now (Ok c.in-Ok.moment)) c.self.view_is c.in-Ok.ensures in
    let alike = offsets-alike c.args.self.now c.in-Ok.moment (moment_of_offset c.in-Ok.moment.offset) refl determines.1 in
    record {
      every = λ o range holds text. ap (λ r. Ok (result-or c.in-Ok.moment r).offset) (parsed.every (moment_of_offset o) (offset-holds c.args.self.now o determines range holds) text);
      value = (parsed.value.in_range.offset, parsed.value.offset_parts, parsed.value.text_is ∙ alike.0);
      error = tt;
      determines = determines;
    }
