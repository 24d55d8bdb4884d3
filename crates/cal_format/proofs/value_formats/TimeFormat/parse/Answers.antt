use Rattle.std.proofs.Common.{ap, refl, subst, sym, ◌∙◌, Ok, Err}
use Rattle.cal_format.specs.Moment.{moment_of_time}
use Rattle.cal_format.specs.Reading.{DeterminesTime}
use Rattle.cal_format.specs.Rejection.{IsParsed}
use Rattle.cal_format.specs.Scanning.{IsOneTime}
use Rattle.cal_format.proofs.Outcomes.{result-or, no-result}
use Rattle.cal_format.proofs.Moments.{time-holds}
use Rattle.cal_format.proofs.Alike.{times-alike}
use Rattle.cal_format.proofs.value_formats.TimeFormat.parse.Goals as goal

pub returns-in-Err : goal.returns-in-Err
returns-in-Err c =
    let determines = subst DeterminesTime c.self.view_is c.self.invariant in
    let parsed = subst (λ l. IsParsed l c.args.text.now (Err c.in-Err.error)) c.self.view_is c.in-Err.ensures in
    record {
      every = λ t time holds text. absurd (no-result c.in-Err.error (moment_of_time t) (parsed.every (moment_of_time t) (time-holds c.args.self.now t determines time holds) text));
      value = tt;
      error = parsed.error;
      determines = determines;
    }

pub returns-in-Ok : goal.returns-in-Ok
returns-in-Ok c =
    let determines = subst DeterminesTime c.self.view_is c.self.invariant in
    let parsed = subst (λ l. IsParsed l c.args.text.now (Ok c.in-Ok.moment)) c.self.view_is c.in-Ok.ensures in
    let alike = times-alike c.args.self.now c.in-Ok.moment (moment_of_time c.in-Ok.moment.time) refl determines.1 in
    record {
      every = λ t time holds text. ap (λ r. Ok (result-or c.in-Ok.moment r).time) (parsed.every (moment_of_time t) (time-holds c.args.self.now t determines time holds) text);
      value = (parsed.value.in_range.time, parsed.value.parts, parsed.value.text_is ∙ alike.0);
      error = tt;
      determines = determines;
    }

pub returns-in-Some : goal.returns-in-Some
returns-in-Some c =
    let one = subst (λ l. IsOneTime l c.in-Some.time c.args.text.now) c.self.view_is c.in-Some.ensures in
    record {
      every = λ t time holds text. ap Ok (sym (one.every t time holds text));
      value = (one.time, one.holds, one.text_is);
      error = tt;
      determines = subst DeterminesTime c.self.view_is c.self.invariant;
    }
