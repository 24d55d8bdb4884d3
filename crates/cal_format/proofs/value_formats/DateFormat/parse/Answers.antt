use Rattle.std.proofs.Common.{ap, refl, subst, sym, ◌∙◌, Ok, Err}
use Rattle.cal_format.specs.Moment.{moment_of_date}
use Rattle.cal_format.specs.Reading.{DeterminesDate}
use Rattle.cal_format.specs.Rejection.{IsParsed}
use Rattle.cal_format.specs.Scanning.{IsOneDate}
use Rattle.cal_format.proofs.Outcomes.{result-or, no-result}
use Rattle.cal_format.proofs.Moments.{date-holds}
use Rattle.cal_format.proofs.Alike.{dates-alike}
use Rattle.cal_format.proofs.value_formats.DateFormat.parse.Goals as goal

pub returns-in-Err : goal.returns-in-Err
returns-in-Err c =
    let determines = subst DeterminesDate c.self.view_is c.self.invariant in
    let parsed = subst (λ l. IsParsed l c.args.text.now (Err c.in-Err.error)) c.self.view_is c.in-Err.ensures in
    record {
      every = λ n date held text. absurd (no-result c.in-Err.error (moment_of_date n) (parsed.every (moment_of_date n) (date-holds c.args.self.now n determines date held) text));
      value = tt;
      error = parsed.error;
      determines = determines;
    }

pub returns-in-Ok : goal.returns-in-Ok
returns-in-Ok c =
    let determines = subst DeterminesDate c.self.view_is c.self.invariant in
    let parsed = subst (λ l. IsParsed l c.args.text.now (Ok c.in-Ok.moment)) c.self.view_is c.in-Ok.ensures in
    let alike = dates-alike c.args.self.now c.in-Ok.moment (moment_of_date c.in-Ok.moment.date) refl determines.1 in
    record {
      every = λ n date held text. ap (λ r. Ok (result-or c.in-Ok.moment r).date) (parsed.every (moment_of_date n) (date-holds c.args.self.now n determines date held) text);
      value = (parsed.value.in_range.date, alike.1 parsed.value.numbers, parsed.value.text_is ∙ alike.0);
      error = tt;
      determines = determines;
    }

pub returns-in-Some : goal.returns-in-Some
returns-in-Some c =
    let one = subst (λ l. IsOneDate l c.in-Some.date c.args.text.now) c.self.view_is c.in-Some.ensures in
    record {
      every = λ n date held text. ap Ok (sym (one.every n date held text));
      value = (one.date, one.held, one.text_is);
      error = tt;
      determines = subst DeterminesDate c.self.view_is c.self.invariant;
    }
