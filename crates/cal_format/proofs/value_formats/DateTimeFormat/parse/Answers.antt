use Rattle.std.proofs.Common.{◌≡◌, ap, subst, sym, ◌∙◌, Ok, Err}
use Rattle.std.specs.Prelude.{IsTrue}
use Rattle.cal_datetime.specs.DateTime.{date_time, date_at, time_at}
use Rattle.cal_datetime.specs.DateTimeLaws.{IsDateTime-date_time, date_at-date_time, time_at-date_time, date_time-parts}
use Rattle.cal_format.specs.Moment.{moment_of_date_time}
use Rattle.cal_format.specs.Reading.{holds_time, DeterminesDateTime}
use Rattle.cal_format.specs.Rejection.{IsParsed}
use Rattle.cal_format.specs.Scanning.{IsOnePair}
use Rattle.cal_format.proofs.Outcomes.{result-or, no-result}
use Rattle.cal_format.proofs.Moments.{date_time-holds}
use Rattle.cal_format.proofs.Alike.{date_times-alike}
use Rattle.cal_format.proofs.value_formats.DateTimeFormat.parse.Goals as goal

pub returns-in-Err : goal.returns-in-Err
returns-in-Err c =
    let determines = subst DeterminesDateTime c.self.view_is c.self.invariant in
    let parsed = subst (λ l. IsParsed l c.args.text.now (Err c.in-Err.error)) c.self.view_is c.in-Err.ensures in
    record {
      every = λ z range held holds text. absurd (no-result c.in-Err.error (moment_of_date_time z) (parsed.every (moment_of_date_time z) (date_time-holds c.args.self.now z determines range held holds) text));
      value = tt;
      error = parsed.error;
      determines = determines;
    }

pub returns-in-Ok : goal.returns-in-Ok
returns-in-Ok c =
    let determines = subst DeterminesDateTime c.self.view_is c.self.invariant in
    let parsed = subst (λ l. IsParsed l c.args.text.now (Ok c.in-Ok.moment)) c.self.view_is c.in-Ok.ensures in
    let v = c.in-Ok.moment in
    let z = date_time v.date v.time in
    let below = parsed.value.in_range.time.below_day in
    let d : date_at z ≡ v.date = date_at-date_time v.date v.time below in
    let t : time_at z ≡ v.time = time_at-date_time v.date v.time below in
    let alike = date_times-alike c.args.self.now v (moment_of_date_time z) (sym d) (sym t) determines.1 in
    record {
      every = λ y range held holds text.
          let same = ap (result-or c.in-Ok.moment) (parsed.every (moment_of_date_time y) (date_time-holds c.args.self.now y determines range held holds) text) in
          ap Ok (c.new.ensures.value ∙ (λ i. date_time (same i).date (same i).time) ∙ date_time-parts y range);
      value =
          rw c.new.ensures.value (IsDateTime-date_time v.date v.time parsed.value.in_range.date below, alike.1 parsed.value.numbers, subst (λ n. IsTrue (holds_time c.args.self.now n)) (sym t) parsed.value.parts, parsed.value.text_is ∙ alike.0);
      error = tt;
      determines = determines;
    }

pub returns-in-Some : goal.returns-in-Some
returns-in-Some c =
    let one = subst (λ l. IsOnePair l c.in-Some.date_time c.args.text.now) c.self.view_is c.in-Some.ensures in
    record {
      every = λ z range held holds text. ap Ok (sym (one.every z range held holds text));
      value = (one.range, one.held, one.holds, one.text_is);
      error = tt;
      determines = subst DeterminesDateTime c.self.view_is c.self.invariant;
    }
