use Rattle.std.proofs.Common.{Ok, Err, ap, subst, sym, ◌∙◌}
use Rattle.cal_datetime.specs.DateTime.{date_time, date_at, time_at}
use Rattle.cal_datetime.specs.DateTimeLaws.{date_time-parts, IsDate-date_at}
use Rattle.cal_text.specs.Parsing.{IsOnDay}
use Rattle.cal_text.specs.TimeForm.{IsTimeOf}
use Rattle.cal_text.proofs.Errors.{later, sooner}
use Rattle.cal_text.proofs.PlainReads.{time_errors}
use Rattle.cal_text.proofs.Results.{one, not_ok}
use Rattle.cal_text.proofs.plain.from_numbers.plain_from_numbers.Goals as goal

pub returns-in-Ok-time_from_numbers-clause-value : goal.returns-in-Ok-time_from_numbers-clause-value
returns-in-Ok-time_from_numbers-clause-value c =
    let made = c.new.ensures in
    record {
      in_range = made.in_range;
      date = subst (IsOnDay c.args.numbers.date) (sym made.date) c.in-Ok.ensures.value.1;
      time = subst (IsTimeOf c.args.numbers.time) (sym made.time) c.in-Ok-time_from_numbers.ensures.value;
    }

pub returns-in-Ok-time_from_numbers-clause-every : goal.returns-in-Ok-time_from_numbers-clause-every
returns-in-Ok-time_from_numbers-clause-every c p is =
    let date = one _ _ (c.in-Ok.ensures.every (date_at p) (IsDate-date_at p is.in_range) is.date) in
    let time = one _ _ (c.in-Ok-time_from_numbers.ensures.every (time_at p) is.time) in
    ap Ok (c.new.ensures.value ∙ ap (λ n. date_time n c.in-Ok-time_from_numbers.time) date ∙ ap (λ t. date_time (date_at p) t) time ∙ date_time-parts p is.in_range)

pub returns-in-Ok-time_from_numbers-clause-error : goal.returns-in-Ok-time_from_numbers-clause-error
returns-in-Ok-time_from_numbers-clause-error c why =
    let e = c.in-Ok-time_from_numbers.ensures in
    later (λ x. absurd x) (c.in-Ok.ensures.error why) (time_errors c.args.numbers.time (Ok c.in-Ok-time_from_numbers.time) e.hour e.minute e.second e.error_kind why)

pub returns-in-Err-time_from_numbers : goal.returns-in-Err-time_from_numbers
returns-in-Err-time_from_numbers c =
    let e = c.in-Err-time_from_numbers.ensures in
    let date = c.in-Ok.ensures in
    record {
      every = λ p is. absurd (not_ok _ _ (e.every (time_at p) is.time));
      value = tt;
      error = λ why.
          later (λ x. (c.in-Ok.date, date.value.0, date.value.1)) (date.error why)
          (time_errors c.args.numbers.time (Err c.in-Err-time_from_numbers.error) e.hour e.minute e.second e.error_kind why);
    }

pub returns-in-Err : goal.returns-in-Err
returns-in-Err c =
    let e = c.in-Err.ensures in
    record {
      every = λ p is. absurd (not_ok _ _ (e.every (date_at p) (IsDate-date_at p is.in_range) is.date));
      value = tt;
      error = λ why. sooner (λ d. not_ok _ _ (e.every d.0 d.1 d.2)) (e.error why);
    }
