use Rattle.std.proofs.Common.{Ok, Err, ap, subst, sym, ◌∙◌}
use Rattle.cal_text.specs.OffsetDateTimeForm.{IsOffsetDateTimeOf}
use Rattle.cal_text.proofs.Errors.{later, sooner}
use Rattle.cal_text.proofs.OffsetDateTimeReads.{offset_errors, joined}
use Rattle.cal_text.proofs.Results.{one, not_ok}
use Rattle.cal_text.proofs.offset_date_time.from_numbers.moment_from_numbers.Goals as goal

pub returns-in-Ok-offset_from_numbers-clause-value : goal.returns-in-Ok-offset_from_numbers-clause-value
returns-in-Ok-offset_from_numbers-clause-value c =
    subst (IsOffsetDateTimeOf c.args.numbers) (sym c.assume_offset.ensures.value)
    (record { local = c.in-Ok.ensures.value; offset = c.in-Ok-offset_from_numbers.ensures.value })

pub returns-in-Ok-offset_from_numbers-clause-every : goal.returns-in-Ok-offset_from_numbers-clause-every
returns-in-Ok-offset_from_numbers-clause-every c m is =
    let local = one _ _ (c.in-Ok.ensures.every m.local is.local) in
    let offset = one _ _ (c.in-Ok-offset_from_numbers.ensures.every m.offset is.offset) in
    ap Ok (c.assume_offset.ensures.value ∙ joined m _ _ local offset)

pub returns-in-Ok-offset_from_numbers-clause-error : goal.returns-in-Ok-offset_from_numbers-clause-error
returns-in-Ok-offset_from_numbers-clause-error c why =
    let e = c.in-Ok-offset_from_numbers.ensures in
    later (λ x. absurd x) (c.in-Ok.ensures.error why) (offset_errors c.args.numbers.offset (Ok c.in-Ok-offset_from_numbers.offset) e.hour e.minute e.second e.error_kind why)

pub returns-in-Err-offset_from_numbers : goal.returns-in-Err-offset_from_numbers
returns-in-Err-offset_from_numbers c =
    let e = c.in-Err-offset_from_numbers.ensures in
    record {
      every = λ m is. absurd (not_ok _ _ (e.every m.offset is.offset));
      value = tt;
      error = λ why.
          later (λ x. (c.in-Ok.local, c.in-Ok.ensures.value)) (c.in-Ok.ensures.error why)
          (offset_errors c.args.numbers.offset (Err c.in-Err-offset_from_numbers.error) e.hour e.minute e.second e.error_kind why);
    }

pub returns-in-Err : goal.returns-in-Err
returns-in-Err c =
    let e = c.in-Err.ensures in
    record { every = λ m is. absurd (not_ok _ _ (e.every m.local is.local)); value = tt; error = λ why. sooner (λ p. not_ok _ _ (e.every p.0 p.1)) (e.error why) }
