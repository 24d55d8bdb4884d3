use Rattle.std.proofs.Common.{◌∙◌, inl, Ok, ap, subst, sym}
use Rattle.cal_text.specs.declared.any.DateOrMoment.TheVariants.{Date}
use Rattle.cal_text.specs.AnyForm.{date_form_of}
use Rattle.cal_text.specs.DateForms.{HasForm}
use Rattle.cal_text.specs.Position.{HasSome}
use Rattle.cal_text.specs.Parsing.{IsDateError, IsOnDay}
use Rattle.cal_text.proofs.AnyForms.{date-found, date-any, date-error, same_error}
use Rattle.cal_text.proofs.DayForms.{text-of-form}
use Rattle.cal_text.proofs.Errors.{not_refused, refused_for, no_form}
use Rattle.cal_text.proofs.Positions.{named}
use Rattle.cal_text.proofs.Results.{one, not_ok}
use Rattle.cal_text.proofs.AnyPositions as positions
use Rattle.cal_text.proofs.any.dates.parse_any_date.Goals as goal

pub returns-in-Ok-date_from_numbers-clause-every : goal.returns-in-Ok-date_from_numbers-clause-every
returns-in-Ok-date_from_numbers-clause-every c =
    date-found c.args.text.now _ c.requires.first c.requires.separator
    (λ f n date is.
    let form = one _ _ (c.in-Ok.ensures.every f is.0) in
    let day = one _ _ (c.in-Ok-date_from_numbers.ensures.every n date (subst (λ g. IsOnDay g n) (sym form) is.1)) in
    ap (λ k. Ok (Date k c.in-Ok-date_from_numbers.date)) (c.date_form_of.ensures ∙ ap date_form_of form) ∙ ap (λ k. Ok (Date (date_form_of f) k)) day)

pub returns-in-Ok-date_from_numbers-clause-value : goal.returns-in-Ok-date_from_numbers-clause-value
returns-in-Ok-date_from_numbers-clause-value c =
    let has = c.in-Ok-date_from_numbers.ensures.value in
    rw c.date_form_of.ensures (has.0, text-of-form c.args.text.now c.in-Ok.form c.in-Ok-date_from_numbers.date c.in-Ok.ensures.value has.1)

pub returns-in-Ok-date_from_numbers-clause-out_of_range : goal.returns-in-Ok-date_from_numbers-clause-out_of_range
returns-in-Ok-date_from_numbers-clause-out_of_range c why =
    let error = not_refused HasForm IsDateError c.args.text.now c.in-Ok.form c.in-Ok.ensures.every c.in-Ok-date_from_numbers.ensures.error why in
    same_error error (date-error c.args.text.now why c.requires.first c.requires.separator) (λ h. inl h)

pub returns-in-Err-date_from_numbers-clause-every : goal.returns-in-Err-date_from_numbers-clause-every
returns-in-Err-date_from_numbers-clause-every c =
    date-found c.args.text.now _ c.requires.first c.requires.separator
    (λ f n date is.
    let form = one _ _ (c.in-Ok.ensures.every f is.0) in
    absurd (not_ok _ _ (c.in-Err-date_from_numbers.ensures.every n date (subst (λ g. IsOnDay g n) (sym form) is.1))))

pub returns-in-Err-date_from_numbers-clause-out_of_range : goal.returns-in-Err-date_from_numbers-clause-out_of_range
returns-in-Err-date_from_numbers-clause-out_of_range c why =
    let every = c.in-Ok.ensures.every in
    let error = refused_for HasForm IsDateError c.args.text.now c.in-Ok.form c.in-Err-date_from_numbers.error every c.in-Ok.ensures.value c.in-Err-date_from_numbers.ensures.error why in
    same_error error (date-error c.args.text.now why c.requires.first c.requires.separator) (λ h. inl h)

pub returns-in-Err : goal.returns-in-Err
returns-in-Err c =
    let text = c.args.text.now in
    let none = c.in-Err.ensures.every in
    let e = c.unexpected.ensures in
    let stop = named (HasSome HasForm) text c.in-Err.position c.unexpected.result c.in-Err.ensures.position e.byte e.end in
    record {
      every = date-found text _ c.requires.first c.requires.separator (λ f n date is. absurd (not_ok _ _ (none f is.0)));
      value = tt;
      syntax_error = (λ h any. let form = date-any text c.requires.first c.requires.separator any in not_ok _ _ (none form.0 form.1), λ h. e.form);
      position = positions.date text c.unexpected.result c.requires.first c.requires.separator stop;
      out_of_range = λ why.
          same_error (no_form HasForm IsDateError text c.unexpected.result e.form c.in-Err.position none why) (date-error text why c.requires.first c.requires.separator) (λ h. inl h);
    }
