use Rattle.std.proofs.Common.{Some, Ok, ◌∙◌, ap, subst, sym, pos}
use Rattle.std.proofs.lemmas.Option.{none-some, same_Some}
use Rattle.cal_time.specs.Date.{HasCalendarDate}
use Rattle.cal_text.specs.Position.{HasSome}
use Rattle.cal_text.specs.declared.any.DateForm.TheVariants.{Calendar}
use Rattle.cal_text.specs.declared.any.DateOrMoment.TheVariants.{Date}
use Rattle.cal_text.proofs.Positions.{named}
use Rattle.cal_text.proofs.Results.{not_ok, one}
use Rattle.caldate_answers.specs.Readings.{HasDate, YearMonthDay}
use Rattle.caldate_answers.proofs.DateShapes.{date_error, date_stop, dated_shape}
use Rattle.caldate_answers.proofs.reading.date.read_date.Goals as goal

pub returns-in-Ok-clause-every : goal.returns-in-Ok-clause-every
returns-in-Ok-clause-every c found (v, has, (n, date, is, same)) =
    let numbers : YearMonthDay = (c.in-Some.year, c.in-Some.month, c.in-Some.day) in
    let same_numbers = (dated_shape c.args.order).one c.args.text.now v numbers has c.in-Some.ensures.value in
    ap (λ day. Ok (Date Calendar day)) (one _ _ (c.in-Ok.ensures.every n date (subst (λ v. HasCalendarDate (pos v.0) v.1 v.2 n) same_numbers is))) ∙ ap Ok (sym same)

pub returns-in-Err-clause-every : goal.returns-in-Err-clause-every
returns-in-Err-clause-every c found (v, has, (n, date, is, same)) =
    let numbers : YearMonthDay = (c.in-Some.year, c.in-Some.month, c.in-Some.day) in
    let same_numbers = (dated_shape c.args.order).one c.args.text.now v numbers has c.in-Some.ensures.value in
    absurd (not_ok _ _ (c.in-Err.ensures.every n date (subst (λ v. HasCalendarDate (pos v.0) v.1 v.2 n) same_numbers is)))

pub returns-in-Ok-clause-component : goal.returns-in-Ok-clause-component
returns-in-Ok-clause-component c why = date_error c.args.order c.args.text.now _ c.in-Some.ensures.value why ⊥ (c.in-Ok.ensures.error why)

pub returns-in-Err-clause-component : goal.returns-in-Err-clause-component
returns-in-Err-clause-component c why =
    let error = c.in-Err.ensures.error why in
    date_error c.args.order c.args.text.now _ c.in-Some.ensures.value why _ (λ e. error.0 (same_Some _ why e), λ is. ap Some (error.1 is))

-- the scanner stopped
pub overflow_sub-text : goal.overflow_sub-text
overflow_sub-text c = (date_stop c.args.order c.args.text.now _ c.in-None.ensures.scans).within

pub returns-in-None-clause-every : goal.returns-in-None-clause-every
returns-in-None-clause-every c found is = absurd ((date_stop c.args.order c.args.text.now _ c.in-None.ensures.scans).none is.0 is.1)

pub returns-in-None-clause-form : goal.returns-in-None-clause-form
returns-in-None-clause-form c =
    (λ e has. (date_stop c.args.order c.args.text.now _ c.in-None.ensures.scans).none has.0 has.1, λ none. c.unexpected.ensures.form)

pub returns-in-None-clause-position : goal.returns-in-None-clause-position
returns-in-None-clause-position c =
    let at = (date_stop c.args.order c.args.text.now _ c.in-None.ensures.scans).position in
    named (HasSome (HasDate c.args.order)) c.args.text.now _ c.unexpected.result at c.unexpected.ensures.byte c.unexpected.ensures.end

pub returns-in-None-clause-component : goal.returns-in-None-clause-component
returns-in-None-clause-component c why = (
  λ e. absurd (none-some why (sym c.unexpected.ensures.form ∙ e)),
  λ is. absurd ((date_stop c.args.order c.args.text.now _ c.in-None.ensures.scans).none is.0 is.1),
)
