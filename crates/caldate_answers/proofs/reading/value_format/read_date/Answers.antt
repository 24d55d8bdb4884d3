use Rattle.std.proofs.Common.{◌∙◌, ap, refl, sym}
use Rattle.cal_format.proofs.Moments.{date-holds}
use Rattle.cal_format.proofs.Outcomes.{no-result, same-result}
use Rattle.cal_format.specs.Moment.{moment_of_date}
use Rattle.cal_format.specs.Rejection.{IsRejection}
use Rattle.cal_text.specs.declared.any.DateForm.TheVariants.{Calendar}
use Rattle.cal_text.specs.declared.any.DateOrMoment.TheVariants as dated
use Rattle.caldate_answers.specs.FormatErrors.{IsFormatError}
use Rattle.caldate_answers.specs.Readers.{IsFormatText}
use Rattle.caldate_answers.specs.declared.reading.value_format.ValueFormat.TheVariants.{Dates}
use Rattle.caldate_answers.proofs.Rejected.{one_rejection, read, rejected, unrejected}
use Rattle.caldate_answers.proofs.reading.value_format.read_date.Goals as goal

pub returns-in-Ok : goal.returns-in-Ok
returns-in-Ok c = λ offset.
    let items = c.args.format.now in
    let text = c.args.text.now in
    let v = c.in-Ok.ensures.value in
    let holds = date-holds items c.in-Ok.date c.in-Ok.ensures.determines v.0 v.1 in (
      read (IsFormatText offset (Dates items) text) (IsFormatError (Dates items) text) _ (c.in-Ok.date, record { in_range = v.0; held = v.1; text_is = v.2 }, c.in_calendar.ensures)
          (λ other h. c.in_calendar.ensures ∙ ap (dated.Date Calendar) (same-result _ c.in-Ok.date h.0 refl (c.in-Ok.ensures.every h.0 h.1.in_range h.1.held h.1.text_is)) ∙ sym h.2),
      λ any h. unrejected items (moment_of_date c.in-Ok.date) text any c.in-Ok.ensures.determines.0 holds v.2 h,
    )

pub returns-in-Err : goal.returns-in-Err
returns-in-Err c = λ offset.
    let items = c.args.format.now in
    let text = c.args.text.now in (
      rejected (IsFormatText offset (Dates items) text) (IsRejection items text) c.in-Err.error _ c.format_reason_of.ensures
          (λ found h. no-result c.in-Err.error h.0 (c.in-Err.ensures.every h.0 h.1.in_range h.1.held h.1.text_is)) (one_rejection items text c.in-Err.ensures.determines.0) c.in-Err.ensures.error,
      tt,
    )
