use Rattle.std.proofs.Common.{◌∙◌, ap, refl, sym}
use Rattle.cal_format.proofs.Moments.{moment-holds}
use Rattle.cal_format.proofs.Outcomes.{no-result, same-result}
use Rattle.cal_format.specs.Moment.{moment_of_offset_date_time}
use Rattle.cal_format.specs.Rejection.{IsRejection}
use Rattle.cal_text.specs.declared.any.DateOrMoment.TheVariants as dated
use Rattle.cal_text.specs.declared.any.MomentForm.TheVariants.{Rfc3339}
use Rattle.caldate_answers.specs.FormatErrors.{IsFormatError}
use Rattle.caldate_answers.specs.Readers.{IsFormatText}
use Rattle.caldate_answers.specs.declared.reading.value_format.ValueFormat.TheVariants.{Moments}
use Rattle.caldate_answers.proofs.Rejected.{one_rejection, read, rejected, unrejected}
use Rattle.caldate_answers.proofs.reading.value_format.read_moment.Goals as goal

pub returns-in-Ok : goal.returns-in-Ok
returns-in-Ok c = λ offset.
    let items = c.args.format.now in
    let text = c.args.text.now in
    let v = c.in-Ok.ensures.value in
    let holds = moment-holds items c.in-Ok.moment c.in-Ok.ensures.determines v.0 v.1 v.2 v.3 v.4 in (
      read (IsFormatText offset (Moments items) text) (IsFormatError (Moments items) text) _ (c.in-Ok.moment, record { local = v.0; offset = v.1; held = v.2; time = v.3; printed_offset = v.4; text_is = v.5 }, c.in_rfc3339.ensures)
          (λ other h. c.in_rfc3339.ensures ∙ ap (dated.Moment Rfc3339) (same-result _ c.in-Ok.moment h.0 refl (c.in-Ok.ensures.every h.0 h.1.local h.1.offset h.1.held h.1.time h.1.printed_offset h.1.text_is)) ∙ sym h.2),
      λ any h. unrejected items (moment_of_offset_date_time c.in-Ok.moment) text any c.in-Ok.ensures.determines.0 holds v.5 h,
    )

pub returns-in-Err : goal.returns-in-Err
returns-in-Err c = λ offset.
    let items = c.args.format.now in
    let text = c.args.text.now in (
      rejected (IsFormatText offset (Moments items) text) (IsRejection items text) c.in-Err.error _ c.format_reason_of.ensures
          (λ found h. no-result c.in-Err.error h.0 (c.in-Err.ensures.every h.0 h.1.local h.1.offset h.1.held h.1.time h.1.printed_offset h.1.text_is)) (one_rejection items text c.in-Err.ensures.determines.0) c.in-Err.ensures.error,
      tt,
    )
