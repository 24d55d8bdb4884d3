use Rattle.std.proofs.Common.{◌∙◌, ap, refl, sym}
use Rattle.cal_format.proofs.Moments.{date_time-holds}
use Rattle.cal_format.proofs.Outcomes.{no-result, same-result}
use Rattle.cal_format.specs.Moment.{moment_of_date_time}
use Rattle.cal_format.specs.Rejection.{IsRejection}
use Rattle.cal_text.specs.declared.any.DateOrMoment.TheVariants as dated
use Rattle.cal_text.specs.declared.any.MomentForm.TheVariants.{Rfc3339}
use Rattle.caldate_answers.specs.FormatErrors.{IsFormatError}
use Rattle.caldate_answers.specs.Readers.{IsFormatText}
use Rattle.caldate_answers.specs.declared.reading.value_format.ValueFormat.TheVariants.{DateTimes}
use Rattle.caldate_answers.proofs.Rejected.{one_rejection, read, rejected, unrejected}
use Rattle.caldate_answers.proofs.reading.value_format.read_date_time.Goals as goal

pub returns-in-Ok : goal.returns-in-Ok
returns-in-Ok c =
    let items = c.args.format.now in
    let text = c.args.text.now in
    let v = c.in-Ok.ensures.value in
    let holds = date_time-holds items c.in-Ok.local c.in-Ok.ensures.determines v.0 v.1 v.2 in (
      read (IsFormatText c.args.offset (DateTimes items) text) (IsFormatError (DateTimes items) text) _ (c.in-Ok.local, record { in_range = v.0; held = v.1; time = v.2; text_is = v.3 }, c.in_rfc3339.ensures ∙ ap (dated.Moment Rfc3339) c.assume_offset.ensures.value)
          (λ other h. c.in_rfc3339.ensures ∙ ap (dated.Moment Rfc3339) c.assume_offset.ensures.value ∙ ap (λ z. dated.Moment Rfc3339 (record { local = z; offset = c.args.offset })) (same-result _ c.in-Ok.local h.0 refl (c.in-Ok.ensures.every h.0 h.1.in_range h.1.held h.1.time h.1.text_is)) ∙ sym h.2),
      λ any h. unrejected items (moment_of_date_time c.in-Ok.local) text any c.in-Ok.ensures.determines.0 holds v.3 h,
    )

pub returns-in-Err : goal.returns-in-Err
returns-in-Err c =
    let items = c.args.format.now in
    let text = c.args.text.now in (
      rejected (IsFormatText c.args.offset (DateTimes items) text) (IsRejection items text) c.in-Err.error _ c.format_reason_of.ensures
          (λ found h. no-result c.in-Err.error h.0 (c.in-Err.ensures.every h.0 h.1.in_range h.1.held h.1.time h.1.text_is)) (one_rejection items text c.in-Err.ensures.determines.0) c.in-Err.ensures.error,
      tt,
    )
