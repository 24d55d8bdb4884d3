use Rattle.std.proofs.Common.{◌∙◌, ap, refl, subst, sym}
use Rattle.std.specs.Prelude.{IsTrue}
use Rattle.cal_format.proofs.Known.{offset-known, time-known}
use Rattle.cal_format.proofs.Moments.{moment-holds}
use Rattle.cal_format.proofs.Outcomes.{no-result, same-result}
use Rattle.cal_format.specs.Lenient.{IsLenientRejection, items_of}
use Rattle.cal_format.specs.Moment.{moment_of_offset_date_time}
use Rattle.cal_datetime.specs.DateTime.{time_at}
use Rattle.cal_text.specs.declared.any.DateOrMoment.TheVariants as dated
use Rattle.cal_text.specs.declared.any.MomentForm.TheVariants.{Rfc3339}
use Rattle.caldate_answers.specs.FormatErrors.{IsFormatError}
use Rattle.caldate_answers.specs.Readers.{IsFormatText}
use Rattle.caldate_answers.specs.declared.reading.lenient.LenientKind.TheVariants.{Moments}
use Rattle.caldate_answers.specs.declared.reading.value_format.ValueFormat.TheVariants.{Lenient}
use Rattle.caldate_answers.proofs.OneVariant.{lenient_unrejected, one_lenient_rejection}
use Rattle.caldate_answers.proofs.Rejected.{read, rejected}
use Rattle.caldate_answers.proofs.reading.lenient.read_moment.Goals as goal

pub returns-in-Ok : goal.returns-in-Ok
returns-in-Ok c = λ offset.
    let f = c.args.format.now in
    let text = c.args.text.now in
    let v = c.in-Ok.ensures.value in
    let reads = c.in-Ok.ensures.reads in
    let holds = moment-holds (items_of f) c.in-Ok.moment reads.1 v.0 v.1 v.2.numbers (subst IsTrue (sym (time-known f.pivot f.format (time_at c.in-Ok.moment.local))) v.2.parts) (subst IsTrue (sym (offset-known f.pivot f.format c.in-Ok.moment.offset)) v.2.offset_parts) in (
      read (IsFormatText offset (Lenient (Moments f)) text) (IsFormatError (Lenient (Moments f)) text) _ (c.in-Ok.moment, v.0, v.1, v.2, c.in_rfc3339.ensures)
          (λ other h. c.in_rfc3339.ensures ∙ ap (dated.Moment Rfc3339) (same-result _ c.in-Ok.moment h.0 refl (c.in-Ok.ensures.every h.0 h.1 h.2 h.3)) ∙ sym h.4),
      λ any h. lenient_unrejected f (moment_of_offset_date_time c.in-Ok.moment) text any reads.0 holds v.2 h,
    )

pub returns-in-Err : goal.returns-in-Err
returns-in-Err c = λ offset.
    let f = c.args.format.now in
    let text = c.args.text.now in (
      rejected (IsFormatText offset (Lenient (Moments f)) text) (IsLenientRejection f text) c.in-Err.error _ c.format_reason_of.ensures
          (λ found h. no-result c.in-Err.error h.0 (c.in-Err.ensures.every h.0 h.1 h.2 h.3)) (one_lenient_rejection f text c.in-Err.ensures.reads.0) c.in-Err.ensures.error,
      tt,
    )
