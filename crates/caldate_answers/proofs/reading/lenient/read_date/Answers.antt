use Rattle.std.proofs.Common.{◌∙◌, ap, refl, sym}
use Rattle.cal_format.proofs.Moments.{date-holds}
use Rattle.cal_format.proofs.Outcomes.{no-result, same-result}
use Rattle.cal_format.specs.Lenient.{IsLenientRejection, items_of}
use Rattle.cal_format.specs.Moment.{moment_of_date}
use Rattle.cal_text.specs.declared.any.DateForm.TheVariants.{Calendar}
use Rattle.cal_text.specs.declared.any.DateOrMoment.TheVariants as dated
use Rattle.caldate_answers.specs.FormatErrors.{IsFormatError}
use Rattle.caldate_answers.specs.Readers.{IsFormatText}
use Rattle.caldate_answers.specs.declared.reading.lenient.LenientKind.TheVariants.{Dates}
use Rattle.caldate_answers.specs.declared.reading.value_format.ValueFormat.TheVariants.{Lenient}
use Rattle.caldate_answers.proofs.OneVariant.{lenient_unrejected, one_lenient_rejection}
use Rattle.caldate_answers.proofs.Rejected.{read, rejected}
use Rattle.caldate_answers.proofs.reading.lenient.read_date.Goals as goal

pub returns-in-Ok : goal.returns-in-Ok
returns-in-Ok c = λ offset.
    let f = c.args.format.now in
    let text = c.args.text.now in
    let v = c.in-Ok.ensures.value in
    let reads = c.in-Ok.ensures.reads in
    let holds = date-holds (items_of f) c.in-Ok.date reads.1 v.0 v.1.numbers in (
      read (IsFormatText offset (Lenient (Dates f)) text) (IsFormatError (Lenient (Dates f)) text) _ (c.in-Ok.date, v.0, v.1, c.in_calendar.ensures)
          (λ other h. c.in_calendar.ensures ∙ ap (dated.Date Calendar) (same-result _ c.in-Ok.date h.0 refl (c.in-Ok.ensures.every h.0 h.1 h.2)) ∙ sym h.3),
      λ any h. lenient_unrejected f (moment_of_date c.in-Ok.date) text any reads.0 holds v.1 h,
    )

pub returns-in-Err : goal.returns-in-Err
returns-in-Err c = λ offset.
    let f = c.args.format.now in
    let text = c.args.text.now in (
      rejected (IsFormatText offset (Lenient (Dates f)) text) (IsLenientRejection f text) c.in-Err.error _ c.format_reason_of.ensures
          (λ found h. no-result c.in-Err.error h.0 (c.in-Err.ensures.every h.0 h.1 h.2)) (one_lenient_rejection f text c.in-Err.ensures.reads.0) c.in-Err.ensures.error,
      tt,
    )
