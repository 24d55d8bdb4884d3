use Rattle.std.proofs.Common.{subst, sym}
use Rattle.cal_format.specs.Form.{HasForm}
use Rattle.caldate_answers.specs.FormatErrors.{IsFormatError}
use Rattle.caldate_answers.specs.Readers.{IsFormatText}
use Rattle.caldate_answers.proofs.Rejected.{error_form}
use Rattle.caldate_answers.proofs.TextBounds.{date_form, date_time_form, moment_form}
use Rattle.caldate_answers.proofs.scan.digit_start.is_number_first.Goals as goal

pub returns-in-Dates-clause-text : goal.returns-in-Dates-clause-text
returns-in-Dates-clause-text c = λ on offset bytes found h.
    let is = subst (λ f. IsFormatText offset f bytes found) c.in-Dates.is h in
    c.begins_with_zeros.ensures on bytes
    (subst (λ l. HasForm l bytes) (sym c.as_format.ensures.items) (date_form c.in-Dates.format bytes is.0 c.as_format.ensures.determines is.1))

pub returns-in-Moments-clause-text : goal.returns-in-Moments-clause-text
returns-in-Moments-clause-text c = λ on offset bytes found h.
    let is = subst (λ f. IsFormatText offset f bytes found) c.in-Moments.is h in
    c.begins_with_zeros-in-Moments.ensures on bytes
    (subst (λ l. HasForm l bytes) (sym c.as_format-in-Moments.ensures.items) (moment_form c.in-Moments.format bytes is.0 c.as_format-in-Moments.ensures.determines is.1))

pub returns-in-DateTimes-clause-text : goal.returns-in-DateTimes-clause-text
returns-in-DateTimes-clause-text c = λ on offset bytes found h.
    let is = subst (λ f. IsFormatText offset f bytes found) c.in-DateTimes.is h in
    c.begins_with_zeros-in-DateTimes.ensures on bytes
    (subst (λ l. HasForm l bytes) (sym c.as_format-in-DateTimes.ensures.items) (date_time_form c.in-DateTimes.format bytes is.0 c.as_format-in-DateTimes.ensures.determines is.1))

pub returns-in-Dates-clause-error : goal.returns-in-Dates-clause-error
returns-in-Dates-clause-error c = λ on bytes any h.
    let is = subst (λ f. IsFormatError f bytes any) c.in-Dates.is h in
    c.begins_with_zeros.ensures on bytes
    (subst (λ l. HasForm l bytes) (sym c.as_format.ensures.items) (error_form c.in-Dates.format bytes any c.as_format.ensures.determines.0 is))

pub returns-in-Moments-clause-error : goal.returns-in-Moments-clause-error
returns-in-Moments-clause-error c = λ on bytes any h.
    let is = subst (λ f. IsFormatError f bytes any) c.in-Moments.is h in
    c.begins_with_zeros-in-Moments.ensures on bytes
    (subst (λ l. HasForm l bytes) (sym c.as_format-in-Moments.ensures.items) (error_form c.in-Moments.format bytes any c.as_format-in-Moments.ensures.determines.0 is))

pub returns-in-DateTimes-clause-error : goal.returns-in-DateTimes-clause-error
returns-in-DateTimes-clause-error c = λ on bytes any h.
    let is = subst (λ f. IsFormatError f bytes any) c.in-DateTimes.is h in
    c.begins_with_zeros-in-DateTimes.ensures on bytes
    (subst (λ l. HasForm l bytes) (sym c.as_format-in-DateTimes.ensures.items) (error_form c.in-DateTimes.format bytes any c.as_format-in-DateTimes.ensures.determines.0 is))
