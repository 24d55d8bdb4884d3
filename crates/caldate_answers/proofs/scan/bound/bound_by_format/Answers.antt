use Rattle.std.proofs.Common.{◌∙◌, ◌++◌, subst, sym, take}
use Rattle.std.specs.Prelude.{IsTrue, false}
use Rattle.cal_format.specs.Form.{HasForm}
use Rattle.cal_format.specs.Lenient.{are_leniently_apart}
use Rattle.cal_format.specs.Variants.{HasVariants}
use Rattle.caldate_answers.specs.FormatErrors.{IsFormatError}
use Rattle.caldate_answers.specs.Readers.{IsFormatText}
use Rattle.caldate_answers.specs.Scans.{Bounds}
use Rattle.caldate_answers.specs.Variants.{lenient_of}
use Rattle.caldate_answers.proofs.OneVariant.{error_variant}
use Rattle.caldate_answers.proofs.Rejected.{error_form}
use Rattle.caldate_answers.proofs.Solid.{variants_of}
use Rattle.caldate_answers.proofs.TextBounds.{date_form, date_time_form, front_within, moment_form}
use Rattle.caldate_answers.proofs.scan.bound.bound_by_format.Goals as goal

pub returns-in-Dates-clause-within : goal.returns-in-Dates-clause-within
returns-in-Dates-clause-within c = c.bound_by_items.ensures.within

pub returns-in-Dates-clause-front : goal.returns-in-Dates-clause-front
returns-in-Dates-clause-front c = λ offset n more found fits h.
    let items = c.in-Dates.format in
    let text = take n c.args.bytes.now ++ more in
    let is = subst (λ f. IsFormatText offset f text found) c.in-Dates.is h in
    let bound = subst (λ l. Bounds (HasForm l) c.args.bytes.now c.bound_by_items.result) c.as_format.ensures.items c.bound_by_items.ensures in
    front_within items c.args.bytes.now c.bound_by_items.result n more bound fits (date_form items text is.0 c.as_format.ensures.determines is.1)

pub returns-in-Dates-clause-error : goal.returns-in-Dates-clause-error
returns-in-Dates-clause-error c = λ n more any fits h.
    let items = c.in-Dates.format in
    let text = take n c.args.bytes.now ++ more in
    let is = subst (λ f. IsFormatError f text any) c.in-Dates.is h in
    let bound = subst (λ l. Bounds (HasForm l) c.args.bytes.now c.bound_by_items.result) c.as_format.ensures.items c.bound_by_items.ensures in
    front_within items c.args.bytes.now c.bound_by_items.result n more bound fits (error_form items text any c.as_format.ensures.determines.0 is)

pub returns-in-Moments-clause-within : goal.returns-in-Moments-clause-within
returns-in-Moments-clause-within c = c.bound_by_items-in-Moments.ensures.within

pub returns-in-Moments-clause-front : goal.returns-in-Moments-clause-front
returns-in-Moments-clause-front c = λ offset n more found fits h.
    let items = c.in-Moments.format in
    let text = take n c.args.bytes.now ++ more in
    let is = subst (λ f. IsFormatText offset f text found) c.in-Moments.is h in
    let bound = subst (λ l. Bounds (HasForm l) c.args.bytes.now c.bound_by_items-in-Moments.result) c.as_format-in-Moments.ensures.items c.bound_by_items-in-Moments.ensures in
    front_within items c.args.bytes.now c.bound_by_items-in-Moments.result n more bound fits (moment_form items text is.0 c.as_format-in-Moments.ensures.determines is.1)

pub returns-in-Moments-clause-error : goal.returns-in-Moments-clause-error
returns-in-Moments-clause-error c = λ n more any fits h.
    let items = c.in-Moments.format in
    let text = take n c.args.bytes.now ++ more in
    let is = subst (λ f. IsFormatError f text any) c.in-Moments.is h in
    let bound = subst (λ l. Bounds (HasForm l) c.args.bytes.now c.bound_by_items-in-Moments.result) c.as_format-in-Moments.ensures.items c.bound_by_items-in-Moments.ensures in
    front_within items c.args.bytes.now c.bound_by_items-in-Moments.result n more bound fits (error_form items text any c.as_format-in-Moments.ensures.determines.0 is)

pub returns-in-DateTimes-clause-within : goal.returns-in-DateTimes-clause-within
returns-in-DateTimes-clause-within c = c.bound_by_items-in-DateTimes.ensures.within

pub returns-in-DateTimes-clause-front : goal.returns-in-DateTimes-clause-front
returns-in-DateTimes-clause-front c = λ offset n more found fits h.
    let items = c.in-DateTimes.format in
    let text = take n c.args.bytes.now ++ more in
    let is = subst (λ f. IsFormatText offset f text found) c.in-DateTimes.is h in
    let bound = subst (λ l. Bounds (HasForm l) c.args.bytes.now c.bound_by_items-in-DateTimes.result) c.as_format-in-DateTimes.ensures.items c.bound_by_items-in-DateTimes.ensures in
    front_within items c.args.bytes.now c.bound_by_items-in-DateTimes.result n more bound fits (date_time_form items text is.0 c.as_format-in-DateTimes.ensures.determines is.1)

pub returns-in-DateTimes-clause-error : goal.returns-in-DateTimes-clause-error
returns-in-DateTimes-clause-error c = λ n more any fits h.
    let items = c.in-DateTimes.format in
    let text = take n c.args.bytes.now ++ more in
    let is = subst (λ f. IsFormatError f text any) c.in-DateTimes.is h in
    let bound = subst (λ l. Bounds (HasForm l) c.args.bytes.now c.bound_by_items-in-DateTimes.result) c.as_format-in-DateTimes.ensures.items c.bound_by_items-in-DateTimes.ensures in
    front_within items c.args.bytes.now c.bound_by_items-in-DateTimes.result n more bound fits (error_form items text any c.as_format-in-DateTimes.ensures.determines.0 is)

pub variant_bound-requires-clause-apart : goal.variant_bound-requires-clause-apart
variant_bound-requires-clause-apart c =
    subst (λ l. IsTrue (are_leniently_apart l)) (sym (c.items.ensures.items ∙ c.as_format-in-Lenient.ensures.items)) c.as_format-in-Lenient.ensures.apart

pub returns-in-Lenient-clause-within : goal.returns-in-Lenient-clause-within
returns-in-Lenient-clause-within c = c.variant_bound.ensures.within

pub returns-in-Lenient-clause-front : goal.returns-in-Lenient-clause-front
returns-in-Lenient-clause-front c = λ offset n more found fits h.
    let text = take n c.args.bytes.now ++ more in
    let is = subst (λ f. IsFormatText offset f text found) c.in-Lenient.is h in
    let variants = variants_of offset c.in-Lenient.format text found is in
    let items = sym (c.items.ensures.items ∙ c.as_format-in-Lenient.ensures.items) in
    c.variant_bound.ensures.front variants.0 n more fits (subst (λ l. HasVariants false l variants.0 text) items variants.1)

pub returns-in-Lenient-clause-error : goal.returns-in-Lenient-clause-error
returns-in-Lenient-clause-error c = λ n more any fits h.
    let text = take n c.args.bytes.now ++ more in
    let is = subst (λ f. IsFormatError f text any) c.in-Lenient.is h in
    let variants = error_variant (lenient_of c.in-Lenient.format) text any is in
    let items = sym (c.items.ensures.items ∙ c.as_format-in-Lenient.ensures.items) in
    c.variant_bound.ensures.front variants.0 n more fits (subst (λ l. HasVariants false l variants.0 text) items variants.1)

pub returns-in-InLanguage-clause-within : goal.returns-in-InLanguage-clause-within
returns-in-InLanguage-clause-within c = c.bound_in_language.ensures.within

pub returns-in-InLanguage-clause-front : goal.returns-in-InLanguage-clause-front
returns-in-InLanguage-clause-front c = λ offset n more found fits h.
    c.bound_in_language.ensures.front offset n more found fits (subst (λ f. IsFormatText offset f (take n c.args.bytes.now ++ more) found) c.in-InLanguage.is h)

pub returns-in-InLanguage-clause-error : goal.returns-in-InLanguage-clause-error
returns-in-InLanguage-clause-error c = λ n more any fits h.
    c.bound_in_language.ensures.error n more any fits (subst (λ f. IsFormatError f (take n c.args.bytes.now ++ more) any) c.in-InLanguage.is h)
