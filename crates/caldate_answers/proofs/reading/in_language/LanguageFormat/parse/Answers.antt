use Rattle.std.proofs.Common.{◌∙◌, Ok, ap, subst, sym}
use Rattle.cal_format.proofs.Outcomes.{no-result, same-result}
use Rattle.cal_text.specs.declared.any.DateForm.TheVariants.{Calendar}
use Rattle.cal_text.specs.declared.any.DateOrMoment.TheVariants.{Date, Moment}
use Rattle.cal_text.specs.declared.any.MomentForm.TheVariants.{Rfc3339}
use Rattle.caldate_answers.specs.Languages.{IsTextInLanguage}
use Rattle.caldate_answers.specs.declared.reading.in_language.LanguageKind.TheVariants.{Moments, DateTimes}
use Rattle.caldate_answers.proofs.reading.in_language.LanguageFormat.parse.Goals as goal

pub returns-in-Ok-clause-every : goal.returns-in-Ok-clause-every
returns-in-Ok-clause-every c = λ found is.
    let at = ap (λ kind. (c.self.inside.names.now, kind)) (sym c.in-Dates.is) ∙ c.self.view_is in
    let own = subst (λ p. IsTextInLanguage c.args.offset p.0 p.1 c.args.text.now found) (sym at) is in
    ap (λ x. Ok x) (c.in_calendar.ensures ∙ ap (Date Calendar) (same-result _ c.in-Ok.date own.0 c.in-Ok.is (c.parse_date.ensures.every own.0 own.1 own.2)) ∙ sym own.3)

pub returns-in-Err-clause-every : goal.returns-in-Err-clause-every
returns-in-Err-clause-every c = λ found is.
    let at = ap (λ kind. (c.self.inside.names.now, kind)) (sym c.in-Dates.is) ∙ c.self.view_is in
    let own = subst (λ p. IsTextInLanguage c.args.offset p.0 p.1 c.args.text.now found) (sym at) is in
    absurd (no-result c.in-Err.error own.0 (sym c.in-Err.is ∙ c.parse_date.ensures.every own.0 own.1 own.2))

pub returns-in-Ok-parse_offset_date_time-clause-every : goal.returns-in-Ok-parse_offset_date_time-clause-every
returns-in-Ok-parse_offset_date_time-clause-every c = λ found is.
    let at = ap (λ kind. (c.self.inside.names.now, kind)) (sym c.in-Moments.is) ∙ c.self.view_is in
    let own = subst (λ p. IsTextInLanguage c.args.offset p.0 p.1 c.args.text.now found) (sym at) is in
    ap (λ x. Ok x) (c.in_rfc3339.ensures ∙ ap (Moment Rfc3339) (same-result _ c.in-Ok-parse_offset_date_time.moment own.0 c.in-Ok-parse_offset_date_time.is (c.parse_offset_date_time.ensures.every own.0 own.1 own.2)) ∙ sym own.3)

pub returns-in-Ok-parse_offset_date_time-clause-has : goal.returns-in-Ok-parse_offset_date_time-clause-has
returns-in-Ok-parse_offset_date_time-clause-has c =
    let at = ap (λ kind. (c.self.inside.names.now, kind)) (sym c.in-Moments.is) ∙ c.self.view_is in
    let v = c.in-Ok-parse_offset_date_time.ensures.value in
    let own : IsTextInLanguage c.args.offset c.self.inside.names.now (Moments c.in-Moments.format) c.args.text.now c.in_rfc3339.result = (c.in-Ok-parse_offset_date_time.moment, v.0, v.1, c.in_rfc3339.ensures) in
    subst (λ p. IsTextInLanguage c.args.offset p.0 p.1 c.args.text.now c.in_rfc3339.result) at own

pub returns-in-Err-parse_offset_date_time-clause-every : goal.returns-in-Err-parse_offset_date_time-clause-every
returns-in-Err-parse_offset_date_time-clause-every c = λ found is.
    let at = ap (λ kind. (c.self.inside.names.now, kind)) (sym c.in-Moments.is) ∙ c.self.view_is in
    let own = subst (λ p. IsTextInLanguage c.args.offset p.0 p.1 c.args.text.now found) (sym at) is in
    absurd (no-result c.in-Err-parse_offset_date_time.error own.0 (sym c.in-Err-parse_offset_date_time.is ∙ c.parse_offset_date_time.ensures.every own.0 own.1 own.2))

pub returns-in-Ok-parse_date_time-clause-every : goal.returns-in-Ok-parse_date_time-clause-every
returns-in-Ok-parse_date_time-clause-every c = λ found is.
    let at = ap (λ kind. (c.self.inside.names.now, kind)) (sym c.in-DateTimes.is) ∙ c.self.view_is in
    let own = subst (λ p. IsTextInLanguage c.args.offset p.0 p.1 c.args.text.now found) (sym at) is in
    ap (λ x. Ok x) (c.in_rfc3339-in-Ok-parse_date_time.ensures ∙ ap (Moment Rfc3339) c.assume_offset.ensures.value ∙ ap (λ z. Moment Rfc3339 (record { local = z; offset = c.args.offset })) (same-result _ c.in-Ok-parse_date_time.local own.0 c.in-Ok-parse_date_time.is (c.parse_date_time.ensures.every own.0 own.1 own.2)) ∙ sym own.3)

pub returns-in-Ok-parse_date_time-clause-has : goal.returns-in-Ok-parse_date_time-clause-has
returns-in-Ok-parse_date_time-clause-has c =
    let at = ap (λ kind. (c.self.inside.names.now, kind)) (sym c.in-DateTimes.is) ∙ c.self.view_is in
    let v = c.in-Ok-parse_date_time.ensures.value in
    let own : IsTextInLanguage c.args.offset c.self.inside.names.now (DateTimes c.in-DateTimes.format) c.args.text.now c.in_rfc3339-in-Ok-parse_date_time.result = (c.in-Ok-parse_date_time.local, v.0, v.1, c.in_rfc3339-in-Ok-parse_date_time.ensures ∙ ap (Moment Rfc3339) c.assume_offset.ensures.value) in
    subst (λ p. IsTextInLanguage c.args.offset p.0 p.1 c.args.text.now c.in_rfc3339-in-Ok-parse_date_time.result) at own

pub returns-in-Err-parse_date_time-clause-every : goal.returns-in-Err-parse_date_time-clause-every
returns-in-Err-parse_date_time-clause-every c = λ found is.
    let at = ap (λ kind. (c.self.inside.names.now, kind)) (sym c.in-DateTimes.is) ∙ c.self.view_is in
    let own = subst (λ p. IsTextInLanguage c.args.offset p.0 p.1 c.args.text.now found) (sym at) is in
    absurd (no-result c.in-Err-parse_date_time.error own.0 (sym c.in-Err-parse_date_time.is ∙ c.parse_date_time.ensures.every own.0 own.1 own.2))
