use Rattle.std.proofs.Common.{◌≡◌, None, Ok, ◌∙◌, ap, inl, inr, subst, sym}
use Rattle.std.proofs.lemmas.Option.{none-some}
use Rattle.cal_datetime.specs.OffsetDateTime.{LocalAndOffset}
use Rattle.cal_text.specs.Parsing.{component_of}
use Rattle.cal_text.specs.Rfc3339Form.{HasMomentForm, IsMomentText}
use Rattle.cal_text.specs.declared.any.DateOrMoment.TheVariants.{Moment}
use Rattle.cal_text.specs.declared.any.MomentForm.TheVariants.{Rfc3339}
use Rattle.cal_text.proofs.Results.{not_ok, one}
use Rattle.caldate_answers.proofs.LocalShapes.{none_without, without_offset}
use Rattle.caldate_answers.proofs.reading.local.read_local.Goals as goal

pub returns-in-Ok-clause-every : goal.returns-in-Ok-clause-every
returns-in-Ok-clause-every c found (m, text, same) =
    let is = one _ _ (c.in-Ok.ensures.every m (subst (λ t. IsMomentText t m) (sym (c.as_bytes.ensures ∙ c.with_offset-full.ensures)) text.1)) in
    let local = c.local.ensures.value ∙ ap (λ (m : LocalAndOffset). m.local) is in
    let moved : c.assume_offset.result ≡ record { local = m.local; offset = c.args.offset } =
    c.assume_offset.ensures.value ∙ ap (λ z. let at : LocalAndOffset = record { local = z; offset = c.args.offset } in at) local in
    ap (λ at. Ok (Moment Rfc3339 at)) moved ∙ ap Ok (sym same)

pub returns-in-Ok-clause-component : goal.returns-in-Ok-clause-component
returns-in-Ok-clause-component c why = without_offset c.args.text.now _ why ⊥ (c.as_bytes.ensures ∙ c.with_offset-full.ensures) c.if-text-gt-LONGEST.false (c.in-Ok.ensures.out_of_range why)

pub returns-in-OutOfRange-clause-every : goal.returns-in-OutOfRange-clause-every
returns-in-OutOfRange-clause-every c found (m, text, same) =
    absurd (not_ok _ _ (c.in-Err.ensures.every m (subst (λ t. IsMomentText t m) (sym (c.as_bytes.ensures ∙ c.with_offset-full.ensures)) text.1)))

pub returns-in-OutOfRange-clause-component : goal.returns-in-OutOfRange-clause-component
returns-in-OutOfRange-clause-component c why =
    without_offset c.args.text.now _ why _ (c.as_bytes.ensures ∙ c.with_offset-full.ensures) c.if-text-gt-LONGEST.false
    (rw c.in-OutOfRange.is at (c.in-Err.ensures.out_of_range why))

pub wrong_at-requires-in-UnexpectedByte : goal.wrong_at-requires-in-UnexpectedByte
wrong_at-requires-in-UnexpectedByte c =
    let syntax = elim c.in-UnexpectedByte.is as (λ _. component_of c.in-Err.error ≡ None) [ inl byte ↦ ap component_of byte.1 | inr end ↦ ap component_of end.1 ] in
    none_without HasMomentForm c.args.text.now _ (c.as_bytes.ensures ∙ c.with_offset-full.ensures) (c.in-Err.ensures.syntax_error.0 syntax)

pub returns-in-UnexpectedByte : goal.returns-in-UnexpectedByte
returns-in-UnexpectedByte c =
    let syntax = elim c.in-UnexpectedByte.is as (λ _. component_of c.in-Err.error ≡ None) [ inl byte ↦ ap component_of byte.1 | inr end ↦ ap component_of end.1 ] in
    let none = none_without HasMomentForm c.args.text.now _ (c.as_bytes.ensures ∙ c.with_offset-full.ensures) (c.in-Err.ensures.syntax_error.0 syntax) in
    let e = c.wrong_at-in-UnexpectedByte.ensures in
    record {
      every = λ found h. absurd (none (h.1.1.0, (h.1.0, h.1.1.1)));
      has = tt;
      form = (λ _. none, λ _. e.form);
      position = e.position;
      component = λ why. (λ some. absurd (none-some why (sym e.form ∙ some)), λ h. absurd (none (h.0, h.1)));
    }
