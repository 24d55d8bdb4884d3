use Rattle.std.proofs.Common.{◌∙◌, Ok, ap, pos, sym}
use Rattle.std.proofs.lemmas.Option.{none-some}
use Rattle.cal_text.specs.Position.{HasSome}
use Rattle.cal_text.specs.declared.any.DateOrMoment.TheVariants.{Moment}
use Rattle.cal_text.specs.declared.any.MomentForm.TheVariants.{Unix}
use Rattle.cal_text.proofs.Positions.{named}
use Rattle.cal_text.proofs.Results.{not_ok, one}
use Rattle.caldate_answers.specs.Readings.{IsNumber}
use Rattle.caldate_answers.proofs.UnixMoments.{moment_of, no_fault, product, same_moment}
use Rattle.caldate_answers.proofs.WholeNumbers.{number_stop}
use Rattle.caldate_answers.proofs.reading.number.read_number.Goals as goal

pub returns-in-Ok-clause-every : goal.returns-in-Ok-clause-every
returns-in-Ok-clause-every c found is =
    let n = c.in-Some.ensures.value in
    let same = product c.args.unit c.in-Some.number c.from.result n.few (c.from.ensures ∙ ap pos c.nanoseconds_in.ensures.value) in
    let made = same_moment c.args.unit c.args.text.now c.in-Some.number _ found _ n same c.in-Ok.ensures.value is in
    ap (λ m. Ok (Moment Unix m)) (one _ _ made.1) ∙ ap Ok (sym made.2)

pub returns-in-Ok-clause-has : goal.returns-in-Ok-clause-has
returns-in-Ok-clause-has c =
    let n = c.in-Some.ensures.value in
    let same = product c.args.unit c.in-Some.number c.from.result n.few (c.from.ensures ∙ ap pos c.nanoseconds_in.ensures.value) in
    moment_of c.args.unit c.args.text.now c.in-Some.number _ c.in-Ok.moment n same c.in-Ok.ensures.value c.in-Ok.ensures.error.1

pub returns-in-Ok-clause-component : goal.returns-in-Ok-clause-component
returns-in-Ok-clause-component c why =
    let n = c.in-Some.ensures.value in
    let same = product c.args.unit c.in-Some.number c.from.result n.few (c.from.ensures ∙ ap pos c.nanoseconds_in.ensures.value) in
    (λ e. absurd e, λ is. no_fault c.args.unit c.args.text.now c.in-Some.number _ why n same c.in-Ok.ensures.error.1 is)

pub returns-in-Err-clause-every : goal.returns-in-Err-clause-every
returns-in-Err-clause-every c found is =
    let n = c.in-Some.ensures.value in
    let same = product c.args.unit c.in-Some.number c.from.result n.few (c.from.ensures ∙ ap pos c.nanoseconds_in.ensures.value) in
    absurd (not_ok _ _ (same_moment c.args.unit c.args.text.now c.in-Some.number _ found _ n same c.in-Err.ensures.value is).1)

-- the scanner stopped
pub overflow_sub-position : goal.overflow_sub-position
overflow_sub-position c = (number_stop c.args.text.now _ c.in_default.ensures.scans).within

pub returns-in_default-clause-every : goal.returns-in_default-clause-every
returns-in_default-clause-every c found is = absurd ((number_stop c.args.text.now _ c.in_default.ensures.scans).none is.0 is.1)

pub returns-in_default-clause-form : goal.returns-in_default-clause-form
returns-in_default-clause-form c =
    (λ e has. (number_stop c.args.text.now _ c.in_default.ensures.scans).none has.0 has.1, λ none. c.unexpected.ensures.form)

pub returns-in_default-clause-position : goal.returns-in_default-clause-position
returns-in_default-clause-position c =
    let at = (number_stop c.args.text.now _ c.in_default.ensures.scans).position in
    named (HasSome IsNumber) c.args.text.now _ c.unexpected.result at c.unexpected.ensures.byte c.unexpected.ensures.end

pub returns-in_default-clause-component : goal.returns-in_default-clause-component
returns-in_default-clause-component c why = (
  λ e. absurd (none-some why (sym c.unexpected.ensures.form ∙ e)),
  λ is. absurd ((number_stop c.args.text.now _ c.in_default.ensures.scans).none is.1.0 is.1.1),
)
