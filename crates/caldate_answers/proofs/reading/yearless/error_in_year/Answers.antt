use Rattle.std.proofs.Common.{◌≡◌, arith, inr, of_z, refl, subst, to_z, Err, Ok}
use Rattle.std.proofs.lemmas.Int.{ints}
use mir.Syntax.{w32}
use Rattle.caldate_answers.specs.Readers.{IsErrorInYear, IsReadInYear, IsTextInYears}
use Rattle.caldate_answers.proofs.InYear.{no_reason, only_reason}
use Rattle.caldate_answers.proofs.reading.yearless.error_in_year.Goals as goal

pub returns-in-Ok-clause-error : goal.returns-in-Ok-clause-error
returns-in-Ok-clause-error c =
    let e : to_z w32 (of_z w32 c.args.year) ≡ c.args.year = omega (arith, ints) in
    let is = subst (λ y. IsReadInYear c.args.offset c.args.format.now c.args.text.now y (Ok c.in-Ok.field-0)) e c.in-Ok.ensures in
    inr (is.1, refl)

pub returns-in-Ok-clause-only : goal.returns-in-Ok-clause-only
returns-in-Ok-clause-only c = λ any h.
    let e : to_z w32 (of_z w32 c.args.year) ≡ c.args.year = omega (arith, ints) in
    let is = subst (λ y. IsReadInYear c.args.offset c.args.format.now c.args.text.now y (Ok c.in-Ok.field-0)) e c.in-Ok.ensures in
    no_reason (IsErrorInYear c.args.format.now c.args.text.now c.args.year) any is.1 h

pub returns-in-Err-clause-error : goal.returns-in-Err-clause-error
returns-in-Err-clause-error c =
    let e : to_z w32 (of_z w32 c.args.year) ≡ c.args.year = omega (arith, ints) in
    (subst (λ y. IsReadInYear c.args.offset c.args.format.now c.args.text.now y (Err c.in-Err.why)) e c.in-Err.ensures).0.error

pub returns-in-Err-clause-only : goal.returns-in-Err-clause-only
returns-in-Err-clause-only c = λ any h.
    let e : to_z w32 (of_z w32 c.args.year) ≡ c.args.year = omega (arith, ints) in
    let is = (subst (λ y. IsReadInYear c.args.offset c.args.format.now c.args.text.now y (Err c.in-Err.why)) e c.in-Err.ensures).0 in
    only_reason (IsTextInYears c.args.offset c.args.format.now c.args.text.now c.args.year c.args.year) (IsErrorInYear c.args.format.now c.args.text.now c.args.year) c.in-Err.why any is h
