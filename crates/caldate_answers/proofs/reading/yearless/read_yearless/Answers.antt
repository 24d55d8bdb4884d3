use Rattle.std.proofs.Common.{◌≡◌, arith, of_z, subst, to_z}
use Rattle.std.proofs.lemmas.Int.{ints}
use mir.Syntax.{w32}
use Rattle.caldate_answers.specs.FormatErrors.{IsReadBy}
use Rattle.caldate_answers.specs.Readers.{IsErrorInYear, IsTextInYears, IsYearlessError, IsYearlessText}
use Rattle.caldate_answers.specs.declared.reading.yearless.AssumedYear.TheVariants.{Is, Near}
use Rattle.caldate_answers.proofs.InYear.{no_form, yearless_by}
use Rattle.caldate_answers.proofs.reading.yearless.read_yearless.Goals as goal

pub returns-then-text-gt-LONGEST : goal.returns-then-text-gt-LONGEST
returns-then-text-gt-LONGEST c =
    no_form (IsYearlessText c.args.assumptions.now c.args.format.now c.args.text.now) (IsYearlessError c.args.assumptions.now c.args.format.now c.args.text.now)
    (λ found is. omega (arith, is.short, c.if-text-gt-LONGEST.true)) (λ any is. omega (arith, is.short, c.if-text-gt-LONGEST.true))

pub returns-in-Is : goal.returns-in-Is
returns-in-Is c =
    let o = c.args.assumptions.now.offset in
    let f = c.args.format.now in
    let t = c.args.text.now in
    let e : to_z w32 (of_z w32 c.in-Is.year) ≡ c.in-Is.year = omega (arith, ints) in
    yearless_by c.args.assumptions.now f t (Is c.in-Is.year) c.read_in_year.result c.in-Is.is (omega (arith, c.if-text-gt-LONGEST.false))
    (subst (λ y. IsReadBy (IsTextInYears o f t y y) (IsErrorInYear f t y) c.read_in_year.result) e c.read_in_year.ensures.0)

pub returns-in-Near : goal.returns-in-Near
returns-in-Near c =
    yearless_by c.args.assumptions.now c.args.format.now c.args.text.now (Near c.in-Near.day) c.read_near.result c.in-Near.is (omega (arith, c.if-text-gt-LONGEST.false)) c.read_near.ensures
