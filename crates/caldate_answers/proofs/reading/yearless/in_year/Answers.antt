use Rattle.std.proofs.Common.{◌≡◌, arith, of_z, subst, sym, to_z, Err, Ok}
use Rattle.std.proofs.lemmas.Int.{ints}
use mir.Syntax.{w32}
use Rattle.caldate_answers.specs.Readers.{IsReadInYear}
use Rattle.caldate_answers.proofs.InYear.{not_ok, same_ok}
use Rattle.caldate_answers.proofs.reading.yearless.in_year.Goals as goal

pub returns-in-Ok : goal.returns-in-Ok
returns-in-Ok c =
    let e : to_z w32 (of_z w32 c.args.year) ≡ c.args.year = omega (arith, ints) in
    let is = (subst (λ y. IsReadInYear c.args.offset c.args.format.now c.args.text.now y (Ok c.in-Ok.found)) e c.in-Ok.ensures).0 in
    (is.value, λ other has. sym (same_ok c.in-Ok.found other (is.every other has)))

pub returns-in-Err : goal.returns-in-Err
returns-in-Err c = λ found has.
    let e : to_z w32 (of_z w32 c.args.year) ≡ c.args.year = omega (arith, ints) in
    let is = (subst (λ y. IsReadInYear c.args.offset c.args.format.now c.args.text.now y (Err c.in-Err.field-0)) e c.in-Err.ensures).0 in
    not_ok c.in-Err.field-0 found (is.every found has)
