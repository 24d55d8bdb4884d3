use Rattle.std.proofs.Common.{subst, sym}
use Rattle.std.specs.Prelude.{IfErr, IfOk}
use Rattle.caldate_answers.specs.Readers.{IsTextBy, IsUnreadBy}
use Rattle.caldate_answers.proofs.reading.reader.Reader.read.Goals as goal

pub returns-in-Local-clause-every : goal.returns-in-Local-clause-every
returns-in-Local-clause-every c = λ found h.
    c.read_named-in-Local.ensures.every found (subst (λ r. IsTextBy c.args.assumptions.now r c.args.text.now found) c.in-Local.is h)

pub returns-in-Spelled-clause-every_error : goal.returns-in-Spelled-clause-every_error
returns-in-Spelled-clause-every_error c = λ any none h.
    c.read.ensures.every_error any (λ found is. none found (subst (λ r. IsTextBy c.args.assumptions.now r c.args.text.now found) (sym c.in-Spelled.is) is))
    (subst (λ r. IsUnreadBy c.args.assumptions.now r c.args.text.now any) c.in-Spelled.is h)

pub returns-in-Format-clause-every : goal.returns-in-Format-clause-every
returns-in-Format-clause-every c = λ found h.
    c.read-in-Format.ensures.0.every found (subst (λ r. IsTextBy c.args.assumptions.now r c.args.text.now found) c.in-Format.is h)

pub returns-in-Format-clause-has : goal.returns-in-Format-clause-has
returns-in-Format-clause-has c =
    subst (λ r. IfOk c.read-in-Format.result (IsTextBy c.args.assumptions.now r c.args.text.now)) (sym c.in-Format.is) c.read-in-Format.ensures.0.value

pub returns-in-Format-clause-every_error : goal.returns-in-Format-clause-every_error
returns-in-Format-clause-every_error c = λ any none h.
    c.read-in-Format.ensures.0.every_error any (λ found is. none found (subst (λ r. IsTextBy c.args.assumptions.now r c.args.text.now found) (sym c.in-Format.is) is))
    (subst (λ r. IsUnreadBy c.args.assumptions.now r c.args.text.now any) c.in-Format.is h)

pub returns-in-Format-clause-error : goal.returns-in-Format-clause-error
returns-in-Format-clause-error c =
    subst (λ r. IfErr c.read-in-Format.result (IsUnreadBy c.args.assumptions.now r c.args.text.now)) (sym c.in-Format.is) c.read-in-Format.ensures.0.error

pub returns-in-Yearless-clause-every : goal.returns-in-Yearless-clause-every
returns-in-Yearless-clause-every c = λ found h.
    c.read_yearless.ensures.every found (subst (λ r. IsTextBy c.args.assumptions.now r c.args.text.now found) c.in-Yearless.is h)

pub returns-in-Yearless-clause-has : goal.returns-in-Yearless-clause-has
returns-in-Yearless-clause-has c =
    subst (λ r. IfOk c.read_yearless.result (IsTextBy c.args.assumptions.now r c.args.text.now)) (sym c.in-Yearless.is) c.read_yearless.ensures.value

pub returns-in-Yearless-clause-every_error : goal.returns-in-Yearless-clause-every_error
returns-in-Yearless-clause-every_error c = λ any none h.
    c.read_yearless.ensures.every_error any (λ found is. none found (subst (λ r. IsTextBy c.args.assumptions.now r c.args.text.now found) (sym c.in-Yearless.is) is))
    (subst (λ r. IsUnreadBy c.args.assumptions.now r c.args.text.now any) c.in-Yearless.is h)

pub returns-in-Yearless-clause-error : goal.returns-in-Yearless-clause-error
returns-in-Yearless-clause-error c =
    subst (λ r. IfErr c.read_yearless.result (IsUnreadBy c.args.assumptions.now r c.args.text.now)) (sym c.in-Yearless.is) c.read_yearless.ensures.error
