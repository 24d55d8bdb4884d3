use Rattle.std.proofs.Common.{sym, subst}
use Rattle.std.specs.Prelude.{◌↔◌, IfErr}
use Rattle.cal_text.specs.Position.{IsErrorAtStop}
use Rattle.cal_text.specs.Parsing.{FailsWithComponent, FailsWithSyntax}
use Rattle.caldate_answers.specs.Readings.{HasFormIn, IsErrorIn, IsTextIn}
use Rattle.caldate_answers.proofs.reading.read_in.Goals as goal

pub returns-in-Any-clause-form : goal.returns-in-Any-clause-form
returns-in-Any-clause-form c =
    subst (λ r. FailsWithSyntax c.parse_any.result ↔ ¬ HasFormIn r c.args.text.now) (sym c.in-Any.is) c.parse_any.ensures.syntax_error

pub returns-in-Any-clause-position : goal.returns-in-Any-clause-position
returns-in-Any-clause-position c =
    subst (λ r. IfErr c.parse_any.result (IsErrorAtStop (HasFormIn r) c.args.text.now)) (sym c.in-Any.is) c.parse_any.ensures.position

pub returns-in-Any-clause-component : goal.returns-in-Any-clause-component
returns-in-Any-clause-component c why =
    subst (λ r. FailsWithComponent why c.parse_any.result ↔ IsErrorIn r c.args.text.now why) (sym c.in-Any.is) (c.parse_any.ensures.out_of_range why)

pub returns-in-Unix-clause-every : goal.returns-in-Unix-clause-every
returns-in-Unix-clause-every c found is =
    c.read_number.ensures.every found (subst (λ r. IsTextIn r c.args.text.now found) c.in-Unix.is is)

pub returns-in-Unix-clause-component : goal.returns-in-Unix-clause-component
returns-in-Unix-clause-component c why =
    subst (λ r. FailsWithComponent why c.read_number.result ↔ IsErrorIn r c.args.text.now why) (sym c.in-Unix.is) (c.read_number.ensures.component why)

pub returns-in-Date-clause-every : goal.returns-in-Date-clause-every
returns-in-Date-clause-every c found is =
    c.read_date.ensures.every found (subst (λ r. IsTextIn r c.args.text.now found) c.in-Date.is is)

pub returns-in-Local-clause-every : goal.returns-in-Local-clause-every
returns-in-Local-clause-every c found is =
    c.read_local.ensures.every found (subst (λ r. IsTextIn r c.args.text.now found) c.in-Local.is is)

pub returns-in-IsoLocal-clause-every : goal.returns-in-IsoLocal-clause-every
returns-in-IsoLocal-clause-every c found is =
    c.read_iso_local.ensures.every found (subst (λ r. IsTextIn r c.args.text.now found) c.in-IsoLocal.is is)

pub returns-in-IsoDate-clause-every : goal.returns-in-IsoDate-clause-every
returns-in-IsoDate-clause-every c found is =
    c.read_iso_date.ensures.every found (subst (λ r. IsTextIn r c.args.text.now found) c.in-IsoDate.is is)

pub returns-in-IsoMoment-clause-every : goal.returns-in-IsoMoment-clause-every
returns-in-IsoMoment-clause-every c found is =
    c.read_iso_moment.ensures.every found (subst (λ r. IsTextIn r c.args.text.now found) c.in-IsoMoment.is is)
