use Rattle.std.proofs.Common.{arith}
use Rattle.std.proofs.lemmas.List.{length-map}
use Rattle.cal_names.specs.Apart.{texts}
use Rattle.cal_names.proofs.Fronts.{printed, ends}
use Rattle.cal_names.proofs.table.find.Goals as goal

pub returns-clause-printed : goal.returns-clause-printed
returns-clause-printed c n name rest h is =
    printed (texts c.args.names.now) c.args.text.now c.loop-index.index n name rest c.loop-index.found
    (omega (arith, length-map c.args.names.now (λ name. name.now), c.loop-index-test.false)) c.loop-index.invariant.found h is

pub returns-clause-apart : goal.returns-clause-apart
returns-clause-apart c apart n name rest at is = returns-clause-printed c n name rest (ends (texts c.args.names.now) n name rest apart at) is
