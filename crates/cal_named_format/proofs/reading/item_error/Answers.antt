use Rattle.std.proofs.Common.{sym, subst}
use Rattle.cal_named_format.specs.Ambiguity.{EndsBefore}
use Rattle.cal_named_format.proofs.Ambiguities.{number-ends, number-error}
use Rattle.cal_named_format.proofs.Ended.{NoneAmbiguous}
use Rattle.cal_named_format.proofs.reading.item_error.Goals as goal

pub returns-in-None-clause-none : goal.returns-in-None-clause-none
returns-in-None-clause-none c =
    let names = c.args.names.now in
    let others = c.args.others.now in
    subst (λ i. EndsBefore names i others) (sym c.in-Name.is) (subst (λ l. NoneAmbiguous l names others) c.table_of.ensures.table c.in-None.ensures.none)

pub returns-in-Some-first_byte : goal.returns-in-Some-first_byte
returns-in-Some-first_byte c = record { none = tt; error = number-error c.args.names.now c.args.item c.args.others.now c.args.at c.in-Some-first_byte.byte c.in_default.not-Name c.in-Some-first_byte.ensures.first }

pub returns-in-None-first_byte : goal.returns-in-None-first_byte
returns-in-None-first_byte c = record { none = number-ends c.args.names.now c.args.item c.args.others.now c.in_default.not-Name c.in-None-first_byte.ensures.none; error = tt }
