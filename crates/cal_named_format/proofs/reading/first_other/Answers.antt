use Rattle.std.proofs.Common.{arith}
use Rattle.std.proofs.lemmas.Bool.{false≢true}
use Rattle.std.proofs.lemmas.List.{length-map}
use Rattle.cal_names.specs.Apart.{texts}
use Rattle.cal_named_format.specs.Ambiguity.{Ambiguous}
use Rattle.cal_named_format.proofs.Ambiguities.{none-further}
use Rattle.cal_named_format.proofs.reading.first_other.Goals as goal

pub loop-other-preserved : goal.loop-other-preserved
loop-other-preserved c =
    none-further (Ambiguous (texts c.args.table.now) c.args.names.now c.args.items.now c.args.index) c.loop-other.other c.loop-other.invariant (λ h. false≢true (c.if-is_pair.ensures.1 h))

pub returns-clause-none : goal.returns-clause-none
returns-clause-none c = λ j h. c.loop-other.invariant j (omega (arith, h.other_within, length-map c.args.table.now (λ name. name.now), c.loop-other-test.false)) h
