use Rattle.std.proofs.Common.{arith}
use Rattle.std.proofs.lemmas.List.{length-map}
use Rattle.cal_names.specs.Apart.{texts}
use Rattle.cal_named_format.specs.Ambiguity.{Ambiguous}
use Rattle.cal_named_format.proofs.Ambiguities.{none-further, none-of}
use Rattle.cal_named_format.proofs.reading.first_pair.Goals as goal

pub loop-index-preserved : goal.loop-index-preserved
loop-index-preserved c = λ i j below h.
    none-further (λ m. Ambiguous (texts c.args.table.now) c.args.names.now c.args.items.now m j) c.loop-index.index (λ m less. c.loop-index.invariant m j less)
    (none-of c.first_other.result _ c.in_default.not-Some c.first_other.ensures.none j) i below h

pub returns-clause-none : goal.returns-clause-none
returns-clause-none c = λ i j h. c.loop-index.invariant i j (omega (arith, h.within, length-map c.args.table.now (λ name. name.now), c.loop-index-test.false)) h
