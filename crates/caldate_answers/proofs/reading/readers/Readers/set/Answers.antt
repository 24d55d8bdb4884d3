use Rattle.std.proofs.Common.{◌∙◌, ap, take}
use Rattle.std.specs.Prelude.{set}
use Rattle.std.proofs.Math.Seq.{take-set-lt}
use Rattle.caldate_answers.proofs.reading.readers.Readers.set.Goals as goal

pub returns-then-index-self : goal.returns-then-index-self
returns-then-index-self c =
    ap (take c.self.inside.count) c.put.ensures.value
    ∙ take-set-lt c.self.inside.count c.self.inside.items c.args.index c.args.reader c.if-index-self.true
    ∙ ap (λ l. set l c.args.index c.args.reader) c.self.view_is
