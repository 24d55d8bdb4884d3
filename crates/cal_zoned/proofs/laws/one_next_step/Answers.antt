use Rattle.cal_zoned.specs.Steps.{series}
use Rattle.cal_zoned.proofs.NextItems.{one_step, same_some}
use Rattle.cal_zoned.proofs.laws.one_next_step.Goals as goal

pub returns-then-next-lt-END : goal.returns-then-next-lt-END
returns-then-next-lt-END c = λ a b s t h k.
    one_step (series c.args.start c.args.period c.args.next) (λ less x y i j p q. same_some _ x y (c.step.ensures.every x i p) (c.step.ensures.every y j q)) a b s t h k
