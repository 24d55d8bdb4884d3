use Rattle.cal_zoned.proofs.OneResult.{resolved-one}
use Rattle.cal_zoned.proofs.laws.one_resolved.Goals as goal

pub returns : goal.returns
returns c = λ p reading a b h k. resolved-one p c.args.zone.now reading a b c.one_local.ensures h k
