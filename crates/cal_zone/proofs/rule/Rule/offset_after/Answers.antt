use Rattle.std.proofs.Common.{◌∙◌, refl, sym, ap, arith, w64}
use Rattle.std.proofs.lemmas.Int.{to_z-of_z}
use Rattle.cal_zone.specs.declared.local_type.LocalType.{LocalType}
use Rattle.cal_zone.proofs.Counts.{by_rule}
use Rattle.cal_zone.proofs.Joins.{offset_is}
use Rattle.cal_zone.proofs.rule.Rule.offset_after.Goals as goal

pub returns-then-skip-count-clause-some : goal.returns-then-skip-count-clause-some
returns-then-skip-count-clause-some c = λ zone xs order is.
    sym (by_rule zone c.args.self.now.one c.args.self.now.other xs c.args.skip c.count-count.result c.args.instant _ _ order is
    (to_z-of_z w64 c.args.instant c.ranges.instant) (omega arith) c.count-count.ensures.split
    (offset_is _ _ refl c.kind.ensures.offset ∙ ap (λ (t : LocalType). t.offset) c.kind.ensures.value))
