use Rattle.std.proofs.Common.{refl, sym, subst}
use Rattle.cal_zone.specs.declared.local_type.LocalType.{LocalType}
use Rattle.cal_zone.specs.Timeline.{InOrder, IsOffset}
use Rattle.cal_zone.proofs.Joins.{offset_shown}
use Rattle.cal_zone.proofs.Readings.{none_in, offset_in}
use Rattle.cal_zone.proofs.unchecked_zone.UncheckedZone.utc_offset_at.Goals as goal

pub returns-clause-none : goal.returns-clause-none
returns-clause-none c =
    none_in _ _ (InOrder c.args.self.now) _ c.utc_offset.ensures
    (λ order. offset_shown _ _ refl (subst (λ (k : LocalType). IsOffset k.offset) (sym (c.kind_at.ensures order)) (offset_in c.args.self.now order _)))
