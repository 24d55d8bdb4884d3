use Rattle.std.proofs.Common.{ap, arith}
use Rattle.std.proofs.lemmas.Int.{ints}
use Rattle.cal_zone.specs.declared.change.Change.{Change}
use Rattle.cal_zone.proofs.Offsets.{after_changes-count}
use Rattle.cal_zone.proofs.unchecked_zone.UncheckedZone.after.Goals as goal

pub returns-else-count-eq0 : goal.returns-else-count-eq0
returns-else-count-eq0 c =
    omega (
      arith,
      ints,
      ap (λ (r : Change). r.kind.offset) c.change.ensures,
      after_changes-count c.args.self.now.first.offset c.args.self.now.changes c.args.count (omega arith) c.requires,
    )
