use Rattle.cal_tzif.specs.Types.{AreTypes}
use Rattle.cal_tzif.proofs.types.check_types.Given as goal

abbrev pub invariant-each : goal.invariant-each
invariant-each l = AreTypes l.bytes l.layout l.index
