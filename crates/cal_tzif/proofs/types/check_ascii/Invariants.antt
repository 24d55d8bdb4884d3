use Rattle.cal_tzif.specs.Types.{AreAscii}
use Rattle.cal_tzif.proofs.types.check_ascii.Given as goal

abbrev pub invariant-each : goal.invariant-each
invariant-each l = AreAscii l.bytes l.start l.index
