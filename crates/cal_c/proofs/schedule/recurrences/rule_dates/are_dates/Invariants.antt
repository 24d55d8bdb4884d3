use Rattle.std.proofs.Common.{All, take}
use Rattle.cal_c.specs.Values.{IsJulianDay}
use Rattle.cal_c.proofs.schedule.recurrences.rule_dates.are_dates.Given as goal

abbrev pub invariant-loop-index : goal.invariant-loop-index
invariant-loop-index l = record { dates : All IsJulianDay (take l.index l.julian_days) }
