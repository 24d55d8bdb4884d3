use Rattle.std.proofs.Common.{refl, arith}
use Rattle.std.proofs.lemmas.Int.{ints}
use Rattle.cal_date.proofs.MarchDays.{calendar_date_is}
use Rattle.cal_date.proofs.day_number.to_calendar_date.Goals as goal

pub returns-clause-value : goal.returns-clause-value
returns-clause-value c = (calendar_date_is c.args.number _ _ _ _ _ c.from-is_late.result _ c.requires refl refl refl refl refl c.from-is_late.ensures (λ years most. omega (arith, ints, years, most))).0
