use Rattle.std.proofs.Common.{rules}
use Rattle.cal_time.proofs.RoundTrips.{julian_day-some}
use Rattle.cal_time_tests.proofs.tests.laws.dates.julian_day.Goals as goal

pub returns-in_err-from_julian_day : goal.returns-in_err-from_julian_day
returns-in_err-from_julian_day c =
    let had = julian_day-some c.args.julian_day c.requires in
    search rules
