use Rattle.cal_c.specs.Zones.{zone_in}
use Rattle.cal_c.proofs.OneZoned.{later_seconds-one, length-of_date-one, start-of_date-one, start_seconds-one}
use Rattle.cal_c.proofs.zones.laws.one_day_result.Goals as goal

pub returns : goal.returns
returns c =
    let z = zone_in c.args.zone.now in
    let order = c.requires.order in
    record { start = start-of_date-one z; length = length-of_date-one z; later = later_seconds-one z order; start_seconds = start_seconds-one z }
