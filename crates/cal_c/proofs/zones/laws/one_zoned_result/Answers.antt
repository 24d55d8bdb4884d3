use Rattle.cal_c.specs.Zones.{zone_in}
use Rattle.cal_c.proofs.OneZoned.{at-one, earlier-one, end_of-one, from_local-one, later-one, moved_to_date-one, nth_later-one, period_later-one, start_of-one_moment, until-one, with_local-one}
use Rattle.cal_c.proofs.OneRounded.{zoned_rounded-one}
use Rattle.cal_c.proofs.zones.laws.one_zoned_result.Goals as goal

pub returns : goal.returns
returns c =
    let z = zone_in c.args.zone.now in
    let order = c.requires.order in
    record {
      at = at-one z;
      from_local = from_local-one z order;
      with_local = with_local-one z order;
      moved_to = moved_to_date-one z order;
      duration_later = later-one z;
      duration_earlier = earlier-one z;
      period_later = period_later-one z order;
      nth_period = nth_later-one z order;
      period_until = until-one z order;
      start_of = start_of-one_moment z;
      end_of = end_of-one z;
      rounded = zoned_rounded-one z order;
    }
