use Rattle.std.proofs.Math.Facts.{to_z-of_z}
use Rattle.cal_zoned.specs.Unchecked.{result_in}
use Rattle.cal_c.proofs.Needs.{met}
use Rattle.cal_c.proofs.zones.zoned.from_local.Goals as goal

pub returns : goal.returns
returns c = λ order.
    let z = c.args.zone.now in
    let g = c.ranges.date in
    let date = simp to_z-of_z at c.in-Some.ensures in
    let time = c.in-Some-valid_time.ensures in
    let policy = c.in-Some-valid_policy.ensures in
    let found = c.resolved.ensures order in
    met date.0 (met time.0 (met policy.0 (c.in-Some-valid_policy.value, policy.1, (result_in z c.resolved.result, rw (c.new.ensures.value, date.1, time.1) at found, c.zoned_result.ensures z))))
