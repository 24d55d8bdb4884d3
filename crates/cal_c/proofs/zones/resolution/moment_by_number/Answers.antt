use Rattle.std.proofs.Math.Facts.{to_z-of_z}
use Rattle.cal_c.proofs.Needs.{met}
use Rattle.cal_c.proofs.zones.resolution.moment_by_number.Goals as goal

pub returns : goal.returns
returns c = λ order.
    let g = c.ranges.date in
    let date = simp to_z-of_z at c.in-Some.ensures in
    let time = c.in-Some-valid_time.ensures in
    let policy = c.in-Some-valid_policy.ensures in
    let found = c.moment_by_policy.ensures order in
    met date.0 (met time.0 (met policy.0 (c.in-Some-valid_policy.value, policy.1, rw (c.new.ensures.value, date.1, time.1) at found)))
