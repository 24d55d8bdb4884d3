use Rattle.cal_c.proofs.Needs.{met, unmet}
use Rattle.cal_c.proofs.schedule.date_ranges.fots_date_range_intersection.Goals as goal

pub returns-in-None-valid_range : goal.returns-in-None-valid_range
returns-in-None-valid_range c =
    met c.in-Some.ensures.0 (unmet c.in-None-valid_range.ensures c.error-in-None-valid_range.ensures)

pub returns-in-None-intersection : goal.returns-in-None-intersection
returns-in-None-intersection c =
    let range = c.in-Some.ensures in
    let other = c.in-Some-valid_range.ensures in
    met range.0 (met other.0 (unmet (rw (range.1, other.1) at c.in-None-intersection.ensures) c.error-in-None-intersection.ensures))

pub returns : goal.returns
returns c =
    let range = c.in-Some.ensures in
    let other = c.in-Some-valid_range.ensures in
    let common = c.in-Some-intersection.ensures in
    met range.0 (met other.0 (met (rw (range.1, other.1) at common.0) (rw (common.1, range.1, other.1) at c.ok.ensures)))
