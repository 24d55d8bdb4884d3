use Rattle.cal_c.proofs.Needs.{met, unmet}
use Rattle.cal_c.proofs.DateRanges.{share_is}
use Rattle.cal_c.proofs.schedule.date_ranges.fots_date_range_share.Goals as goal

pub returns-in-None-valid_range : goal.returns-in-None-valid_range
returns-in-None-valid_range c =
    met c.in-Some.ensures.0 (unmet c.in-None-valid_range.ensures c.error-in-None-valid_range.ensures)

pub returns : goal.returns
returns c =
    let range = c.in-Some.ensures in
    let other = c.in-Some-valid_range.ensures in
    let its = c.share-common.ensures in
    met range.0 (met other.0 (share_is (rw (range.1, other.1) at its.common) (rw range.1 at its.whole)))
