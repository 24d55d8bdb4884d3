use Rattle.std.proofs.Common.{◌≡◌, rules, if◌then◌else◌, pos}
use Rattle.cal_c.specs.Results.{number_ok}
use Rattle.cal_c.proofs.Needs.{met}
use Rattle.cal_c.proofs.DateRanges.{yes_no}
use Rattle.cal_c.proofs.schedule.date_ranges.fots_date_range_overlaps.Goals as goal

pub returns : goal.returns
returns c =
    let range = c.in-Some.ensures in
    let number : c.ok.result ≡ number_ok (if c.overlaps.result then pos 1 else pos 0) = search rules in
    let other = c.in-Some-valid_range.ensures in
    met range.0 (met other.0 (yes_no c.overlaps.result c.ok.result (rw (range.1, other.1) at c.overlaps.ensures) number))
