use Rattle.std.proofs.Common.{◌≡◌, rules, if◌then◌else◌, pos}
use Rattle.std.proofs.lemmas.Int.{to_z-of_z}
use Rattle.cal_c.specs.Results.{number_ok}
use Rattle.cal_c.proofs.Needs.{met, unmet}
use Rattle.cal_c.proofs.DateRanges.{yes_no}
use Rattle.cal_c.proofs.schedule.date_ranges.fots_date_range_contains.Goals as goal

pub returns-in-None-valid_date : goal.returns-in-None-valid_date
returns-in-None-valid_date c =
    let f = c.ranges.date in
    met c.in-Some.ensures.0 (unmet (simp to_z-of_z at c.in-None-valid_date.ensures) c.error-in-None-valid_date.ensures)

pub returns : goal.returns
returns c =
    let f = c.ranges.date in
    let range = c.in-Some.ensures in
    let number : c.ok.result ≡ number_ok (if c.contains.result then pos 1 else pos 0) = search rules in
    let date = simp to_z-of_z at c.in-Some-valid_date.ensures in
    met range.0 (met date.0 (yes_no c.contains.result c.ok.result (rw (range.1, date.1) at c.contains.ensures) number))
