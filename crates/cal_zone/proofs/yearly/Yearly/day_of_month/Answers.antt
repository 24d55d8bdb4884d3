use Rattle.std.proofs.Common.{◌≡◌}
use Rattle.std.proofs.lemmas.Int.{to_z-of_z}
use Rattle.cal_time.specs.Month.{number}
use Rattle.cal_zone.proofs.RuleDays.{is_month}
use Rattle.cal_zone.proofs.yearly.Yearly.day_of_month.Goals as goal

pub returns : goal.returns
returns c =
    let g = c.ranges.year in
    let month : c.from.result ≡ number c.args.self.now.month = c.from.ensures in
    let value = simp to_z-of_z at c.from_calendar_date.ensures.value in
    let range = simp to_z-of_z at c.from_calendar_date.ensures.range in
    record {
      value = (rw month at value) c.requires.year (is_month c.args.self.now) c.requires.day;
      range = (rw month at range) c.requires.year (is_month c.args.self.now) c.requires.day;
    }
