use Rattle.std.proofs.Common.{◌≡◌, rules, arith, FitsSigned, w32}
use Rattle.std.proofs.lemmas.Int.{to_z-of_z}
use Rattle.cal_c.proofs.columns.components.iso_week_date_of_calendar_date.Goals as goal

pub returns-then-status : goal.returns-then-status
returns-then-status c =
    let f = c.ranges.year in
    let out : FitsSigned w32 c.to_iso_week_date-iso_year.result.0 = search rules in
    let has = simp to_z-of_z at c.from_calendar_date.ensures.value in
    let is = simp to_z-of_z at c.from_calendar_date.ensures.range in
    let year = c.to_iso_week_date-iso_year.ensures.year in
    let week = c.to_iso_week_date-iso_year.ensures.week in
    let weekday = c.to_iso_week_date-iso_year.ensures.weekday in
    record {
      no_month = search rules;
      no_year = search rules;
      no_day = search rules;
      value = λ m y d. let h = is y m d in
          let same : c.min-number.result ≡ c.from_calendar_date.result = omega arith in
          (c.from_calendar_date.result, h, has y m d, simp to_z-of_z (cc (same, year, week, weekday)));
    }

pub returns-else-status : goal.returns-else-status
returns-else-status c = record {
  no_month = search rules;
  no_year = search rules;
  no_day = search rules;
  value = search rules;
}
