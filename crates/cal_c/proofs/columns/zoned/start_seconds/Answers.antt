use Rattle.std.proofs.Math.Facts.{to_z-of_z}
use Rattle.std.proofs.Common.{FitsSigned, w64, rules, refl, ap, subst, ◌∙◌}
use Rattle.std.specs.Prelude.{Some, None, ℕ}
use Rattle.cal_datetime.specs.DateTime.{date_at, date_time}
use Rattle.cal_datetime.specs.OffsetDateTime.{LocalAndOffset}
use Rattle.cal_zoned.specs.Day.{IsStart}
use Rattle.cal_zoned.specs.Unchecked.{in_zone}
use Rattle.cal_c.specs.Results.{int64_ok}
use Rattle.cal_c.proofs.Needs.{met, unmet}
use Rattle.cal_c.proofs.columns.zoned.start_seconds.Goals as goal

pub returns-in-None : goal.returns-in-None
returns-in-None c = λ order.
    let g = c.ranges.seconds in
    let none = simp to_z-of_z at c.in-None.ensures in
    unmet (none order) refl

pub returns-in-None-day_start : goal.returns-in-None-day_start
returns-in-None-day_start c = λ order.
    let g = c.ranges.seconds in
    let found = (simp to_z-of_z at c.in-Some.ensures) order in
    let day = c.date.ensures.value ∙ ap (λ (m : LocalAndOffset). date_at m.local) found.1 in
    met found.0 (None, subst (λ (n : ℕ). IsStart c.args.zone.now (date_time n 0) None) day (c.in-None-day_start.ensures order), refl)

pub returns : goal.returns
returns c = λ order.
    let g = c.ranges.seconds in
    let found = (simp to_z-of_z at c.in-Some.ensures) order in
    let day = c.date.ensures.value ∙ ap (λ (m : LocalAndOffset). date_at m.local) found.1 in
    let fits : FitsSigned w64 c.unix_timestamp.result = search rules in
    let start = in_zone c.args.zone.now c.in-Some-day_start.value in
    met found.0 (Some start, subst (λ (n : ℕ). IsStart c.args.zone.now (date_time n 0) (Some start)) day (c.in-Some-day_start.ensures order), ap int64_ok (to_z-of_z fits ∙ c.unix_timestamp.ensures.value))
