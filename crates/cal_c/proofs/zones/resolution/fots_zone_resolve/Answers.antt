use Rattle.std.proofs.Common.{◌∙◌, refl, sym, ap, subst, rules, ℕ, FitsSigned, w64}
use Rattle.std.proofs.Math.Facts.{to_z-of_z}
use Rattle.std.specs.Prelude.{ℤ}
use Rattle.cal_time.specs.Date.{IsDate}
use Rattle.cal_datetime.specs.DateTime.{date_time}
use Rattle.cal_datetime.specs.OffsetDateTime.{unix_seconds}
use Rattle.cal_zone.specs.declared.instants.Instants.TheVariants as instants
use Rattle.cal_c.specs.Values.{day_of}
use Rattle.cal_c.specs.Zones.{zone_in, IsResolved}
use Rattle.cal_c.proofs.Days.{IsDate-day_of}
use Rattle.cal_c.proofs.Needs.{met}
use Rattle.cal_c.proofs.ZoneResults.{for_zone, resolved}
use Rattle.cal_c.proofs.zones.resolution.fots_zone_resolve.Goals as goal

pub returns-in-None-day_number : goal.returns-in-None-day_number
returns-in-None-day_number c =
    let g = c.ranges.date in
    let none = simp to_z-of_z at c.in-None-day_number.ensures in
    for_zone _ _ _ _ c.in-Some.ensures (λ order. record { error = λ out. c.error-in-None-day_number.ensures; value = λ is. absurd (none is) })

pub returns-in-None-time_number : goal.returns-in-None-time_number
returns-in-None-time_number c =
    let g = c.ranges.date in
    let date = simp to_z-of_z at c.in-Some-day_number.ensures in
    for_zone _ _ _ _ c.in-Some.ensures
    (λ order. met date.0 (record { error = λ out. c.error-in-None-time_number.ensures; value = λ is. absurd (c.in-None-time_number.ensures is) }))

pub reading_seconds-reading-requires-clause-day : goal.reading_seconds-reading-requires-clause-day
reading_seconds-reading-requires-clause-day c =
    let g = c.ranges.date in
    let date = simp to_z-of_z at c.in-Some-day_number.ensures in
    subst IsDate (sym date.1) (IsDate-day_of c.args.date date.0)

pub returns-in-Some-single_in_table : goal.returns-in-Some-single_in_table
returns-in-Some-single_in_table c =
    let g = c.ranges.date in
    let date = simp to_z-of_z at c.in-Some-day_number.ensures in
    let time = c.in-Some-time_number.ensures in
    let reading : FitsSigned w64 c.reading_seconds-reading.result = search rules in
    let instant : FitsSigned w64 c.in-Some-single_in_table.instant = search rules in
    let is = c.reading_seconds-reading.ensures.value ∙ ap (λ (n : ℕ). unix_seconds (date_time n c.in-Some-time_number.value)) date.1 ∙ ap (λ (n : ℕ). unix_seconds (date_time (day_of c.args.date) n)) time.1 in
    let set = simp to_z-of_z at c.in-Some-single_in_table.ensures.some in
    let found = simp to_z-of_z at c.moments.ensures in
    for_zone _ _ _ _ c.in-Some.ensures
    (λ order. met date.0 (met time.0 (resolved _ order _ c.reading_seconds-reading.result (instants.Single c.in-Some-single_in_table.instant) _ is (set order) tt
    (λ offsets. found (offsets c.in-Some-single_in_table.instant refl) (offsets c.in-Some-single_in_table.instant refl)))))

pub returns-in-None-single_in_table : goal.returns-in-None-single_in_table
returns-in-None-single_in_table c =
    let g = c.ranges.date in
    let date = simp to_z-of_z at c.in-Some-day_number.ensures in
    let time = c.in-Some-time_number.ensures in
    let reading : FitsSigned w64 c.reading_seconds-reading.result = search rules in
    let is = c.reading_seconds-reading.ensures.value ∙ ap (λ (n : ℕ). unix_seconds (date_time n c.in-Some-time_number.value)) date.1 ∙ ap (λ (n : ℕ). unix_seconds (date_time (day_of c.args.date) n)) time.1 in
    let z = zone_in c.args.zone.now in
    let found = simp to_z-of_z at c.resolve_by_rule.ensures in
    for_zone c.args.zone.now z _ _ (refl, c.in-Some.ensures.1)
    (λ order. met date.0 (met time.0 (subst (λ (s : ℤ). IsResolved z s c.resolve_by_rule.result) is (found order))))

pub resolve_by_rule-requires-clause-zone : goal.resolve_by_rule-requires-clause-zone
resolve_by_rule-requires-clause-zone c = c.in-Some.ensures.1
