use Rattle.std.proofs.Common.{rules, FitsSigned, w32}
use Rattle.std.proofs.Math.Facts.{to_z-of_z}
use Rattle.cal_c.proofs.HeldDays.{IsLaterSeconds-held}
use Rattle.cal_c.proofs.ZoneResults.{match_by}
use Rattle.cal_c.proofs.columns.zoned.row_of_days.Goals as goal

pub returns : goal.returns
returns c =
    let g = c.ranges.seconds in
    let f = c.ranges.days in
    let fits : FitsSigned w32 c.clamped_days.result = search rules in
    let days = simp to_z-of_z at c.clamped_days.ensures in
    let period = simp to_z-of_z at c.from_days.ensures in
    let found = rw (period, days) at (simp to_z-of_z at c.row_after.ensures) in
    match_by _ _ c.args.resolver.now.zone _ (λ z held order. match_by _ _ c.args.resolver.now.policy _ (λ p row. IsLaterSeconds-held z c.args.seconds c.args.days p _ row) (held order)) found
