use Rattle.std.proofs.Common.{get_or, pos, arith, rules, FitsSigned, w64, to_z, of_z}
use Rattle.std.proofs.lemmas.Int.{to_z-of_z}
use Rattle.cal_schedule.specs.Period.{parts}
use Rattle.cal_c.specs.ZoneColumns.{int64_row}
use Rattle.cal_c.specs.Zoned.{IsSecondsAfter}
use Rattle.cal_c.proofs.Rows.{rows_two}
use Rattle.cal_c.proofs.ZonedResults.{later_row}
use Rattle.cal_c.proofs.columns.zoned.fots_zoned_add_days.Goals as goal

pub loop-row-preserved : goal.loop-row-preserved
loop-row-preserved c =
    let f-seconds : FitsSigned w64 (get_or c.args.seconds.now c.loop-row.row (pos 0)) = search rules in
    let f-days : FitsSigned w64 (get_or c.args.days.now c.loop-row.row (pos 0)) = search rules in
    let fits : FitsSigned w64 c.row_of_days.result.0 = search rules in
    let found = simp to_z-of_z at c.row_of_days.ensures in
    let here = later_row c.args.zone.now c.unchecked.result c.valid_policy.result c.args.policy (get_or c.args.seconds.now c.loop-row.row (pos 0))
    (parts (pos 0) (pos 0) (pos 0) (get_or c.args.days.now c.loop-row.row (pos 0)) (pos 0)) (int64_row c.row_of_days.result.0 c.row_of_days.result.1) c.unchecked.ensures c.valid_policy.ensures found in
    rows_two
    (λ k second status. IsSecondsAfter c.args.zone.now (get_or c.args.seconds.now k (pos 0)) (parts (pos 0) (pos 0) (pos 0) (get_or c.args.days.now k (pos 0)) (pos 0)) c.args.policy (int64_row second status))
    c.loop-row.moved c.loop-row.statuses c.loop-row.row (to_z w64 (of_z w64 c.row_of_days.result.0)) (pos 0) c.row_of_days.result.1 0 (omega arith) (omega arith) c.loop-row.invariant (simp to_z-of_z here)
