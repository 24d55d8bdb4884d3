use Rattle.std.proofs.Common.{get_or, pos, arith, rules, FitsSigned, w64, to_z, of_z}
use Rattle.std.proofs.lemmas.Int.{to_z-of_z}
use Rattle.cal_c.specs.ZoneColumns.{int64_row}
use Rattle.cal_c.specs.Zoned.{IsSecondsOfStart}
use Rattle.cal_c.proofs.Rows.{rows_two}
use Rattle.cal_c.proofs.ZoneResults.{for_some}
use Rattle.cal_c.proofs.columns.zoned.fots_zoned_starts_of_day.Goals as goal

pub loop-row-preserved : goal.loop-row-preserved
loop-row-preserved c =
    let f : FitsSigned w64 (get_or c.args.seconds.now c.loop-row.row (pos 0)) = search rules in
    let fits : FitsSigned w64 c.row_of_start.result.0 = search rules in
    let found = simp to_z-of_z at c.row_of_start.ensures in
    let here : IsSecondsOfStart c.args.zone.now (get_or c.args.seconds.now c.loop-row.row (pos 0)) (int64_row c.row_of_start.result.0 c.row_of_start.result.1) =
    record { answer = for_some c.args.zone.now c.unchecked-unchecked.result _ _ c.unchecked-unchecked.ensures found } in
    rows_two (λ k second status. IsSecondsOfStart c.args.zone.now (get_or c.args.seconds.now k (pos 0)) (int64_row second status)) c.loop-row.starts c.loop-row.statuses c.loop-row.row
    (to_z w64 (of_z w64 c.row_of_start.result.0)) (pos 0) c.row_of_start.result.1 0 (omega arith) (omega arith) c.loop-row.invariant (simp to_z-of_z here)
