use Rattle.std.proofs.Common.{◌≡◌, get_or, pos, arith, rules, FitsSigned, w32, w64, to_z, of_z}
use Rattle.std.proofs.lemmas.Int.{to_z-of_z}
use Rattle.cal_zone.specs.Timeline.{Timeline, offset_at}
use Rattle.cal_c.specs.Results.{offset_ok, offset_error}
use Rattle.cal_c.specs.declared.status.TheConstants.{INVALID_ZONE}
use Rattle.cal_c.specs.ZoneColumns.{IsOffsetAt, offset_row}
use Rattle.cal_c.proofs.Rows.{rows_two}
use Rattle.cal_c.proofs.ZoneResults.{for_some, next_span}
use Rattle.cal_c.proofs.columns.zones.fots_zone_offsets.Goals as goal

pub loop-row-preserved : goal.loop-row-preserved
loop-row-preserved c =
    let f : FitsSigned w64 (get_or c.args.seconds.now c.loop-row.row (pos 0)) = search rules in
    let fits : FitsSigned w32 c.row_of_offset.result.0 = search rules in
    let row = offset_row c.row_of_offset.result.0 c.row_of_offset.result.1 in
    let found = next_span c.unchecked-unchecked.result _ _ (row ≡ offset_error INVALID_ZONE)
    (λ (z : Timeline). row ≡ offset_ok (offset_at z (get_or c.args.seconds.now c.loop-row.row (pos 0))))
    (simp to_z-of_z at c.row_of_offset.ensures) c.loop-row.invariant.span in
    let here : IsOffsetAt c.args.zone.now (get_or c.args.seconds.now c.loop-row.row (pos 0)) row =
    record { answer = for_some c.args.zone.now c.unchecked-unchecked.result _ _ c.unchecked-unchecked.ensures found.0 } in
    record {
      rows = rows_two (λ k offset status. IsOffsetAt c.args.zone.now (get_or c.args.seconds.now k (pos 0)) (offset_row offset status)) c.loop-row.offsets c.loop-row.statuses c.loop-row.row (to_z w32 (of_z w32 c.row_of_offset.result.0)) (pos 0) c.row_of_offset.result.1 0 (omega arith) (omega arith) c.loop-row.invariant.rows (simp to_z-of_z here);
      span = found.1;
    }
