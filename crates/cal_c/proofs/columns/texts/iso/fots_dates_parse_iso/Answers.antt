use Rattle.std.proofs.Common.{◌+◌, get_or, pos, arith, rules, FitsSigned, w32, to_z, of_z}
use Rattle.std.proofs.lemmas.Int.{to_z-of_z}
use Rattle.cal_c.specs.Columns.{date_row}
use Rattle.cal_c.specs.IsoColumns.{IsIsoDateRow}
use Rattle.cal_c.proofs.Rows.{rows_two}
use Rattle.cal_c.proofs.columns.texts.iso.fots_dates_parse_iso.Goals as goal

pub loop-row-preserved : goal.loop-row-preserved
loop-row-preserved c =
    let f-from : FitsSigned w32 (get_or c.args.bounds.now c.loop-row.row (pos 0)) = search rules in
    let f-to : FitsSigned w32 (get_or c.args.bounds.now (c.loop-row.row + 1) (pos 0)) = search rules in
    let fits : FitsSigned w32 c.parse_date_between.result.0 = search rules in
    let here : IsIsoDateRow c.args.bytes.now (get_or c.args.bounds.now c.loop-row.row (pos 0)) (get_or c.args.bounds.now (c.loop-row.row + 1) (pos 0)) (date_row c.parse_date_between.result.0 c.parse_date_between.result.1) = simp to_z-of_z at c.parse_date_between.ensures in
    rows_two (λ k date status. IsIsoDateRow c.args.bytes.now (get_or c.args.bounds.now k (pos 0)) (get_or c.args.bounds.now (k + 1) (pos 0)) (date_row date status)) c.loop-row.dates c.loop-row.statuses c.loop-row.row (to_z w32 (of_z w32 c.parse_date_between.result.0)) (pos 0) c.parse_date_between.result.1 0 (omega arith) (omega arith) c.loop-row.invariant (simp to_z-of_z here)
