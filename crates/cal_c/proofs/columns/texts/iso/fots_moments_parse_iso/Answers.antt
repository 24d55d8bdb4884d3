use Rattle.std.proofs.Common.{◌+◌, get_or, pos, arith, rules, FitsSigned, w32, to_z, of_z}
use Rattle.std.proofs.lemmas.Int.{to_z-of_z}
use Rattle.cal_c.specs.IsoColumns.{IsIsoMomentRow}
use Rattle.cal_c.specs.TextColumns.{moment_row}
use Rattle.cal_c.proofs.Rows.{rows_four}
use Rattle.cal_c.proofs.columns.texts.iso.fots_moments_parse_iso.Goals as goal

pub loop-row-preserved : goal.loop-row-preserved
loop-row-preserved c =
    let f-from : FitsSigned w32 (get_or c.args.bounds.now c.loop-row.row (pos 0)) = search rules in
    let f-to : FitsSigned w32 (get_or c.args.bounds.now (c.loop-row.row + 1) (pos 0)) = search rules in
    let m = c.parse_moment_between-status.result.0 in
    let status = c.parse_moment_between-status.result.1 in
    let f-date : FitsSigned w32 m.date = search rules in
    let f-offset : FitsSigned w32 m.offset = search rules in
    let here : IsIsoMomentRow c.args.bytes.now (get_or c.args.bounds.now c.loop-row.row (pos 0)) (get_or c.args.bounds.now (c.loop-row.row + 1) (pos 0)) (moment_row m.date m.time m.offset status) = simp to_z-of_z at c.parse_moment_between-status.ensures in
    rows_four (λ k date time offset status. IsIsoMomentRow c.args.bytes.now (get_or c.args.bounds.now k (pos 0)) (get_or c.args.bounds.now (k + 1) (pos 0)) (moment_row date time offset status)) c.loop-row.dates c.loop-row.times c.loop-row.offsets c.loop-row.statuses c.loop-row.row (to_z w32 (of_z w32 m.date)) (pos 0) m.time 0 (to_z w32 (of_z w32 m.offset)) (pos 0) status 0 (omega arith) (omega arith) (omega arith) (omega arith) c.loop-row.invariant (simp to_z-of_z here)
