use Rattle.std.proofs.Common.{◌+◌, get_or, pos, arith, rules, FitsSigned, w32, w64, to_z, of_z}
use Rattle.std.proofs.lemmas.Int.{to_z-of_z}
use Rattle.cal_c.specs.DurationColumns.{duration_row, IsParsedDurationRow}
use Rattle.cal_c.proofs.Rows.{rows_three}
use Rattle.cal_c.proofs.columns.texts.durations.fots_durations_parse.Goals as goal

pub loop-row-preserved : goal.loop-row-preserved
loop-row-preserved c =
    let f-from : FitsSigned w32 (get_or c.args.bounds.now c.loop-row.row (pos 0)) = search rules in
    let f-to : FitsSigned w32 (get_or c.args.bounds.now (c.loop-row.row + 1) (pos 0)) = search rules in
    let d = c.parse_duration_between-status.result.0 in
    let status = c.parse_duration_between-status.result.1 in
    let f-seconds : FitsSigned w64 d.seconds = search rules in
    let f-nanoseconds : FitsSigned w32 d.nanoseconds = search rules in
    let here : IsParsedDurationRow c.args.bytes.now (get_or c.args.bounds.now c.loop-row.row (pos 0)) (get_or c.args.bounds.now (c.loop-row.row + 1) (pos 0)) (duration_row d.seconds d.nanoseconds status) =
    simp to_z-of_z at c.parse_duration_between-status.ensures in
    rows_three
    (λ k seconds nanoseconds status. IsParsedDurationRow c.args.bytes.now (get_or c.args.bounds.now k (pos 0)) (get_or c.args.bounds.now (k + 1) (pos 0)) (duration_row seconds nanoseconds status))
    c.loop-row.seconds c.loop-row.nanoseconds c.loop-row.statuses c.loop-row.row (to_z w64 (of_z w64 d.seconds)) (pos 0) (to_z w32 (of_z w32 d.nanoseconds)) (pos 0) status 0
    (omega arith) (omega arith) (omega arith) c.loop-row.invariant (simp to_z-of_z here)
