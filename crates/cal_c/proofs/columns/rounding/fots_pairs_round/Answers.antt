use Rattle.std.proofs.Common.{get_or, pos, arith, rules, FitsSigned, w32, to_z, of_z}
use Rattle.std.proofs.lemmas.Int.{to_z-of_z}
use Rattle.cal_c.specs.DurationColumns.{pair_row}
use Rattle.cal_c.specs.Rounding.{IsPairRoundedTo}
use Rattle.cal_c.proofs.Rows.{rows_three}
use Rattle.cal_c.proofs.columns.rounding.fots_pairs_round.Goals as goal

pub loop-row-preserved : goal.loop-row-preserved
loop-row-preserved c =
    let r = c.rounded_pair.result in
    let f-dates : FitsSigned w32 (get_or c.args.dates.now c.loop-row.row (pos 0)) = search rules in
    let fits : FitsSigned w32 r.0 = search rules in
    let here : IsPairRoundedTo (get_or c.args.dates.now c.loop-row.row (pos 0)) (get_or c.args.times.now c.loop-row.row 0) c.args.unit c.args.mode (pair_row r.0 r.1 r.2) =
    simp to_z-of_z at c.rounded_pair.ensures in
    rows_three (λ k date time status. IsPairRoundedTo (get_or c.args.dates.now k (pos 0)) (get_or c.args.times.now k 0) c.args.unit c.args.mode (pair_row date time status))
    c.loop-row.rounded_dates c.loop-row.rounded_times c.loop-row.statuses c.loop-row.row (to_z w32 (of_z w32 r.0)) (pos 0) r.1 0 r.2 0
    (omega arith) (omega arith) (omega arith) c.loop-row.invariant (simp to_z-of_z here)
