use Rattle.std.proofs.Common.{get_or, arith}
use Rattle.cal_c.specs.DurationColumns.{time_row}
use Rattle.cal_c.specs.Rounding.{IsTimeRoundedTo}
use Rattle.cal_c.proofs.Rows.{rows_two}
use Rattle.cal_c.proofs.columns.rounding.fots_times_round.Goals as goal

pub loop-row-preserved : goal.loop-row-preserved
loop-row-preserved c =
    let r = c.rounded_time.result in
    rows_two (λ k time status. IsTimeRoundedTo (get_or c.args.times.now k 0) c.args.unit c.args.mode (time_row time status)) c.loop-row.rounded_times c.loop-row.statuses c.loop-row.row r.0 0 r.1 0
    (omega arith) (omega arith) c.loop-row.invariant c.rounded_time.ensures
