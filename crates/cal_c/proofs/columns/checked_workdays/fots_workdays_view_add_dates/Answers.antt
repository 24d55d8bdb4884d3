use Rattle.std.proofs.Common.{◌≡◌, ℤ, get_or, pos, arith, rules, FitsSigned, w32, to_z, of_z}
use Rattle.std.proofs.lemmas.Int.{ints, to_z-of_z}
use Rattle.cal_c.specs.CheckedWorkdays.{IsDateLaterInView}
use Rattle.cal_c.specs.Columns.{date_row}
use Rattle.cal_c.specs.Results.{date_error}
use Rattle.cal_c.proofs.Rows.{rows_two}
use Rattle.cal_c.proofs.Schedules.{if_refused, if_read}
use Rattle.cal_c.proofs.columns.checked_workdays.fots_workdays_view_add_dates.Goals as goal

pub loop-row-preserved : goal.loop-row-preserved
loop-row-preserved c =
    let f-dates : FitsSigned w32 (get_or c.args.dates.now c.loop-row.row (pos 0)) = search rules in
    let f-days : FitsSigned w32 (get_or c.args.days.now c.loop-row.row (pos 0)) = search rules in
    let fits : FitsSigned w32 c.add_row.result.0 = search rules in
    let read = c.from_view-ranked.ensures in
    let its-refused = c.add_row.ensures.error in
    let its-invalid_date = simp to_z-of_z at c.add_row.ensures.invalid_date in
    let its-any = simp to_z-of_z at c.add_row.ensures.any in
    let its-day = simp to_z-of_z at c.add_row.ensures.value in
    let refused : ℤ → Type 0 = λ s. date_row c.add_row.result.0 c.add_row.result.1 ≡ date_error s in
    let here : IsDateLaterInView c.args.workdays.now (get_or c.args.dates.now c.loop-row.row (pos 0)) (get_or c.args.days.now c.loop-row.row (pos 0)) (date_row c.add_row.result.0 c.add_row.result.1) = record {
      invalid_weekmask = λ m. if_refused refused _ _ (read.invalid_weekmask m) (omega (arith, ints), omega (arith, ints)) its-refused;
      invalid_holidays = λ m out. if_refused refused _ _ (read.invalid_holidays m out) (omega (arith, ints), omega (arith, ints)) its-refused;
      any = λ limits. record { error = if_read _ _ _ (read.value limits) its-invalid_date; value = if_read _ _ _ (read.value limits) its-any };
      value = λ limits counted. if_read _ _ _ (read.value limits) its-day counted;
    } in
    rows_two (λ k value status. IsDateLaterInView c.args.workdays.now (get_or c.args.dates.now k (pos 0)) (get_or c.args.days.now k (pos 0)) (date_row value status)) c.loop-row.moved c.loop-row.statuses c.loop-row.row (to_z w32 (of_z w32 c.add_row.result.0)) (pos 0) c.add_row.result.1 0 (omega arith) (omega arith) c.loop-row.invariant (simp to_z-of_z here)
