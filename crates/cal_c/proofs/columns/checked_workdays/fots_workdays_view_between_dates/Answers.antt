use Rattle.std.proofs.Common.{◌≡◌, ℤ, get_or, pos, arith, rules, FitsSigned, w32, to_z, of_z}
use Rattle.std.proofs.lemmas.Int.{ints, to_z-of_z}
use Rattle.cal_c.specs.CheckedWorkdays.{IsNumberBetweenInView}
use Rattle.cal_c.specs.Columns.{number_row}
use Rattle.cal_c.specs.Results.{number_error}
use Rattle.cal_c.proofs.Rows.{rows_two}
use Rattle.cal_c.proofs.Schedules.{if_refused, if_read}
use Rattle.cal_c.proofs.columns.checked_workdays.fots_workdays_view_between_dates.Goals as goal

pub loop-row-preserved : goal.loop-row-preserved
loop-row-preserved c =
    let f-dates : FitsSigned w32 (get_or c.args.dates.now c.loop-row.row (pos 0)) = search rules in
    let f-others : FitsSigned w32 (get_or c.args.others.now c.loop-row.row (pos 0)) = search rules in
    let fits : FitsSigned w32 c.between_row.result.0 = search rules in
    let read = c.from_view-ranked.ensures in
    let its-refused = c.between_row.ensures.error in
    let its-invalid_date = simp to_z-of_z at c.between_row.ensures.invalid_date in
    let its-any = simp to_z-of_z at c.between_row.ensures.any in
    let its-value = simp to_z-of_z at c.between_row.ensures.value in
    let refused : ℤ → Type 0 = λ s. number_row c.between_row.result.0 c.between_row.result.1 ≡ number_error s in
    let here : IsNumberBetweenInView c.args.workdays.now (get_or c.args.dates.now c.loop-row.row (pos 0)) (get_or c.args.others.now c.loop-row.row (pos 0)) (number_row c.between_row.result.0 c.between_row.result.1) = record {
      invalid_weekmask = λ m. if_refused refused _ _ (read.invalid_weekmask m) (omega (arith, ints), omega (arith, ints)) its-refused;
      invalid_holidays = λ m out. if_refused refused _ _ (read.invalid_holidays m out) (omega (arith, ints), omega (arith, ints)) its-refused;
      any = λ limits. record { error = if_read _ _ _ (read.value limits) its-invalid_date; value = λ both. if_read _ _ _ (read.value limits) its-any both.0 both.1 };
      value = λ limits counted. if_read _ _ _ (read.value limits) its-value counted;
    } in
    rows_two (λ k value status. IsNumberBetweenInView c.args.workdays.now (get_or c.args.dates.now k (pos 0)) (get_or c.args.others.now k (pos 0)) (number_row value status)) c.loop-row.numbers c.loop-row.statuses c.loop-row.row (to_z w32 (of_z w32 c.between_row.result.0)) (pos 0) c.between_row.result.1 0 (omega arith) (omega arith) c.loop-row.invariant (simp to_z-of_z here)
