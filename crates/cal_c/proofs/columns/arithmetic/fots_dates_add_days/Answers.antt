use Rattle.std.proofs.Common.{◌≡◌, ◌∙◌, sym, ap, ◌+◌, ◌-◌, get_or, pos, arith, rules, FitsSigned, w32, to_z, of_z}
use Rattle.std.proofs.lemmas.Int.{to_z-of_z}
use Rattle.cal_c.specs.Columns.{IsDateDaysLater, date_row}
use Rattle.cal_c.proofs.HeldDays.{held, IsDateDaysLater-held}
use Rattle.cal_c.proofs.Rows.{rows_two}
use Rattle.cal_c.proofs.columns.arithmetic.fots_dates_add_days.Goals as goal

pub loop-row-preserved : goal.loop-row-preserved
loop-row-preserved c =
    let row = c.loop-row.row in
    let index = c.loop-row.row - c.loop-start.start in
    let whole : c.loop-start.start + index ≡ row = omega arith in
    let f-dates : FitsSigned w32 (get_or c.args.dates.now row (pos 0)) = search rules in
    let f-clamped : FitsSigned w32 (get_or c.clamp_days.new.held index (pos 0)) = search rules in
    let fits : FitsSigned w32 c.date_days_later.result.0 = search rules in
    let same : get_or c.clamp_days.new.held index (pos 0) ≡ held (get_or c.args.days.now row (pos 0)) =
    c.loop-row.invariant.clamped index (omega arith) ∙ ap (λ k. held (get_or c.args.days.now k (pos 0))) whole in
    let by-held : IsDateDaysLater (get_or c.args.dates.now row (pos 0)) (get_or c.clamp_days.new.held index (pos 0)) (date_row c.date_days_later.result.0 c.date_days_later.result.1) = simp to_z-of_z at c.date_days_later.ensures in
    let here : IsDateDaysLater (get_or c.args.dates.now row (pos 0)) (get_or c.args.days.now row (pos 0)) (date_row c.date_days_later.result.0 c.date_days_later.result.1) = IsDateDaysLater-held _ _ _ (rw (sym same) by-held) in
    record {
      done = rows_two (λ k date status. IsDateDaysLater (get_or c.args.dates.now k (pos 0)) (get_or c.args.days.now k (pos 0)) (date_row date status)) c.loop-row.moved c.loop-row.statuses row (to_z w32 (of_z w32 c.date_days_later.result.0)) (pos 0) c.date_days_later.result.1 0 (omega arith) (omega arith) c.loop-row.invariant.done (simp to_z-of_z here);
      clamped = c.loop-row.invariant.clamped;
    }
