use Rattle.std.proofs.Common.{ap, rules, ◌∙◌, FitsSigned, w32}
use Rattle.std.proofs.Math.Facts.{to_z-of_z}
use Rattle.cal_time.specs.Date.{julian_day_at}
use Rattle.cal_text.proofs.Results.{not_ok, one}
use Rattle.cal_c.specs.Results.{date_error, date_ok}
use Rattle.cal_c.specs.Statuses.{component_status}
use Rattle.cal_c.proofs.schedule.easter.fots_easter.Goals as goal

pub returns-in-Ok : goal.returns-in-Ok
returns-in-Ok c =
    let g = c.ranges.year in
    let every = simp to_z-of_z at c.in-Ok.ensures.every in
    let value = simp to_z-of_z at c.in-Ok.ensures.value in
    record {
      day = λ n is easter. c.ok.ensures ∙ ap (λ m. date_ok (julian_day_at m)) (one _ _ (every n is easter));
      no_year = λ none. absurd (none c.in-Ok.made value.0 value.1);
    }

pub returns-in-Err : goal.returns-in-Err
returns-in-Err c =
    let g = c.ranges.year in
    let every = simp to_z-of_z at c.in-Err.ensures.every in
    let status : FitsSigned w32 c.error_status.result = search rules in
    let error = simp to_z-of_z at c.error.ensures in
    record {
      day = λ n is easter. absurd (not_ok _ _ (every n is easter));
      no_year = λ none. error ∙ ap date_error (c.error_status.ensures ∙ ap (λ e. component_status e.component) c.in-Err.ensures.error_kind);
    }
