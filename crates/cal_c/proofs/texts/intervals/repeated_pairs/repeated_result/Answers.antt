use Rattle.std.proofs.Common.{ap, rules, ◌∙◌, FitsSigned, w32}
use Rattle.std.proofs.Math.Facts.{to_z-of_z}
use Rattle.std.specs.Prelude.{Err, Ok}
use Rattle.cal_c.specs.Intervals.{repeated_pairs_error_at}
use Rattle.cal_c.specs.Texts.{no_position}
use Rattle.cal_c.proofs.texts.intervals.repeated_pairs.repeated_result.Goals as goal

pub returns-in-Ok : goal.returns-in-Ok
returns-in-Ok c = (Ok c.in-Ok.repeated, c.in-Ok.ensures.value, c.in-Ok.ensures.error, c.ok.ensures)

pub returns-in-Err : goal.returns-in-Err
returns-in-Err c =
    let status : FitsSigned w32 c.interval_status.result = search rules in
    let error = simp to_z-of_z at c.error_at.ensures in
    (Err c.in-Err.error, c.in-Err.ensures.value, c.in-Err.ensures.error, error ∙ ap (λ s. repeated_pairs_error_at s no_position) c.interval_status.ensures)
