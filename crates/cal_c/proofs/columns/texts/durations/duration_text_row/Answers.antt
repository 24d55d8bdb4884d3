use Rattle.std.proofs.Common.{ap, refl, ◌∙◌}
use Rattle.std.proofs.lemmas.Int.{to_z-of_z}
use Rattle.cal_duration.specs.DurationText.{duration_text}
use Rattle.cal_c.proofs.columns.texts.durations.duration_text_row.Goals as goal

pub returns-in-Some-clause-value : goal.returns-in-Some-clause-value
returns-in-Some-clause-value c =
    let seconds = c.ranges.seconds in
    let nanoseconds = c.ranges.nanoseconds in
    let valid = simp to_z-of_z at c.in-Some.ensures in
    record { invalid_duration = λ no. absurd (no valid.0); value = λ _. (c.text.ensures.value ∙ ap duration_text valid.1, refl) }
