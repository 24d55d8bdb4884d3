use Rattle.std.proofs.Common.{◌≡◌, ◌∙◌, ◌+◌, ◌*◌, ◌++◌, [], ◌∷◌, pos, ◌<ℤ◌, ap, rules}
use Rattle.cal_span.specs.SignedDuration.{second, parts_text}
use Rattle.cal_span.proofs.Text.{text-negative, text-positive}
use Rattle.cal_span.proofs.signed_duration.SignedDuration.text.Goals as goal
use Rattle.cal_span.proofs.signed_duration.SignedDuration.text.Goals.{then-is_negative, else-is_negative}

pub returns-clause-value : goal.returns-clause-value
returns-clause-value c =
    let v = c.args.self in
    let parts = c.unsigned_abs-seconds.ensures in
    let magnitude = parts_text (c.unsigned_abs-seconds.result.0 * second + c.unsigned_abs-seconds.result.1) in
    elim c.if-is_negative.branch [
      | then-is_negative w ↦
          let below : v <ℤ pos 0 = search rules in
          c.push_parts.ensures.appended ∙ ap (λ front. front ++ magnitude) (w.text-is ∙ w.push-then-is_negative.ensures.appended ∙ ap (λ front. front ++ 45 ∷ []) c.new-text.ensures)
          ∙ text-negative v _ _ below parts.seconds parts.nanoseconds
      | else-is_negative w ↦
          let not_zero : ¬ (v ≡ pos 0) = search rules in
          let not_below : ¬ (v <ℤ pos 0) = search rules in
          c.push_parts.ensures.appended ∙ ap (λ front. front ++ magnitude) (w.text-is ∙ c.new-text.ensures)
          ∙ text-positive v _ _ not_zero not_below parts.seconds parts.nanoseconds
    ]
