use Rattle.std.proofs.Common.{◌≡◌, ◌∙◌, ℕ, ℤ, ap, of_z, rules, to_z, w32}
use Rattle.std.specs.Prelude.{replicate}
use Rattle.cal_recurrence.specs.declared.fault.ParseRuleError.{ParseRuleError}
use Rattle.cal_c.specs.RecurrenceTexts.{reason_status}
use Rattle.cal_c.specs.declared.schedule.recurrences.formatting.RecurrenceTextResult.{RecurrenceTextResult}
use Rattle.cal_c.proofs.schedule.recurrences.formatting.RecurrenceTextResult.parse_error.Goals as goal

abbrev with_reason : ParseRuleError → ℤ → ℕ → RecurrenceTextResult
with_reason fault status part = record { status = status; part = part; position = fault.position; length = 0; bytes = replicate 4064 0; unused = 0 }

pub returns : goal.returns
returns c =
    let status : to_z w32 (of_z w32 c.reason_status.result) ≡ c.reason_status.result = search rules in
    ap (λ s. with_reason c.args.fault s c.error_part.result) (status ∙ c.reason_status.ensures)
    ∙ ap (with_reason c.args.fault (reason_status c.args.fault.reason)) c.error_part.ensures
