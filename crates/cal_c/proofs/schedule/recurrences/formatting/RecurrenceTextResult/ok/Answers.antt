use Rattle.std.proofs.Common.{ℕ, List, length, ap}
use Rattle.cal_c.specs.declared.status.TheConstants.{OK}
use Rattle.cal_c.specs.Texts.{no_position}
use Rattle.cal_c.specs.declared.schedule.recurrences.formatting.RecurrenceTextResult.{RecurrenceTextResult}
use Rattle.cal_c.proofs.Filled.{copied-over}
use Rattle.cal_c.proofs.schedule.recurrences.formatting.RecurrenceTextResult.ok.Goals as goal

abbrev written_with : List ℕ → List ℕ → RecurrenceTextResult
written_with text bytes = record { status = OK; part = 0; position = no_position; length = length text; bytes = bytes; unused = 0 }

pub returns : goal.returns
returns c =
    ap (written_with c.args.text.now) (copied-over 4064 0 c.args.text.now c.copy_from_slice.new.self c.copy_from_slice.ensures.after)
