use Rattle.std.proofs.Common.{ℕ, List, length, ap}
use Rattle.cal_c.proofs.Filled.{copied-over}
use Rattle.cal_c.specs.declared.status.TheConstants.{OK}
use Rattle.cal_c.specs.declared.texts.durations.PeriodTextResult.{PeriodTextResult}
use Rattle.cal_c.proofs.texts.durations.PeriodTextResult.ok.Goals as goal

abbrev text_with : List ℕ → List ℕ → PeriodTextResult
text_with text bytes = record { status = OK; length = length text; bytes = bytes }

pub returns : goal.returns
returns c = ap (text_with c.args.text.now) (copied-over 88 0 c.args.text.now c.copy_from_slice.new.self c.copy_from_slice.ensures.after)
