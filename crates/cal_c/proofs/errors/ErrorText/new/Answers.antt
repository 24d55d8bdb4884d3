use Rattle.std.proofs.Common.{ℕ, List, length, ap}
use Rattle.cal_c.proofs.Filled.{copied-over}
use Rattle.cal_c.specs.declared.errors.ErrorText.{ErrorText}
use Rattle.cal_c.proofs.errors.ErrorText.new.Goals as goal

abbrev text_with : List ℕ → List ℕ → ErrorText
text_with text bytes = record { length = length text; bytes = bytes }

pub returns : goal.returns
returns c = ap (text_with c.args.text.now) (copied-over 220 0 c.args.text.now c.copy_from_slice.new.self c.copy_from_slice.ensures.after)
