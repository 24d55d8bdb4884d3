use Rattle.std.proofs.Common.{refl, inr}
use Rattle.cal_string_errors.proofs.shown.string_sentence.Goals as goal

pub returns-in-None : goal.returns-in-None
returns-in-None c = inr (c.in-None.ensures.none refl, refl)
