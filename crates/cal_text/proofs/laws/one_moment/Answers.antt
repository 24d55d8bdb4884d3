use Rattle.std.proofs.Common.{sym, ◌∙◌}
use Rattle.cal_text.proofs.Results.{one}
use Rattle.cal_text.proofs.laws.one_moment.Goals as goal

pub returns : goal.returns
returns c m n first second = one m n (sym (c.parse.ensures.every m first) ∙ c.parse.ensures.every n second)
