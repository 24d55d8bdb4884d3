use Rattle.std.proofs.Common.{◌∙◌, sym}
use Rattle.cal_text.proofs.Results.{one}
use Rattle.cal_duration.proofs.laws.one_period.Goals as goal

pub returns : goal.returns
returns c a b x y = one a b (sym (c.parse.ensures.every a x) ∙ c.parse.ensures.every b y)
