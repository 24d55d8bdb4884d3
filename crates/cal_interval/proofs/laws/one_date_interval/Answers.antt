use Rattle.std.proofs.Common.{◌∙◌, sym}
use Rattle.cal_text.proofs.Results.{one}
use Rattle.cal_interval.proofs.laws.one_date_interval.Goals as goal

pub returns : goal.returns
returns c v w a b = one _ _ (sym (c.parse.ensures.every v a) ∙ c.parse.ensures.every w b)
