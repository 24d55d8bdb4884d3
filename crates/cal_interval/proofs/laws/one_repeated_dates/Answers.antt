use Rattle.std.proofs.Common.{◌∙◌, sym}
use Rattle.cal_text.proofs.Results.{one}
use Rattle.cal_interval.proofs.laws.one_repeated_dates.Goals as goal

pub returns : goal.returns
returns c v w a b = one _ _ (sym (c.parse_repeated.ensures.every v a) ∙ c.parse_repeated.ensures.every w b)
