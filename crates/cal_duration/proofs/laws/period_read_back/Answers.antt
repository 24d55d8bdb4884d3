use Rattle.std.proofs.Common.{◌∙◌, sym, subst}
use Rattle.cal_duration.specs.Values.{IsPeriodText}
use Rattle.cal_duration.proofs.laws.period_read_back.Goals as goal

pub returns : goal.returns
returns c = c.parse.ensures.every c.args.period (subst (λ bytes. IsPeriodText bytes c.args.period) (sym (c.as_bytes.ensures.value ∙ c.new-text.ensures.value)) c.new-text.ensures.parses)
