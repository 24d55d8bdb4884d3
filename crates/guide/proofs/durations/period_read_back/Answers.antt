use Rattle.std.proofs.Common.{◌∙◌, sym, subst}
use Rattle.cal_duration.specs.Values.{IsPeriodText}
use Rattle.guide.proofs.durations.period_read_back.Goals as goal

pub returns : goal.returns
returns c =
    c.parse.ensures.every c.args.value (subst (λ bytes. IsPeriodText bytes c.args.value) (sym (c.as_bytes.ensures.value ∙ c.new-text.ensures.value)) c.new-text.ensures.parses)
