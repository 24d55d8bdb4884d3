use Rattle.std.proofs.Common.{◌∙◌, sym, subst}
use Rattle.cal_duration.specs.Values.{IsDurationText}
use Rattle.guide.proofs.durations.read_back.Goals as goal

pub returns : goal.returns
returns c =
    c.parse.ensures.every c.args.value (subst (λ bytes. IsDurationText bytes c.args.value) (sym (c.as_bytes.ensures.value ∙ c.text-text.ensures.value)) c.text-text.ensures.parses)
