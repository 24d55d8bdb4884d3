use Rattle.std.proofs.Common.{◌∙◌, sym, subst}
use Rattle.cal_duration.specs.Values.{IsDurationText}
use Rattle.cal_duration.proofs.laws.duration_read_back.Goals as goal

pub returns : goal.returns
returns c =
    c.parse.ensures.every c.args.duration (subst (λ bytes. IsDurationText bytes c.args.duration) (sym (c.as_bytes.ensures.value ∙ c.text-text.ensures.value)) c.text-text.ensures.parses)
