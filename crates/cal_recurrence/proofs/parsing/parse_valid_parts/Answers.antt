use Rattle.std.proofs.Common.{ap, ◌∙◌}
use Rattle.cal_recurrence.specs.Drafts.{read_on}
use Rattle.cal_recurrence.specs.Words.{parts_at}
use Rattle.cal_recurrence.proofs.SaidParts.{read_said}
use Rattle.cal_recurrence.proofs.parsing.parse_valid_parts.Goals as goal

pub returns : goal.returns
returns c =
    let texts = parts_at 59 c.args.text.now in
    c.read_on.ensures ∙ ap (λ draft. read_on c.args.position draft texts) c.new.ensures ∙ read_said c.args.position texts
