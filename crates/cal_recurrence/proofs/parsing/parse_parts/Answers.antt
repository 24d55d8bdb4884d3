use Rattle.std.proofs.Common.{◌∙◌, sym}
use Rattle.cal_recurrence.specs.Words.{parts_at}
use Rattle.cal_recurrence.proofs.GivenParts.{valid_is_spelled}
use Rattle.cal_recurrence.proofs.parsing.parse_parts.Goals as goal

pub returns-else-ranks_alone-clause-spelled : goal.returns-else-ranks_alone-clause-spelled
returns-else-ranks_alone-clause-spelled c =
    valid_is_spelled c.args.position (parts_at 59 c.args.text.now) c.in-Ok.recurrence (sym c.in-Ok.is ∙ c.parse_valid_parts.ensures)
    (sym c.excluded.ensures ∙ c.in_default.is) (sym c.ranks_alone.ensures ∙ c.if-ranks_alone.false)
