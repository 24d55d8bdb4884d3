use Rattle.std.proofs.Common.{◌∙◌, sym}
use Rattle.cal_recurrence.proofs.SaidLines.{line-read}
use Rattle.cal_recurrence.proofs.set_draft.SetDraft.with_line.Goals as goal

pub returns-in-Ok : goal.returns-in-Ok
returns-in-Ok c =
    c.with_zone.ensures
    ∙ line-read c.args.self c.in-Ok.draft c.args.line.now c.in-Some.kind (sym c.is_empty.ensures ∙ c.if-is_empty.false) (sym c.kind_of.ensures ∙ c.in-Some.is) (sym c.with_value.ensures ∙ c.in-Ok.is)
