use Rattle.std.proofs.Common.{◌∙◌, ap, arith}
use Rattle.cal_recurrence.specs.SetText.{parameters_of, value_of}
use Rattle.cal_recurrence.specs.Words.{parts_left}
use Rattle.cal_recurrence.proofs.Listed.{more_read, room_left}
use Rattle.cal_recurrence.proofs.set_draft.more_values.Goals as goal

pub push-requires : goal.push-requires
push-requires c = (
  omega arith,
  room_left (value_of (parameters_of c.args.head.now)) _ c.loop-words.values c.cut.result.0.now _ (parts_left 44 c.loop-words.words) _ c.loop-words.invariant
      (ap (parts_left 44) c.in-Some.is ∙ c.cut.ensures.parts) c.requires,
)

pub loop-words-preserved : goal.loop-words-preserved
loop-words-preserved c =
    rw c.push.ensures (more_read (value_of (parameters_of c.args.head.now)) _ c.loop-words.values c.in_ok-value_of.field-0 c.cut.result.0.now _ (parts_left 44 c.loop-words.words) _ c.loop-words.invariant
    (ap (parts_left 44) c.in-Some.is ∙ c.cut.ensures.parts) c.in_ok-value_of.ensures)
