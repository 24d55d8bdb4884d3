use Rattle.std.proofs.Common.{[], ◌∙◌, ap, arith}
use Rattle.cal_recurrence.specs.Words.{parts_left}
use Rattle.cal_recurrence.proofs.Listed.{more_read, room_left}
use Rattle.cal_recurrence.proofs.lists.values_of.Goals as goal

pub push-requires : goal.push-requires
push-requires g c = (
  omega arith,
  room_left (g.T.Word.meaning_of c.args.most) [] c.loop-words.values c.cut.result.0.now _ (parts_left 44 c.loop-words.words) _ c.loop-words.invariant
      (ap (parts_left 44) c.in-Some.is ∙ c.cut.ensures.parts) (omega (arith, c.requires)),
)

pub loop-words-preserved : goal.loop-words-preserved
loop-words-preserved g c =
    rw c.push.ensures (more_read (g.T.Word.meaning_of c.args.most) [] c.loop-words.values c.in_ok-read.field-0 c.cut.result.0.now _ (parts_left 44 c.loop-words.words) _ c.loop-words.invariant
    (ap (parts_left 44) c.in-Some.is ∙ c.cut.ensures.parts) c.in_ok-read.ensures)
