use Rattle.std.proofs.Common.{inl, inr, arith}
use Rattle.std.proofs.lemmas.Int.{ints}
use Rattle.cal_recurrence.proofs.OffsetRanges.{min-beside}
use Rattle.cal_recurrence.proofs.offset_range.min_offset.Goals as goal

pub returns-then-seconds-from : goal.returns-then-seconds-from
returns-then-seconds-from c = λ zone x is step.
    min-beside zone x c.args.seconds c.args.change c.args.before c.args.after _ is step (inl (omega (arith, ints, c.if-seconds-from.true, c.from.ensures, c.from-2.ensures), omega (arith, ints)))

pub returns-else-seconds-from : goal.returns-else-seconds-from
returns-else-seconds-from c = λ zone x is step.
    min-beside zone x c.args.seconds c.args.change c.args.before c.args.after _ is step (inr (omega (arith, ints, c.if-seconds-from.false, c.from.ensures, c.from-2.ensures), omega (arith, ints)))
