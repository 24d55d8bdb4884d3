use Rattle.std.proofs.Common.{arith}
use Rattle.cal_time.specs.Laws.{next_occurrence-some, prev_occurrence-some}
use Rattle.guide.proofs.callers.occurrences.Goals as goal

pub next_occurrence-requires : goal.next_occurrence-requires
next_occurrence-requires c = next_occurrence-some 0 c.args.date 1 (omega arith) (omega arith) (omega arith)

pub prev_occurrence-requires : goal.prev_occurrence-requires
prev_occurrence-requires c = prev_occurrence-some 0 c.args.date 1 (omega arith) (omega arith) (omega arith)

pub nth_next_occurrence-requires : goal.nth_next_occurrence-requires
nth_next_occurrence-requires c = next_occurrence-some 0 c.args.date 2 (omega arith) (omega arith) (omega arith)

pub nth_prev_occurrence-requires : goal.nth_prev_occurrence-requires
nth_prev_occurrence-requires c = prev_occurrence-some 0 c.args.date 2 (omega arith) (omega arith) (omega arith)
