use Rattle.std.proofs.Common.{length}
use Rattle.cal_recurrence.specs.Words.{parts_at, parts_left}
use Rattle.caldate_args.specs.Events.{AreValid}
use Rattle.caldate_args.proofs.events.find_zone.Given as goal

-- the text has no error if the lines that are left have none
abbrev pub invariant-loop-rest : goal.invariant-loop-rest
invariant-loop-rest l = AreValid (parts_left 10 l.rest) → AreValid (parts_at 10 l.text)

abbrev pub decreases-loop-rest : goal.decreases-loop-rest
decreases-loop-rest l = length (parts_left 10 l.rest)
