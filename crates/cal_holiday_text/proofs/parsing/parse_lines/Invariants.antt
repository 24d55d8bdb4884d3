use Rattle.std.proofs.Common.{length}
use Rattle.cal_recurrence.specs.Words.{parts_left}
use Rattle.cal_holiday_text.proofs.Reading.{AreReading}
use Rattle.cal_holiday_text.proofs.parsing.parse_lines.Given as goal

abbrev pub invariant-loop-lines : goal.invariant-loop-lines
invariant-loop-lines l = AreReading l.text (length l.rules) l.position l.count l.rules l.lines

abbrev pub decreases-loop-lines : goal.decreases-loop-lines
decreases-loop-lines l = length (parts_left 10 l.lines)
