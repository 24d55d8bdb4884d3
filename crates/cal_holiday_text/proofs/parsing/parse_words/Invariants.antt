use Rattle.std.proofs.Common.{length}
use Rattle.cal_recurrence.specs.Words.{parts_left}
use Rattle.cal_holiday_text.proofs.Reading.{IsReading}
use Rattle.cal_holiday_text.proofs.parsing.parse_words.Given as goal

abbrev pub invariant-loop-words : goal.invariant-loop-words
invariant-loop-words l = IsReading l.position l.text l.at l.rule l.words

abbrev pub decreases-loop-words : goal.decreases-loop-words
decreases-loop-words l = length (parts_left 32 l.words)
