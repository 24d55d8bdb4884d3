use Rattle.std.proofs.Common.{length, suc, ◌*◌}
use Rattle.caldate_answers.proofs.reading.readers.+read.Given as goal

abbrev pub decreases-read : goal.decreases-read
decreases-read l = 2 * length l.readers.now

abbrev pub decreases-read_by : goal.decreases-read_by
decreases-read_by l = suc (2 * length l.readers.now)
