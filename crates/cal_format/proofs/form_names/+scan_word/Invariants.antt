use Rattle.std.proofs.Common.{length}
use Rattle.cal_format.proofs.form_names.+scan_word.Given as goal

abbrev pub decreases-scan_word : goal.decreases-scan_word
decreases-scan_word l = length l.word.now
