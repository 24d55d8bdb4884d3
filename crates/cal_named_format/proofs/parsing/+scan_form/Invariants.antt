use Rattle.std.proofs.Common.{length}
use Rattle.cal_named_format.proofs.parsing.+scan_form.Given as goal

abbrev pub decreases-scan_form : goal.decreases-scan_form
decreases-scan_form l = length l.items.now
