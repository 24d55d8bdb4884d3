use Rattle.std.proofs.Common.{length}
use Rattle.cal_named_format.proofs.parsing.+scan_items.Given as goal

abbrev pub decreases-scan_items : goal.decreases-scan_items
decreases-scan_items l = length l.items.now
