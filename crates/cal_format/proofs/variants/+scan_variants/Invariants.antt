use Rattle.std.proofs.Common.{length}
use Rattle.cal_format.proofs.variants.+scan_variants.Given as goal

abbrev pub decreases-scan_variants : goal.decreases-scan_variants
decreases-scan_variants l = length l.items.now
