use Rattle.std.proofs.Common.{length}
use Rattle.caldate_lines.proofs.several_fields.+overlap_after.Given as goal

abbrev pub decreases-overlap_after : goal.decreases-overlap_after
decreases-overlap_after p = length p.fields.now
