use Rattle.std.proofs.Common.{length}
use Rattle.caldate_lines.proofs.several_fields.+renumbered.Given as goal

abbrev pub decreases-renumbered : goal.decreases-renumbered
decreases-renumbered p = length p.fields.now
