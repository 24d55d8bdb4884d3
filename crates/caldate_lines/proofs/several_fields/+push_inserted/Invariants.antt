use Rattle.std.proofs.Common.{length}
use Rattle.caldate_lines.proofs.several_fields.+push_inserted.Given as goal

abbrev pub decreases-push_inserted : goal.decreases-push_inserted
decreases-push_inserted p = length p.fields.now
