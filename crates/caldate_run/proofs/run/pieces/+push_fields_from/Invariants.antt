use Rattle.std.proofs.Common.{length}
use Rattle.caldate_run.proofs.run.pieces.+push_fields_from.Given as goal

abbrev pub decreases-push_fields_from : goal.decreases-push_fields_from
decreases-push_fields_from p = length p.fields.now
