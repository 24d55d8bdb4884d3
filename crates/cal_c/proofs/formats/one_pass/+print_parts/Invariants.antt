use Rattle.std.proofs.Common.{length}
use Rattle.cal_c.proofs.formats.one_pass.+print_parts.Given as goal

abbrev pub decreases-print_parts : goal.decreases-print_parts
decreases-print_parts l = length l.parts.now
