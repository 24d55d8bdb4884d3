use Rattle.std.proofs.Common.{arith}
use Rattle.caldate_lines.proofs.header.report_overlap.Goals as goal

pub returns-clause-words : goal.returns-clause-words
returns-clause-words g c = (_, omega arith, c.write_all.ensures.page)
