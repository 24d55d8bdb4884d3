use Rattle.std.proofs.Common.{subst, sym}
use Rattle.caldate_lines.specs.Ending.{Says, status_of}
use Rattle.caldate_lines.proofs.ending.report.Goals as goal

pub returns-clause-message : goal.returns-clause-message
returns-clause-message g c = (
  _,
  subst (Says (status_of c.args.outcome.now)) (sym c.as_bytes.ensures) c.push_words.ensures,
  c.write_all.ensures.page,
)
