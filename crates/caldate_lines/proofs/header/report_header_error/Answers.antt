use Rattle.std.proofs.Common.{◌<◌, length, subst, sym}
use Rattle.caldate_lines.proofs.header.report_header_error.Goals as goal

pub returns-clause-words : goal.returns-clause-words
returns-clause-words g c = (
  _,
  subst (λ words. 0 < length words) (sym c.as_bytes.ensures) c.push_header_error.ensures.some,
  c.write_all.ensures.page,
)
