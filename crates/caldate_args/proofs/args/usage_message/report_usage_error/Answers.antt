use Rattle.std.proofs.Common.{◌<◌, length, subst, sym}
use Rattle.caldate_args.proofs.args.usage_message.report_usage_error.Goals as goal

pub returns-clause-words : goal.returns-clause-words
returns-clause-words g c = (
  _,
  subst (λ words. 0 < length words) (sym c.as_bytes.ensures) c.push_usage_message.ensures.some,
  c.write_all.ensures.page,
)
