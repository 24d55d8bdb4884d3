use Rattle.cal_c.proofs.UsualFormats.{second-shown}
use Rattle.cal_c.proofs.formats.clocks.scan_second.Goals as goal

pub returns-clause-value : goal.returns-clause-value
returns-clause-value c = second-shown c.args.is_shown _ _ _ c.in_ok-second.second c.if-not-is_shown.false c.in_ok-byte.ensures.value c.in_ok-second.ensures.value
