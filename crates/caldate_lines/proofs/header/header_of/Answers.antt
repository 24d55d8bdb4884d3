use Rattle.std.proofs.Common.{◌∙◌, sym}
use Rattle.caldate_lines.proofs.HeaderNames.{ended_header, unended_header}
use Rattle.caldate_lines.proofs.header.header_of.Goals as goal

pub returns-in-Some : goal.returns-in-Some
returns-in-Some c = c.cut_return.ensures.text ∙ sym (ended_header c.args.field c.args.input.now c.in-Some.line.now c.in-Some._after.now c.in-Some.ensures.parts)

pub returns-in-None : goal.returns-in-None
returns-in-None c = c.cut_return-in-None.ensures.text ∙ sym (unended_header c.args.field c.args.input.now c.in-None.ensures.parts)
