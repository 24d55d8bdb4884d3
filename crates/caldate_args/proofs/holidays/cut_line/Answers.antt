use Rattle.std.proofs.Common.{◌∙◌, ap}
use Rattle.caldate_lines.specs.Lines.{lines_of}
use Rattle.caldate_args.proofs.HolidayLines.{first_cut, last_cut}
use Rattle.caldate_args.proofs.holidays.cut_line.Goals as goal

pub returns-in-Some-clause-lines : goal.returns-in-Some-clause-lines
returns-in-Some-clause-lines c = let cut = c.in-Some.ensures.parts in ap lines_of cut.1 ∙ first_cut _ _ cut.0

pub returns-in-None-clause-lines : goal.returns-in-None-clause-lines
returns-in-None-clause-lines c = last_cut c.args.bytes.now c.in-None.ensures.parts c.requires
