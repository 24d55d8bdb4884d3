use Rattle.caldate_answers.specs.Scans.{IsUsual}
use Rattle.caldate_answers.proofs.TextStarts.{each_text}
use Rattle.caldate_answers.proofs.scan.start.all_usual.Goals as goal

pub returns : goal.returns
returns c = λ on. each_text IsUsual c.args.filter.now c.as_slice.result.now c.as_slice.ensures (c.are_usual.ensures.found on) (c.are_usual.ensures.rejected on)
