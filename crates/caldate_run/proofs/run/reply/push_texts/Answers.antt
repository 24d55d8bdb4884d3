use Rattle.caldate_answers.specs.Scans.{IsScanned}
use Rattle.caldate_run.proofs.Replied.{line_answered}
use Rattle.caldate_run.proofs.run.reply.push_texts.Goals as goal

pub returns-in-Ok-clause-left : goal.returns-in-Ok-clause-left
returns-in-Ok-clause-left c =
    line_answered (IsScanned c.args.filter.now c.args.text.now) c.args.filter.now.on_invalid c.args.text.now c.in-Ok.goes_out c.args.buffer.now c.push_scanned.new.buffer c.in-Ok.ensures.answered
