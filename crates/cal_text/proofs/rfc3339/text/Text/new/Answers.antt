use Rattle.std.proofs.Common.{rules}
use Rattle.cal_text.specs.Rfc3339.{HasMomentText}
use Rattle.cal_text.proofs.PrintedMoments.{printed}
use Rattle.cal_text.proofs.rfc3339.text.Text.new.Goals as goal

pub returns-clause-text : goal.returns-clause-text
returns-clause-text c =
    let has : HasMomentText c.args.moment = search rules in
    rw (c.date-date.ensures.value, c.time-time.ensures.value, c.offset-offset.ensures.value) (printed c.args.moment c.date-date.ensures.in_range has)
