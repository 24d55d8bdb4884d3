use Rattle.cal_format.specs.Form.{HasForm}
use Rattle.caldate_answers.proofs.TextBounds.{bounds_at}
use Rattle.caldate_answers.proofs.scan.bound.bound_by_items.Goals as goal

pub returns-in-Some : goal.returns-in-Some
returns-in-Some c = bounds_at (HasForm c.args.format.now) c.args.bytes.now c.in-Some.at c.in-Some.ensures.position
