use Rattle.std.proofs.Common.{◌≡◌, ◌∙◌, ap}
use Rattle.cal_recurrence.specs.CountedSet.{whole_rule}
use Rattle.cal_recurrence.specs.declared.date_time_set.DateTimeSet.{DateTimeSet}
use Rattle.cal_recurrence.proofs.Cursors.{goes_on}
use Rattle.cal_recurrence.proofs.counted_set.CountedSet.cursor.Goals as goal

pub returns : goal.returns
returns c = λ its start a e.
    let rule = c.self.inside.set.rule in
    let left = c.self.inside.left.readings in
    let is : whole_rule rule left ≡ c.args.self.now.rule = ap (λ (s : DateTimeSet). s.rule) c.self.view_is in
    goes_on its start a c.cursor.result rule left c.cursor.ensures (is ∙ e) ∙ is
