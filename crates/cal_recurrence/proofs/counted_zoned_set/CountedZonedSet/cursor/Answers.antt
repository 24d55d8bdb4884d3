use Rattle.std.proofs.Common.{◌≡◌, ◌∙◌, ap}
use Rattle.cal_recurrence.specs.CountedSet.{whole_rule}
use Rattle.cal_recurrence.specs.declared.zoned_set.ZonedSet.{ZonedSet}
use Rattle.cal_recurrence.proofs.Cursors.{goes_on_in_zone}
use Rattle.cal_recurrence.proofs.counted_zoned_set.CountedZonedSet.cursor.Goals as goal

pub returns : goal.returns
returns c = λ its start a e.
    let rule = c.self.inside.set.readings.rule in
    let left = c.self.inside.left.readings in
    let is : whole_rule rule left ≡ c.args.self.now.readings.rule = ap (λ (s : ZonedSet). s.readings.rule) c.self.view_is in
    goes_on_in_zone its start a c.cursor.result rule left c.cursor.ensures (is ∙ e) ∙ is
