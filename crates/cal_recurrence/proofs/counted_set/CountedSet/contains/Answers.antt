use Rattle.std.proofs.Common.{◌∙◌}
use Rattle.cal_recurrence.specs.DateTimeSet.{is_in_set}
use Rattle.cal_recurrence.proofs.DateTimeSets.{is-first, none-first}
use Rattle.cal_recurrence.proofs.counted_set.CountedSet.contains.Goals as goal

pub returns-in-Some-clause-value : goal.returns-in-Some-clause-value
returns-in-Some-clause-value c = c.eq.ensures ∙ is-first (is_in_set c.args.self.now) c.in-Some.first c.args.reading c.date.ensures.in_range c.in-Some.ensures.value

pub returns-in-None-clause-value : goal.returns-in-None-clause-value
returns-in-None-clause-value c = none-first (is_in_set c.args.self.now) c.args.reading c.date.ensures.in_range c.in-None.ensures.value
