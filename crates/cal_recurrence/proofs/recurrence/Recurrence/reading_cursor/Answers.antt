use Rattle.cal_recurrence.proofs.Cursors.{starts, starts_in_zone}
use Rattle.cal_recurrence.proofs.recurrence.Recurrence.reading_cursor.Goals as goal

pub returns-clause-rule : goal.returns-clause-rule
returns-clause-rule c = λ start. starts c.args.self.now start c.count_or.result c.count_or.ensures

pub returns-clause-zone_rule : goal.returns-clause-zone_rule
returns-clause-zone_rule c = λ start. starts_in_zone c.args.self.now start c.count_or.result c.count_or.ensures
