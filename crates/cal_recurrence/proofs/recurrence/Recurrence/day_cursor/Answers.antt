use Rattle.cal_recurrence.proofs.Cursors.{all_days}
use Rattle.cal_recurrence.proofs.recurrence.Recurrence.day_cursor.Goals as goal

pub returns : goal.returns
returns c = λ start. all_days c.args.self.now start c.count_or.result c.count_or.ensures
