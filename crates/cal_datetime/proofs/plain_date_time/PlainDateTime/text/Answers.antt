use Rattle.cal_datetime.proofs.Texts.{spaced}
use Rattle.cal_datetime.proofs.plain_date_time.PlainDateTime.text.Goals as goal

pub returns-clause-ascii : goal.returns-clause-ascii
returns-clause-ascii c = spaced c.text-text.result c.text.result _ (cc) c.text-text.ensures.ascii c.text.ensures.ascii
