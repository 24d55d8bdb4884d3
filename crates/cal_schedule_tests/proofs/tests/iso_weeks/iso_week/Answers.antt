use Rattle.cal_schedule_tests.proofs.IsoWeeks.{are_iso_weeks}
use Rattle.cal_schedule_tests.proofs.tests.iso_weeks.iso_week.Goals as goal

pub returns-clause-weeks : goal.returns-clause-weeks
returns-clause-weeks c = are_iso_weeks c.args.date
