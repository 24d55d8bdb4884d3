use Rattle.cal_c.proofs.OneEvent.{event_set-one}
use Rattle.cal_c.proofs.schedule.events.laws.one_event_set.Goals as goal

pub returns : goal.returns
returns c = event_set-one
