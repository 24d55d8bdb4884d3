use Rattle.cal_c.proofs.schedule.pair_periods.period_by_unit.Goals as goal

pub returns : goal.returns
returns c = (c.period_until.result, c.period_until.ensures.value, c.ok.ensures)
