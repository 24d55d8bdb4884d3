use Rattle.cal_c.proofs.zones.until.until_by.Goals as goal

pub returns : goal.returns
returns c = λ order. (c.period_between.result, c.period_between.ensures order, c.ok.ensures)
