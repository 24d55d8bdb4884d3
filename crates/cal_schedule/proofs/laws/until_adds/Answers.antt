use Rattle.cal_schedule.proofs.laws.until_adds.Goals as goal

pub returns : goal.returns
returns c =
    let h = c.period_until_by.ensures in
    c.checked_add_period.ensures.value h.no_clock c.args.to c.to_julian_day.ensures.in_range h.leads
