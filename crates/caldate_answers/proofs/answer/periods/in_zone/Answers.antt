use Rattle.std.proofs.Common.{Some, subst}
use Rattle.cal_datetime.specs.DateTime.{date_time}
use Rattle.cal_zoned.proofs.Firsts.{start-one}
use Rattle.caldate_answers.specs.Periods.{IsInZone}
use Rattle.caldate_answers.proofs.answer.periods.in_zone.Goals as goal

pub returns-in-Date-clause-every : goal.returns-in-Date-clause-every
returns-in-Date-clause-every c = λ m h.
    let own = subst (λ found. IsInZone c.args.zone.now found m) c.in-Date.is h in
    start-one c.args.zone.now (date_time c.in-Date.date 0) c.start_of_day.result (Some m) c.start_of_day.ensures.start own
