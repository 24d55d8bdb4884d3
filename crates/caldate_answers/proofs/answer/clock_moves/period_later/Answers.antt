use Rattle.std.proofs.Common.{subst}
use Rattle.cal_time.specs.Date.{IsDate}
use Rattle.cal_schedule.specs.Period.{IsDaysLater, days_of, months_of}
use Rattle.caldate_answers.specs.ClockMoves.{IsDayWith}
use Rattle.caldate_answers.proofs.ClockMoves.{day_with}
use Rattle.caldate_answers.proofs.answer.clock_moves.period_later.Goals as goal

pub returns : goal.returns
returns c =
    let months = months_of c.args.period in
    let days = days_of c.args.period in
    let day = day_with c.date.result months days c.date_after.result c.date_after.ensures.every c.date_after.ensures.value in
    (c.date_after.result, subst (λ n. IsDayWith (λ k. IsDate k × IsDaysLater n months days k) c.date_after.result) c.date.ensures day, c.checked_add_period.ensures)
