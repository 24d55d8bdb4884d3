use Rattle.std.proofs.Common.{◌≡◌, pos, subst, sym}
use Rattle.std.specs.Prelude.{◌+ℤ◌}
use Rattle.cal_time.specs.Date.{IsDate}
use Rattle.cal_time.specs.SignedDuration.{whole_days}
use Rattle.caldate_answers.specs.ClockMoves.{IsDayWith, IsMovedIn}
use Rattle.caldate_answers.proofs.answer.clock_moves.moved_in.Goals as goal

pub returns-in-Days : goal.returns-in-Days
returns-in-Days c =
    let day = subst (λ n. IsDayWith (λ m. IsDate m × (pos m ≡ pos n +ℤ whole_days c.in-Days.duration)) c.days_later.result) c.date-in-Days.ensures c.days_later.ensures in
    subst (λ by. IsMovedIn c.args.policy c.args.workdays.now by c.args.from.now c.on_day-in-Days.result) (sym c.in-Days.is) (c.days_later.result, day, c.on_day-in-Days.ensures)
