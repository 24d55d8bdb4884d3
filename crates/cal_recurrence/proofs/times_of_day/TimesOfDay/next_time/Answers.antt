use Rattle.std.proofs.Common.{◌+◌, ◌*◌, arith}
use Rattle.cal_time.specs.SignedDuration.{day}
use Rattle.cal_recurrence.specs.TimesOfDay.{matches_time}
use Rattle.cal_recurrence.specs.TimeSearch.{IsFirst, NoneIn}
use Rattle.cal_recurrence.proofs.TimeTests.{no-time, time-found}
use Rattle.cal_recurrence.proofs.times_of_day.TimesOfDay.next_time.Goals as goal

pub returns-in_err-next : goal.returns-in_err-next
returns-in_err-next c =
    let times = c.args.self.now in
    let none : NoneIn (matches_time times c.args.own) c.args.first day =
    no-time times c.args.own c.args.first _ (omega arith) (omega (arith, c.nanosecond-nanosecond.ensures, c.from.ensures)) c.in_err-next.ensures in
    rw c.from_residual.ensures none

pub returns : goal.returns
returns c =
    let times = c.args.self.now in
    let own = c.args.own in
    let nanosecond = c.nanosecond-nanosecond in
    let found : IsFirst (matches_time times own) c.args.first day (c.in_ok-next.next * 1_000_000_000 + nanosecond.result) =
    time-found times own c.args.first _ c.in_ok-next.next _ (omega arith) (omega (arith, nanosecond.ensures, c.from.ensures)) (omega (arith, nanosecond.ensures)) c.in_ok-next.ensures in
    rw c.time_at.ensures found
