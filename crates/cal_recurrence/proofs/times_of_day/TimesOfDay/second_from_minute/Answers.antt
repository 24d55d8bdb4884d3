use Rattle.std.proofs.Common.{refl, arith}
use Rattle.cal_recurrence.specs.TimesOfDay.{allows_or_start}
use Rattle.cal_recurrence.specs.TimeSearch.{matches_minute, matches_second}
use Rattle.cal_recurrence.proofs.TimeSteps.{first-later}
use Rattle.cal_recurrence.proofs.TimeTests.{by-minute}
use Rattle.cal_recurrence.proofs.times_of_day.TimesOfDay.second_from_minute.Goals as goal

pub returns : goal.returns
returns c =
    let times = c.args.self.now in
    let own = c.args.own in
    let seconds = allows_or_start c.second.result c.as_slice.result.now in
    first-later (matches_second times own) (matches_minute times own) seconds 60 c.args.first _ 1440 c.in_ok-minute.minute c.in_ok-second.second _ _
    (by-minute times own _ _ c.second.ensures c.as_slice.ensures.values) refl refl (omega (arith, c.from.ensures, c.from-2.ensures)) c.in_ok-minute.ensures c.in_ok-second.ensures
