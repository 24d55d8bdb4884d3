use Rattle.std.proofs.Common.{◌+◌, ◌*◌, ◌/◌, ◌%◌, ◌∙◌, refl, sym, arith}
use Rattle.cal_time.specs.Time.{second_of}
use Rattle.cal_recurrence.specs.TimesOfDay.{allows_or_start}
use Rattle.cal_recurrence.specs.TimeSearch.{matches_minute, matches_second}
use Rattle.cal_recurrence.proofs.TimeSteps.{NoneBeside, beside-inner, beside-outer, go-on}
use Rattle.cal_recurrence.proofs.TimeTests.{by-minute}
use Rattle.cal_recurrence.proofs.times_of_day.TimesOfDay.next_second.Goals as goal
use Rattle.cal_recurrence.proofs.times_of_day.TimesOfDay.next_second.Goals.{then-matches_minute+in_default, else-matches_minute}

pub returns : goal.returns
returns c =
    let times = c.args.self.now in
    let own = c.args.own in
    let first = c.args.first in
    let beside : NoneBeside (matches_second times own) 60 first (first / 60) = elim c.if-matches_minute.branch [
      | then-matches_minute+in_default w ↦
          beside-inner (matches_second times own) (matches_minute times own) (allows_or_start w.second.result w.as_slice.result.now) 60 (first / 60) (first % 60) first
          (by-minute times own _ _ w.second.ensures w.as_slice.ensures.values) (omega arith) w.in_default.ensures
      | else-matches_minute w ↦
          beside-outer (matches_second times own) (matches_minute times own) (allows_or_start (second_of own) times.seconds) 60 (first / 60) first (by-minute times own _ _ refl refl) (sym c.matches_minute.ensures ∙ w.if-matches_minute.false)
    ] in
    go-on (matches_second times own) 60 (first / 60) first ((first / 60 + 1) * 60) 86400 c.second_from_minute.result (omega arith) beside (omega arith) (omega arith) refl c.second_from_minute.ensures
