use Rattle.std.proofs.Common.{◌/◌, ◌%◌, ◌∙◌, sym, arith}
use Rattle.cal_schedule.specs.Ranks.{count-most}
use Rattle.cal_recurrence.specs.TimesOfDay.{allows_or_start}
use Rattle.cal_recurrence.specs.TimeSearch.{matches_minute, matches_second}
use Rattle.cal_recurrence.proofs.TimeTests.{by-minute, count-parts, count-whole}
use Rattle.cal_recurrence.proofs.times_of_day.TimesOfDay.count_seconds.Goals as goal

pub returns-then-matches_minute-clause-value : goal.returns-then-matches_minute-clause-value
returns-then-matches_minute-clause-value c =
    let end = c.args.end in
    let minutes = matches_minute c.args.self.now c.args.own in
    let seconds = allows_or_start c.second-own_second.result c.as_slice-seconds.result.now in
    let splits = by-minute c.args.self.now c.args.own _ _ c.second-own_second.ensures c.as_slice-seconds.ensures.values in
    count-parts (matches_second c.args.self.now c.args.own) minutes seconds 60 (end / 60) (end % 60) end _ _ _ splits (sym c.matches_minute.ensures ∙ c.if-matches_minute.true) (omega arith) (omega arith)
    c.count_minutes.ensures.value (c.from.ensures ∙ c.count_allowed.ensures.value) (c.from-then-matches_minute.ensures ∙ c.count_allowed-then-matches_minute.ensures.value)

pub returns-then-matches_minute-clause-max : goal.returns-then-matches_minute-clause-max
returns-then-matches_minute-clause-max c =
    omega (arith, returns-then-matches_minute-clause-value c, count-most (matches_second c.args.self.now c.args.own) c.args.end)

pub returns-else-matches_minute-clause-value : goal.returns-else-matches_minute-clause-value
returns-else-matches_minute-clause-value c =
    let end = c.args.end in
    let minutes = matches_minute c.args.self.now c.args.own in
    let seconds = allows_or_start c.second-own_second.result c.as_slice-seconds.result.now in
    let splits = by-minute c.args.self.now c.args.own _ _ c.second-own_second.ensures c.as_slice-seconds.ensures.values in
    count-whole (matches_second c.args.self.now c.args.own) minutes seconds 60 (end / 60) (end % 60) end _ _ splits (sym c.matches_minute.ensures ∙ c.if-matches_minute.false) (omega arith) (omega arith)
    c.count_minutes.ensures.value (c.from.ensures ∙ c.count_allowed.ensures.value)
