use Rattle.std.proofs.Common.{◌/◌, ◌%◌, ◌∙◌, sym, arith}
use Rattle.cal_recurrence.specs.TimesOfDay.{allows_or_start}
use Rattle.cal_recurrence.specs.TimeSearch.{matches_minute}
use Rattle.cal_recurrence.proofs.TimeTests.{by-hour, count-parts, count-whole}
use Rattle.cal_recurrence.proofs.times_of_day.TimesOfDay.count_minutes.Goals as goal

pub returns-then-allows_or_start-clause-value : goal.returns-then-allows_or_start-clause-value
returns-then-allows_or_start-clause-value c =
    let end = c.args.end in
    let hours = allows_or_start c.hour-own_hour.result c.as_slice-hours.result.now in
    let minutes = allows_or_start c.minute-own_minute.result c.as_slice-minutes.result.now in
    let splits = by-hour c.args.self.now c.args.own _ _ _ _ c.hour-own_hour.ensures.value c.as_slice-hours.ensures.values c.minute-own_minute.ensures c.as_slice-minutes.ensures.values in
    count-parts (matches_minute c.args.self.now c.args.own) hours minutes 60 (end / 60) (end % 60) end _ _ _ splits (sym c.allows_or_start.ensures ∙ c.if-allows_or_start.true) (omega arith) (omega arith)
    (c.from.ensures ∙ c.count_allowed.ensures.value) (c.from-2.ensures ∙ c.count_allowed-2.ensures.value)
    (c.from-then-allows_or_start.ensures ∙ c.count_allowed-then-allows_or_start.ensures.value)

pub returns-else-allows_or_start-clause-value : goal.returns-else-allows_or_start-clause-value
returns-else-allows_or_start-clause-value c =
    let end = c.args.end in
    let hours = allows_or_start c.hour-own_hour.result c.as_slice-hours.result.now in
    let minutes = allows_or_start c.minute-own_minute.result c.as_slice-minutes.result.now in
    let splits = by-hour c.args.self.now c.args.own _ _ _ _ c.hour-own_hour.ensures.value c.as_slice-hours.ensures.values c.minute-own_minute.ensures c.as_slice-minutes.ensures.values in
    count-whole (matches_minute c.args.self.now c.args.own) hours minutes 60 (end / 60) (end % 60) end _ _ splits (sym c.allows_or_start.ensures ∙ c.if-allows_or_start.false) (omega arith) (omega arith)
    (c.from.ensures ∙ c.count_allowed.ensures.value) (c.from-2.ensures ∙ c.count_allowed-2.ensures.value)
