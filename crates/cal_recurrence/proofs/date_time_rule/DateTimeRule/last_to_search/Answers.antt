use Rattle.std.proofs.Common.{◌+◌, ◌≤ℤ◌, ◌∙◌, pos, sym, arith, subst}
use Rattle.cal_recurrence.specs.ClockSearch.{Repeats}
use Rattle.cal_recurrence.proofs.ClockSearches.{closes, every-day}
use Rattle.cal_recurrence.proofs.date_time_rule.DateTimeRule.last_to_search.Goals as goal

pub returns-in-Some : goal.returns-in-Some
returns-in-Some c =
    closes c.args.self.now c.args.date c.args.first c.in-Some.days (c.from.result + c.in-Some.days) (every-day c.args.self.now (sym c.has_every_day.ensures ∙ c.if-has_every_day.true))
    (subst (λ r. Repeats r.step c.in-Some.days) c.self.view_is c.in-Some.ensures)
    (subst (λ r. pos 0 ≤ℤ r.start) c.self.view_is c.date.ensures.in_range.not_before) c.requires.start c.requires.first
    (omega (arith, c.from.ensures, c.day_number.ensures.value))
