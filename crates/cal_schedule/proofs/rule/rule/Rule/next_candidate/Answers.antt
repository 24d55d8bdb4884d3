use Rattle.std.proofs.Common.{◌∙◌, sym, arith}
use Rattle.cal_schedule.proofs.Rules.{skip-day, skip-month, skip-week}
use Rattle.cal_schedule.proofs.rule.rule.Rule.next_candidate.Goals as goal

pub returns-then-not-matches_months : goal.returns-then-not-matches_months
returns-then-not-matches_months c =
    skip-month c.args.self.now c.args.day c.next_period.result (sym c.matches_months.ensures ∙ c.if-not-matches_months.true) c.next_period.ensures

pub returns-then-not-matches_weeks : goal.returns-then-not-matches_weeks
returns-then-not-matches_weeks c =
    skip-week c.args.self.now c.args.day c.next_period-then-not-matches_weeks.result (sym c.matches_weeks.ensures ∙ c.if-not-matches_weeks.true) c.next_period-then-not-matches_weeks.ensures

pub returns : goal.returns
returns c =
    let on = c.days_to_skip.ensures in
    skip-day c.args.self.now c.args.day c.days_to_skip.result _ c.date_from_number.result (omega arith) on.min on.skipped c.date_from_number.ensures
