use Rattle.std.proofs.Common.{◌∙◌, sym, ap, arith}
use Rattle.std.specs.List.{list_any}
use Rattle.cal_schedule.specs.Rule.{is_month_day, is_year_day}
use Rattle.cal_schedule.proofs.Candidates.{by_month_days, by_weekdays, by_year_days}
use Rattle.cal_schedule.proofs.rule.rule.Rule.days_to_skip.Goals as goal

pub returns-then-not-is_empty-clause-skipped : goal.returns-then-not-is_empty-clause-skipped
returns-then-not-is_empty-clause-skipped c =
    by_year_days c.args.self.now c.args.day c.days_to_year_day.result (sym c.is_empty.ensures ∙ c.if-not-is_empty.true)
    (λ k low high. ap (list_any (is_year_day k)) (sym c.as_slice.ensures.values) ∙ c.days_to_year_day.ensures.skipped k low high)

pub returns-then-not-is_empty-2-clause-skipped : goal.returns-then-not-is_empty-2-clause-skipped
returns-then-not-is_empty-2-clause-skipped c =
    by_month_days c.args.self.now c.args.day c.days_to_month_day.result (sym c.is_empty-2.ensures ∙ c.if-not-is_empty-2.true)
    (λ k low high. ap (list_any (is_month_day k)) (sym c.as_slice-then-not-is_empty-2.ensures.values) ∙ c.days_to_month_day.ensures.skipped k low high)

pub returns-clause-skipped : goal.returns-clause-skipped
returns-clause-skipped c =
    by_weekdays c.args.self.now c.args.day c.from.result (λ k low high. c.days_to_weekday.ensures.skipped k low (omega (arith, high, c.from.ensures)))
