use Rattle.std.proofs.Common.{ap, sym, ◌∙◌, arith}
use Rattle.std.specs.Prelude.{◌==◌}
use Rattle.std.proofs.lemmas.Bool.{le-ltb}
use Rattle.cal_schedule.proofs.WorkdaysWeeks.{rises, holiday-is, holiday-past}
use Rattle.cal_schedule.proofs.workdays.calendar.Workdays.is_holiday.Goals as goal

pub returns-then-index-holiday_count : goal.returns-then-index-holiday_count
returns-then-index-holiday_count c =
    ap (λ k. k == c.args.day) c.holiday.ensures.value
    ∙ holiday-is c.args.self.now (rises _ c.holidays_before-index.ensures.rising) c.holidays_before-index.result c.args.day c.holidays_before-index.ensures.split (omega arith)

pub returns-else-index-holiday_count : goal.returns-else-index-holiday_count
returns-else-index-holiday_count c =
    le-ltb c.holidays_before-index.result c.holiday_count.result (omega arith)
    ∙ sym (holiday-past c.args.self.now c.holidays_before-index.result c.args.day c.holidays_before-index.ensures.split (omega arith))
