use Rattle.std.proofs.Common.{◌+◌, ◌∙◌, refl, arith, inr}
use Rattle.std.proofs.lemmas.Int.{ints}
use Rattle.cal_time.specs.Date.{last_day}
use Rattle.cal_schedule.specs.Ranks.{count-rises}
use Rattle.cal_schedule.specs.Workdays.{is_marked}
use Rattle.cal_schedule.proofs.WorkdaysWeeks.{marked-nth_of, none-marked}
use Rattle.cal_schedule.proofs.workdays.weekday_marks.WeekdayMarks.nth_marked.Goals as goal

pub returns-then-in_week-eq0 : goal.returns-then-in_week-eq0
returns-then-in_week-eq0 c = inr (omega (arith, ints, none-marked c.args.self.now (omega arith) (last_day + 1)))

pub returns-then-day : goal.returns-then-day
returns-then-day c =
    let at = marked-nth_of c.args.self.now _ _ _ _ (c.from-in_week.ensures ∙ c.marked_in_week.ensures.value) c.nth_index.ensures.marked c.nth_index.ensures.value refl in
    inr (omega (arith, ints, at.1, count-rises (is_marked c.args.self.now) (last_day + 1) _ c.if-day.true))

pub returns : goal.returns
returns c =
    let at = marked-nth_of c.args.self.now _ _ _ _ (c.from-in_week.ensures ∙ c.marked_in_week.ensures.value) c.nth_index.ensures.marked c.nth_index.ensures.value refl in
    record { date = omega arith; passes = at.0; has_rank = omega (arith, ints, at.1) }
