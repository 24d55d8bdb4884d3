use Rattle.std.proofs.Common.{ap, ◌∙◌, arith}
use Rattle.cal_schedule.specs.Workdays.{is_marked}
use Rattle.cal_schedule.specs.Ranks.{count-rises, bit-most}
use Rattle.cal_schedule.proofs.WorkdaysWeeks.{rises, index-most, held-next}
use Rattle.cal_schedule.proofs.WorkdaysSearch.{split-order, count-within}
use Rattle.cal_schedule.proofs.workdays.calendar.Workdays.count_workdays.Goals as goal

pub overflow_add-held : goal.overflow_add-held
overflow_add-held c =
    let start = c.holidays_before-start.ensures in
    let end = c.holidays_before-end.ensures in
    let places = index-most c.args.self.now.holidays (rises _ start.rising) c.loop-index.index (omega (arith, end.split.most)) in
    omega (arith, bit-most _ _ c.from-held.ensures)

pub loop-index-preserved : goal.loop-index-preserved
loop-index-preserved c =
    let w = c.args.self.now in
    let mark = c.is_marked.ensures ∙ ap (λ m. is_marked m c.holiday.result) c.week-week.ensures.value ∙ ap (is_marked w.marks) c.holiday.ensures.value in
    record {
      number = omega (arith, held-next w c.loop-index.index _ _ (omega (arith, c.holidays_before-end.ensures.split.most)) mark c.from-held.ensures);
      most = omega (arith, bit-most _ _ c.from-held.ensures);
    }

pub overflow_sub-result : goal.overflow_sub-result
overflow_sub-result c = omega (arith, count-rises (is_marked c.week-week.result) c.args.from c.args.to c.requires)

pub overflow_sub-result-2 : goal.overflow_sub-result-2
overflow_sub-result-2 c =
    let start = c.holidays_before-start.ensures in
    let end = c.holidays_before-end.ensures in
    let order = split-order c.args.self.now c.holidays_before-start.result c.holidays_before-end.result c.args.from c.args.to c.requires start.split end.split in
    omega (arith, count-within c.args.self.now _ (rises _ start.rising) c.week-week.ensures.value _ _ _ c.args.from c.args.to _ c.requires start.split end.split c.loop-index.invariant.number (omega arith))

pub returns-clause-value : goal.returns-clause-value
returns-clause-value c =
    let start = c.holidays_before-start.ensures in
    let end = c.holidays_before-end.ensures in
    let order = split-order c.args.self.now c.holidays_before-start.result c.holidays_before-end.result c.args.from c.args.to c.requires start.split end.split in
    omega (arith, count-within c.args.self.now _ (rises _ start.rising) c.week-week.ensures.value _ _ _ c.args.from c.args.to _ c.requires start.split end.split c.loop-index.invariant.number (omega arith))
