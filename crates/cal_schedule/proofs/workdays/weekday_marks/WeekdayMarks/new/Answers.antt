use Rattle.std.proofs.Common.{◌≡◌, ◌+◌, refl, sym, ◌∙◌, arith}
use Rattle.std.proofs.lemmas.List.{length-set}
use Rattle.cal_time.specs.IsoWeekDate.{count_before}
use Rattle.cal_schedule.specs.Ranks.{bit-most, count-none, count-most}
use Rattle.cal_schedule.specs.Workdays.{is_marked}
use Rattle.cal_schedule.proofs.WorkdaysWeeks.{mark-next, set-next}
use Rattle.cal_schedule.proofs.workdays.weekday_marks.WeekdayMarks.new.Goals as goal

pub loop-index-init : goal.loop-index-init
loop-index-init c = record {
  length = refl;
  counts = λ i h. let none : i ≡ 0 = omega arith in rw none (sym (count-none (is_marked c.args.marks)));
}

pub overflow_add-marks_before : goal.overflow_add-marks_before
overflow_add-marks_before c =
    omega (arith, c.loop-index.invariant.counts c.loop-index.index (omega arith), count-most (is_marked c.args.marks) c.loop-index.index, bit-most _ _ c.from.ensures)

pub loop-index-preserved : goal.loop-index-preserved
loop-index-preserved c =
    let marks_before = c.loop-index.marks_before in
    let index = c.loop-index.index in
    let kept = c.loop-index.invariant in
    record {
      length = length-set marks_before (index + 1) _ ∙ kept.length;
      counts = set-next (count_before (is_marked c.args.marks)) marks_before index _ (omega (arith, kept.length)) kept.counts
          (mark-next c.args.marks index _ _ _ (omega arith) (kept.counts index (omega arith)) refl c.from.ensures);
    }

pub invariant_of-result : goal.invariant_of-result
invariant_of-result c = λ i most. c.loop-index.invariant.counts i (omega (arith, c.loop-index.auto.index-end, c.loop-index-test.false))
