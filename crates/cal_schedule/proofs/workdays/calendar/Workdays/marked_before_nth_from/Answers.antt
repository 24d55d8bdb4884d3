use Rattle.std.proofs.Common.{ap, ◌∙◌, refl, arith, get_or}
use Rattle.std.specs.Int.{from_bool}
use Rattle.std.proofs.lemmas.Int.{ints}
use Rattle.cal_time.specs.IsoWeekDate.{count_before}
use Rattle.cal_schedule.specs.Workdays.{is_marked, is_workday}
use Rattle.cal_schedule.specs.Ranks.{count-rises, bit-most}
use Rattle.cal_schedule.proofs.WorkdaysWeeks.{rises, ranks, index-most}
use Rattle.cal_schedule.proofs.WorkdaysSearch.{step, passed-more, left-less}
use Rattle.cal_schedule.proofs.workdays.calendar.Workdays.marked_before_nth_from.Goals as goal

pub loop-index-init : goal.loop-index-init
loop-index-init c =
    let w = c.args.self.now in
    let start = c.holidays_before-start.ensures in
    let from = c.marked_before.ensures.value ∙ ap (λ m. count_before (is_marked m) c.args.from) c.requires.week in
    record {
      number = omega (arith, ints, from, ranks w (rises _ start.rising) _ c.args.from start.split);
      passed = λ j h. omega (arith, ints, count-rises (is_workday w) (get_or w.holidays j 0) c.args.from (omega (arith, start.split.before j h)));
      most = omega (arith, ints, c.marked_before.ensures.max);
      bound = omega (arith, ints, c.marked_before.ensures.max);
    }

pub returns-then-from-before-clause-value : goal.returns-then-from-before-clause-value
returns-then-from-before-clause-value c =
    let w = c.args.self.now in
    let r = rises w.holidays c.holidays_before-start.ensures.rising in
    let index = c.loop-index.index in
    let here = step w _ r c.requires.week index _ _ _ (omega arith) c.holiday-holiday.ensures.value c.marked_before-in-loop-index.ensures.value refl in (
      index,
      record { most = omega arith; before = c.loop-index.invariant.passed; after = left-less w r index _ (omega (arith, ints, here.0, c.loop-index.invariant.number)) },
      omega (arith, ints, c.loop-index.invariant.number),
    )

pub overflow_add-before-in-loop-index : goal.overflow_add-before-in-loop-index
overflow_add-before-in-loop-index c =
    omega (arith, ints, c.loop-index.invariant.number, c.loop-index.invariant.bound, bit-most c.is_marked.result (from_bool c.is_marked.result) refl)

pub loop-index-preserved : goal.loop-index-preserved
loop-index-preserved c =
    let w = c.args.self.now in
    let r = rises w.holidays c.holidays_before-start.ensures.rising in
    let index = c.loop-index.index in
    let kept = c.loop-index.invariant in
    let here = step w _ r c.requires.week index _ _ _ (omega arith) c.holiday-holiday.ensures.value c.marked_before-in-loop-index.ensures.value c.is_marked.ensures in
    let bit = bit-most c.is_marked.result (from_bool c.is_marked.result) refl in
    record {
      number = omega (arith, ints, kept.number, here.1);
      passed = passed-more w r index _ (omega arith) (omega (arith, ints, here.0, kept.number));
      most = omega (arith, ints, kept.most, bit);
      bound = omega (arith, ints, kept.most, bit, index-most w.holidays r index (omega arith), c.holiday-holiday.ensures.value, c.holiday-holiday.ensures.range);
    }

pub returns-clause-value : goal.returns-clause-value
returns-clause-value c = (
  c.loop-index.index,
  record { most = omega arith; before = c.loop-index.invariant.passed; after = λ j low high. absurd (omega arith) },
  omega (arith, ints, c.loop-index.invariant.number),
)

pub returns-clause-max : goal.returns-clause-max
returns-clause-max c = omega (arith, ints, c.loop-index.invariant.bound)
