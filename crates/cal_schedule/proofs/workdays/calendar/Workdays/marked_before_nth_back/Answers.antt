use Rattle.std.proofs.Common.{◌≡◌, ◌+◌, ◌-◌, ap, ◌∙◌, refl, arith, get_or, pos, ◌-ℤ◌, ◌≤ℤ◌}
use Rattle.std.specs.Int.{from_bool}
use Rattle.std.proofs.lemmas.Int.{ints}
use Rattle.cal_time.specs.IsoWeekDate.{count_before}
use Rattle.cal_schedule.specs.Workdays.{is_marked, is_workday}
use Rattle.cal_schedule.specs.WorkdaysSplit.{marked_count}
use Rattle.cal_schedule.specs.Ranks.{count-rises, bit-most}
use Rattle.cal_schedule.proofs.WorkdaysWeeks.{rises, ranks}
use Rattle.cal_schedule.proofs.WorkdaysSearch.{step, passed-more, left-less}
use Rattle.cal_schedule.proofs.workdays.calendar.Workdays.marked_before_nth_back.Goals as goal

pub loop-index-init : goal.loop-index-init
loop-index-init c =
    let w = c.args.self.now in
    let split = c.holidays_before-index.ensures.split in
    let to = c.marked_before.ensures.value ∙ ap (λ m. count_before (is_marked m) c.args.to) c.requires.week in
    record {
      number = omega (arith, ints, to, ranks w (rises _ c.holidays_before-index.ensures.rising) _ c.args.to split);
      within = split.most;
      left = λ j low high. omega (arith, ints, count-rises (is_workday w) c.args.to (get_or w.holidays j 0) (split.after j low high));
      most = omega (arith, ints, c.marked_before.ensures.max);
    }

pub holiday-holiday-requires : goal.holiday-holiday-requires
holiday-holiday-requires c = omega (arith, c.loop-index.invariant.within)

pub overflow_sub-without : goal.overflow_sub-without
overflow_sub-without c = omega (arith, ints, c.loop-index.invariant.number, c.loop-index.invariant.most, bit-most c.is_marked.result (from_bool c.is_marked.result) refl)

pub returns-then-from-without-clause-value : goal.returns-then-from-without-clause-value
returns-then-from-without-clause-value c =
    let w = c.args.self.now in
    let r = rises w.holidays c.holidays_before-index.ensures.rising in
    let index = c.loop-index.index in
    let kept = c.loop-index.invariant in
    let one : index - 1 + 1 ≡ index = omega arith in
    let here = step w _ r c.requires.week (index - 1) _ _ _ (omega (arith, kept.within)) c.holiday-holiday.ensures.value c.marked_before-in-loop-index.ensures.value c.is_marked.ensures in
    let last : pos (count_before (is_workday w) (get_or w.holidays (index - 1) 0)) ≤ℤ (pos (count_before (is_workday w) c.args.to) -ℤ pos (c.args.n + 1)) =
    omega (arith, ints, here.0, here.1, kept.number, ap (marked_count w) one) in (
      index,
      record { most = kept.within; before = λ j h. passed-more w r (index - 1) _ (omega (arith, kept.within)) last j (omega arith); after = kept.left },
      omega (arith, ints, kept.number),
    )

pub returns-then-from-without-clause-max : goal.returns-then-from-without-clause-max
returns-then-from-without-clause-max c = omega (arith, ints, c.loop-index.invariant.most)

pub loop-index-preserved : goal.loop-index-preserved
loop-index-preserved c =
    let w = c.args.self.now in
    let r = rises w.holidays c.holidays_before-index.ensures.rising in
    let index = c.loop-index.index in
    let kept = c.loop-index.invariant in
    let one : index - 1 + 1 ≡ index = omega arith in
    let here = step w _ r c.requires.week (index - 1) _ _ _ (omega (arith, kept.within)) c.holiday-holiday.ensures.value c.marked_before-in-loop-index.ensures.value c.is_marked.ensures in
    record {
      number = omega (arith, ints, kept.number, here.1, ap (marked_count w) one);
      within = omega (arith, kept.within);
      left = left-less w r (index - 1) _ (omega (arith, ints, here.0, here.1, kept.number, ap (marked_count w) one));
      most = omega (arith, ints, kept.number, kept.most, bit-most c.is_marked.result (from_bool c.is_marked.result) refl);
    }

pub returns-clause-value : goal.returns-clause-value
returns-clause-value c = (
  c.loop-index.index,
  record { most = c.loop-index.invariant.within; before = λ j h. absurd (omega arith); after = c.loop-index.invariant.left },
  omega (arith, ints, c.loop-index.invariant.number),
)

pub returns-clause-max : goal.returns-clause-max
returns-clause-max c = omega (arith, ints, c.loop-index.invariant.most)
