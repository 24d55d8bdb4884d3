use Rattle.std.proofs.Common.{◌+◌, ◌-◌, ◌/◌, ◌<◌, refl, arith, length}
use Rattle.std.proofs.lemmas.Int.{ints, to_z-of_z}
use Rattle.cal_schedule.proofs.WorkdaysWeeks.{rises}
use Rattle.cal_c.specs.CheckedWorkdays.{week_of}
use Rattle.cal_c.specs.Values.{dates_in}
use Rattle.cal_schedule.proofs.WorkdaysSearch.{step, passed-more, left-less}
use Rattle.cal_c.proofs.schedule.workdays.ranks.RankedWorkdays.holidays_passed.Goals as goal

pub loop-low-init : goal.loop-low-init
loop-low-init c =
    let count = c.holiday_count-high.ensures in
    record {
      order = omega arith;
      most = omega (arith, count.value);
      before = λ checked j h. absurd (omega arith);
      after = λ checked j most low. absurd (omega (arith, count.length));
    }

pub loop-low-preserved-then-marked-rank : goal.loop-low-preserved-then-marked-rank
loop-low-preserved-then-marked-rank c =
    let w = week_of c.args.self.now in
    let days = dates_in c.args.self.now.holidays in
    let middle = c.loop-low.low + (c.loop-low.high - c.loop-low.low) / 2 in
    let low : middle < length days = omega (arith, c.loop-low.invariant.most, c.holiday_count-high.ensures.value, c.holiday_count-high.ensures.length) in
    record {
      order = omega arith;
      most = c.loop-low.invariant.most;
      before = λ checked.
          let r = rises days checked.holidays.rising in
          passed-more w r middle _ low (omega (arith, ints, (step w _ r c.week.ensures middle _ _ _ low (c.holiday.ensures checked) c.marked_before.ensures.value refl).0, c.from-marked.ensures, c.marked_holidays.ensures.value checked));
      after = c.loop-low.invariant.after;
    }

pub loop-low-preserved : goal.loop-low-preserved
loop-low-preserved c =
    let w = week_of c.args.self.now in
    let days = dates_in c.args.self.now.holidays in
    let middle = c.loop-low.low + (c.loop-low.high - c.loop-low.low) / 2 in
    let low : middle < length days = omega (arith, c.loop-low.invariant.most, c.holiday_count-high.ensures.value, c.holiday_count-high.ensures.length) in
    record {
      order = omega arith;
      most = omega (arith, c.loop-low.invariant.most);
      before = c.loop-low.invariant.before;
      after = λ checked.
          let r = rises days checked.holidays.rising in
          left-less w r middle _ (omega (arith, ints, (step w _ r c.week.ensures middle _ _ _ low (c.holiday.ensures checked) c.marked_before.ensures.value refl).0, c.from-marked.ensures, c.marked_holidays.ensures.value checked));
    }

pub returns-clause-passed : goal.returns-clause-passed
returns-clause-passed c = λ checked.
    let f = c.ranges.rank in
    let before = simp to_z-of_z at c.loop-low.invariant.before checked in
    let after = simp to_z-of_z at c.loop-low.invariant.after checked in
    record {
      most = omega (arith, c.loop-low.invariant.most, c.holiday_count-high.ensures.value, c.holiday_count-high.ensures.length);
      before = before;
      after = λ j most low. after j (omega arith) low;
    }
