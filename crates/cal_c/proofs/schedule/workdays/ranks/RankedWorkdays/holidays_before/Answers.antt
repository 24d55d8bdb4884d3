use Rattle.std.proofs.Common.{◌+◌, ◌-◌, ◌/◌, ◌<◌, arith, length}
use Rattle.cal_schedule.proofs.WorkdaysWeeks.{rises, low-more, high-less}
use Rattle.cal_c.specs.Values.{dates_in}
use Rattle.cal_c.proofs.schedule.workdays.ranks.RankedWorkdays.holidays_before.Goals as goal

pub loop-low-init : goal.loop-low-init
loop-low-init c =
    let count = c.holiday_count-high.ensures in
    record {
      order = omega arith;
      most = omega (arith, count.value);
      before = λ checked j h. absurd (omega arith);
      after = λ checked j most low. absurd (omega (arith, count.length));
    }

pub loop-low-preserved-then-holiday-day : goal.loop-low-preserved-then-holiday-day
loop-low-preserved-then-holiday-day c =
    let days = dates_in c.args.self.now.holidays in
    let middle = c.loop-low.low + (c.loop-low.high - c.loop-low.low) / 2 in
    let low : middle < length days = omega (arith, c.loop-low.invariant.most, c.holiday_count-high.ensures.value, c.holiday_count-high.ensures.length) in
    record {
      order = omega arith;
      most = c.loop-low.invariant.most;
      before = λ checked. low-more days (rises days checked.holidays.rising) middle c.args.day low (omega (arith, c.holiday.ensures checked));
      after = c.loop-low.invariant.after;
    }

pub loop-low-preserved : goal.loop-low-preserved
loop-low-preserved c =
    let days = dates_in c.args.self.now.holidays in
    let middle = c.loop-low.low + (c.loop-low.high - c.loop-low.low) / 2 in
    record {
      order = omega arith;
      most = omega (arith, c.loop-low.invariant.most);
      before = c.loop-low.invariant.before;
      after = λ checked. high-less days (rises days checked.holidays.rising) middle c.args.day (omega (arith, c.holiday.ensures checked));
    }

pub returns-clause-split : goal.returns-clause-split
returns-clause-split c = λ checked. record {
  most = omega (arith, c.loop-low.invariant.most, c.holiday_count-high.ensures.value, c.holiday_count-high.ensures.length);
  before = c.loop-low.invariant.before checked;
  after = λ j most low. c.loop-low.invariant.after checked j (omega arith) low;
}
