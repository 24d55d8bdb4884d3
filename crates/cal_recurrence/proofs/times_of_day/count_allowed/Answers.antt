use Rattle.std.proofs.Common.{sym, arith}
use Rattle.cal_schedule.specs.Ranks.{bit-most, count-next, count-none}
use Rattle.cal_recurrence.specs.TimesOfDay.{allows_or_start}
use Rattle.cal_recurrence.proofs.times_of_day.count_allowed.Goals as goal

pub loop-value-init : goal.loop-value-init
loop-value-init c = record { count_is = sym (count-none (allows_or_start c.args.own c.args.values.now)); most = omega arith }

pub loop-value-preserved : goal.loop-value-preserved
loop-value-preserved c =
    let test = allows_or_start c.args.own c.args.values.now in
    let at = c.loop-value in
    let next = count-next test at.value c.allows_or_start.result c.from-count.result c.allows_or_start.ensures c.from-count.ensures in
    record {
      count_is = omega (arith, at.invariant.count_is, next);
      most = omega (arith, at.invariant.most, bit-most c.allows_or_start.result c.from-count.result c.from-count.ensures);
    }
