use Rattle.std.proofs.Common.{ltb, ltb-true, ltb-false, arith, rules, subst}
use Rattle.std.proofs.lemmas.List.Sorted.{IsNonDecreasingBy-from_default, IsPartitionPoint-from_clause, IsPartitionedBy-ltb}
use Rattle.cal_schedule.specs.WorkdaysSplit.{IsSplit}
use Rattle.cal_schedule.proofs.WorkdaysWeeks.{rises, high-less}
use Rattle.cal_schedule.proofs.workdays.calendar.Workdays.holidays_before.Goals as goal

pub returns-clause-split : goal.returns-clause-split
returns-clause-split c =
    let days = c.self.inside.holidays.now in
    let up = IsNonDecreasingBy-from_default (λ n. n) days 0 (λ i j le low. high-less days (rises days c.self.invariant) i _ (omega arith) j le low) in
    let point = IsPartitionPoint-from_clause (λ n. ltb n c.args.day) days _ c.partition_point.ensures.partitioned (IsPartitionedBy-ltb (λ n. n) days c.args.day up) (λ a r q k. search rules) in
    subst (λ w. IsSplit w.holidays c.partition_point.result c.args.day) c.self.view_is (record {
      most = c.partition_point.ensures.bound;
      before = λ j less. ltb-true _ _ (point.0 j 0 (omega arith) less);
      after = λ j most low. ltb-false _ _ (point.1 j 0 most low);
    })
