use Rattle.std.proofs.Common.{◌⊎◌, length, take, subst, arith}
use Rattle.std.specs.Prelude.{Contains}
use Rattle.cal_holidays.specs.Holidays.{AreMore}
use Rattle.cal_holidays.specs.HolidaySearch.{IsHolidayBy, IsHolidayIn, year_of_number}
use Rattle.cal_holidays.proofs.HolidayLists.{all_years, are_more-map, by_year, no_years, one_year}
use Rattle.cal_holidays.proofs.holidays.add_rule.Goals as goal

pub returns-in-None-clause-full : goal.returns-in-None-clause-full
returns-in-None-clause-full c =
    let a = c.args in
    let start = take a.count a.days.now in
    let now = take c.loop-year.filled c.loop-year.days in
    let year = c.loop-year.year in
    let more =
    are_more-map (λ n. IsHolidayIn a.rule a.first a.last (year_of_number year) n ⊎ Contains now n) (λ n. IsHolidayBy a.rule a.first a.last n ⊎ Contains start n) (length c.loop-year.days)
    (by_year a.rule a.first a.last c.years_between-low.result.0 year now start c.loop-year.invariant.each) c.in-None.ensures.full in
    subst (λ m. AreMore (λ n. IsHolidayBy a.rule a.first a.last n ⊎ Contains start n) m) c.loop-year.auto.days more

pub loop-year-init : goal.loop-year-init
loop-year-init c = record {
  most = c.requires.most;
  rising = c.requires.rising;
  each = no_years c.args.rule c.args.first c.args.last c.years_between-low.result.0 (take c.args.count c.args.days.now);
}

pub loop-year-preserved : goal.loop-year-preserved
loop-year-preserved c =
    let a = c.args in
    record {
      most = c.in-Some.ensures.most;
      rising = c.in-Some.ensures.rising;
      each = one_year a.rule a.first a.last c.years_between-low.result.0 c.loop-year.year (omega arith) (take c.loop-year.filled c.loop-year.days) (take c.in-Some.more c.add_holiday.new.days)
          (take a.count a.days.now) c.loop-year.invariant.each c.in-Some.ensures.days;
    }

pub returns-clause-days : goal.returns-clause-days
returns-clause-days c =
    let a = c.args in
    all_years a.rule a.first a.last c.years_between-low.result.0 c.years_between-low.result.1 c.loop-year.year c.years_between-low.ensures.value c.loop-year-test.false
    (take c.loop-year.filled c.loop-year.days) (take a.count a.days.now) c.loop-year.invariant.each
