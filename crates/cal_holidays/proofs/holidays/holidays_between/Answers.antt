use Rattle.std.proofs.Common.{length, take, arith}
use Rattle.std.proofs.lemmas.List.{length-take-le}
use Rattle.cal_holidays.proofs.HolidayLists.{no_more}
use Rattle.cal_holidays.proofs.holidays.holidays_between.Goals as goal

pub returns-in-Some-clause-full : goal.returns-in-Some-clause-full
returns-in-Some-clause-full c =
    let most = c.in-Some.ensures.most in
    let few = length-take-le c.in-Some.count c.add_rules.new.days most in (
      (λ e. absurd (cc)),
      (λ more. absurd (no_more c.args.rules.now c.args.first c.args.last (length c.args.days.now) (take c.in-Some.count c.add_rules.new.days) c.in-Some.ensures.value (omega (arith, most, few)) more)),
    )
