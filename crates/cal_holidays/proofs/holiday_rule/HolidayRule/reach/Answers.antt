use Rattle.cal_holidays.proofs.HolidayYears.{far_reach-is, reach-is}
use Rattle.cal_holidays.proofs.holiday_rule.HolidayRule.reach.Goals as goal

pub returns-in-JulianEaster-clause-value : goal.returns-in-JulianEaster-clause-value
returns-in-JulianEaster-clause-value c =
    far_reach-is c.args.self c.most_from_easter-from_easter.result c.most_moved-moved.result c.in-JulianEaster.field-0 c.most_from_easter-from_easter.type_inv c.most_moved-moved.type_inv
    c.in-JulianEaster.is c.most_from_easter-from_easter.ensures c.most_moved-moved.ensures

pub returns-in_default-clause-value : goal.returns-in_default-clause-value
returns-in_default-clause-value c =
    reach-is c.args.self c.most_from_easter-from_easter.result c.most_moved-moved.result c.most_from_easter-from_easter.type_inv c.most_moved-moved.type_inv c.in_default.not-JulianEaster
    c.most_from_easter-from_easter.ensures c.most_moved-moved.ensures
