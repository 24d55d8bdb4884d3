use Rattle.std.proofs.Common.{◌≡◌, ◌+◌, ◌-◌, ◌%◌, ◌∙◌, sym, subst, arith, rules, FitsSigned, w32}
use Rattle.std.proofs.lemmas.Int.{to_z-of_z}
use Rattle.cal_date.specs.Date.{HasOrdinalDate}
use Rattle.cal_date.proofs.IsoWeeks.{week_of_thursday}
use Rattle.cal_date.proofs.Weekdays.{weekday_at-is}
use Rattle.cal_date.proofs.day_number.to_iso_week_date.Goals as goal

pub overflow_sub-number : goal.overflow_sub-number
overflow_sub-number c = omega (arith, weekday_at-is c.args.number)

pub from_number-requires : goal.from_number-requires
from_number-requires c = omega (arith, weekday_at-is c.args.number)

pub overflow_add-result : goal.overflow_add-result
overflow_add-result c = omega (arith, weekday_at-is c.args.number)

has : (c : goal.After-div_7) → HasOrdinalDate c.to_ordinal_date-year.result.0 c.to_ordinal_date-year.result.1 (c.args.number - c.args.number % 7 + 3)
has c =
    let thursday : c.from_number.result ≡ c.args.number - c.args.number % 7 + 3 = omega (arith, weekday_at-is c.args.number) in
    subst (HasOrdinalDate c.to_ordinal_date-year.result.0 c.to_ordinal_date-year.result.1) thursday c.to_ordinal_date-year.ensures.value

pub returns-clause-year : goal.returns-clause-year
returns-clause-year c =
    let fits : FitsSigned w32 c.to_ordinal_date-year.result.0 = search rules in
    to_z-of_z w32 c.to_ordinal_date-year.result.0 fits ∙ sym (week_of_thursday c.args.number _ _ (has c)).0

pub returns-clause-week : goal.returns-clause-week
returns-clause-week c = c.div_7.ensures ∙ sym (week_of_thursday c.args.number _ _ (has c)).1

pub returns-clause-weekday : goal.returns-clause-weekday
returns-clause-weekday c = omega (arith, weekday_at-is c.args.number)
