use Rattle.std.proofs.Common.{◌≡◌, ◌+◌, ◌-◌, ◌*◌, ◌%◌, sym, ap, subst, arith, to_z, of_z, w32}
use Rattle.std.proofs.lemmas.Int.{ints, to_z-of_z}
use Rattle.cal_date.specs.ClosedForms.{days_before_month_in_part}
use Rattle.cal_date.specs.CountLaws.{years_before, days_of_years-closed}
use Rattle.cal_date.specs.Date.{IsDate, IsYear, IsDayOfMonth, HasCalendarDate}
use Rattle.cal_date.proofs.Calendar.{ordinal_in, IsOrdinal-ordinal_in}
use Rattle.cal_date.proofs.Dates.{IsDate-ordinal_number}
use Rattle.cal_date.proofs.Months.{IsMonth}
use Rattle.cal_date.proofs.MarchYears.{number_with, has_number, marked, march_number}
use Rattle.cal_date.proofs.day_number.from_calendar_date.Goals as goal

pub overflow_add-result : goal.overflow_add-result
overflow_add-result c =
    let is = marked c.args.month c.from-is_early.result c.from-is_early.ensures in
    omega (arith, is.most, days_of_years-closed c.min-years.result)

sum : (c : goal.After-days_of_years) → IsYear c.args.year → IsMonth c.args.month → IsDayOfMonth c.args.year c.args.month c.args.day
    → (c.days_of_years.result + (c.days_before_month_in_part.result + c.from-2.result) + 4294966989) % 4294967296 ≡ number_with c.args.year c.args.month c.args.day
sum c year month day =
    let same : to_z w32 (of_z w32 c.args.year) ≡ c.args.year = to_z-of_z w32 _ c.ranges.year in
    let mark = marked c.args.month c.from-is_early.result c.from-is_early.ensures in
    let count : c.min-years.result + c.from-is_early.result ≡ years_before c.args.year + 1 = omega (arith, ints, same, year.0, year.1, mark.most) in
    let number = march_number c.args.year c.args.month c.args.day c.from-is_early.result c.min-years.result year.0 month day.0 mark count in
    let part : c.from.result + 12 * c.from-is_early.result - 2 ≡ c.args.month + 12 * c.from-is_early.result - 2 = omega arith in
    let most = overflow_add-result c in
    omega (arith, ap days_before_month_in_part part)

pub returns-clause-value : goal.returns-clause-value
returns-clause-value c = λ year month day. subst (HasCalendarDate c.args.year c.args.month c.args.day) (sym (sum c year month day)) (has_number c.args.year c.args.month c.args.day year.0 month day)

pub returns-clause-range : goal.returns-clause-range
returns-clause-range c = λ year month day.
    let same : c.args.month - 1 + 1 ≡ c.args.month = omega (arith, month.0) in
    let ordinal = IsOrdinal-ordinal_in c.args.year (c.args.month - 1) c.args.day year.0 (omega (arith, month.0, month.1)) (subst (λ k. IsDayOfMonth c.args.year k c.args.day) (sym same) day) in
    subst IsDate (sym (sum c year month day)) (IsDate-ordinal_number c.args.year (ordinal_in c.args.year (c.args.month - 1) c.args.day) year ordinal)
