use Rattle.std.proofs.Common.{length, subst, sym}
use Rattle.std.specs.Prelude.{◌↔◌, IsNone}
use Rattle.cal_holidays.specs.Holidays.{AreMore, IsHoliday}
use Rattle.cal_holidays.proofs.HolidayLists.{lists-one}
use Rattle.cal_holidays.proofs.one_answer.holidays_between.Goals as goal

pub returns : goal.returns
returns c =
    let a = c.args in
    let one = c.holidays_between.result in
    let other = c.holidays_between-2.result in
    let also = subst (λ m. IsNone other ↔ AreMore (IsHoliday a.rules.now a.first a.last) m) (sym c.requires) c.holidays_between-2.ensures.full in
    lists-one a.rules.now a.first a.last (length a.days.now) one other c.holidays_between.ensures.value c.holidays_between.ensures.full c.holidays_between-2.ensures.value also
