use Rattle.std.proofs.Common.{length, subst, sym}
use Rattle.std.specs.Prelude.{◌↔◌, IsNone}
use Rattle.cal_holidays.specs.Holidays.{AreMore, IsHoliday}
use Rattle.cal_holidays.proofs.HolidayLists.{weeks-one}
use Rattle.cal_holidays.proofs.one_answer.workdays_from_rules.Goals as goal

pub returns : goal.returns
returns c =
    let a = c.args in
    let one = c.workdays_from_rules.result in
    let other = c.workdays_from_rules-2.result in
    let also = subst (λ m. IsNone other ↔ AreMore (IsHoliday a.rules.now a.first a.last) m) (sym c.requires) c.workdays_from_rules-2.ensures.full in
    weeks-one a.marks a.rules.now a.first a.last (length a.days.now) one other c.workdays_from_rules.ensures.value c.workdays_from_rules.ensures.full
    c.workdays_from_rules-2.ensures.value also
