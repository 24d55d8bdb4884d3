use Rattle.std.proofs.Common.{◌≡◌, ◌∙◌, ◌-◌, ℕ, ℤ, Ok, ap, arith, sym, subst, ◌↔◌, w32, to_z, of_z}
use Rattle.std.specs.Prelude.{IfOk}
use Rattle.cal_time.specs.Date.{IsDate, IsYear, NoDate}
use Rattle.cal_time.specs.IsoWeekDate.{IsWeek, HasIsoWeekDate}
use Rattle.cal_time.specs.DateErrors.{weekday_out_of_range}
use Rattle.cal_time.specs.Weekday.{index}
use Rattle.cal_time.specs.WeekdayCycle.{index-weekday_of_index}
use Rattle.cal_time.specs.ComponentError.{FailsWith}
use Rattle.cal_time.specs.declared.error.ComponentRange.{ComponentRange}
use Rattle.cal_text.specs.DateForms.{DigitsFit}
use Rattle.cal_text.specs.declared.date_numbers.DateNumbers.{DateNumbers}
use Rattle.cal_text.specs.declared.date_numbers.DateNumbers.TheVariants.{Calendar, Ordinal, Week}
use Rattle.cal_text.specs.Parsing.{IsDateError, IsOnDay}
use Rattle.cal_text.proofs.Errors.{all, last, more}
use Rattle.cal_text.proofs.YearTexts.{written-cast}
use Rattle.cal_text.proofs.date.from_numbers.date_from_numbers.Goals as goal

pub returns-in-Calendar-clause-error : goal.returns-in-Calendar-clause-error
returns-in-Calendar-clause-error c =
    let e = c.calendar_date_from_numbers.ensures in
    let f = c.in-Calendar in
    let P = λ (g : DateNumbers). (why : ComponentRange) → FailsWith why c.calendar_date_from_numbers.result ↔ IsDateError g why in
    let year = written-cast f.year (subst DigitsFit f.is c.requires).0 in
    subst P (sym f.is) (subst (λ y. P (Calendar y f.month f.day)) year (all _ (more _ _ _ e.month (more _ _ _ e.year (last _ _ _ e.day))) e.error_kind))

pub returns-in-Ordinal-clause-error : goal.returns-in-Ordinal-clause-error
returns-in-Ordinal-clause-error c =
    let e = c.from_ordinal_date.ensures in
    let f = c.in-Ordinal in
    let P = λ (g : DateNumbers). (why : ComponentRange) → FailsWith why c.from_ordinal_date.result ↔ IsDateError g why in
    let year = written-cast f.year (subst DigitsFit f.is c.requires).0 in
    subst P (sym f.is) (subst (λ y. P (Ordinal y f.ordinal)) year (all _ (more _ _ _ e.year (last _ _ _ e.ordinal)) e.error_kind))

-- a week date, whose weekday is one by its number
weekday_is : (c : goal.After-from_iso_week_date) → index c.at.result ≡ c.in-Week.weekday - 1
weekday_is c =
    let fits = subst DigitsFit c.in-Week.is c.requires in
    ap index c.at.ensures ∙ index-weekday_of_index (c.in-Week.weekday - 1) (omega (arith, fits.2, fits.3))

year_is : (c : goal.After-from_iso_week_date) → to_z w32 (of_z w32 c.in-Week.year) ≡ c.in-Week.year
year_is c = written-cast c.in-Week.year (subst DigitsFit c.in-Week.is c.requires).0

pub returns-in-Week-clause-every : goal.returns-in-Week-clause-every
returns-in-Week-clause-every c =
    let f = c.in-Week in
    let P = λ (y : ℤ) (p : ℕ). (n : ℕ) → IsDate n → HasIsoWeekDate y f.week p n → c.from_iso_week_date.result ≡ Ok n in
    subst (λ g. (n : ℕ) → IsDate n → IsOnDay g n → c.from_iso_week_date.result ≡ Ok n) (sym f.is)
    (subst (λ y. P y (f.weekday - 1)) (year_is c) (subst (P (to_z w32 (of_z w32 f.year))) (weekday_is c) c.from_iso_week_date.ensures.every))

pub returns-in-Week-clause-value : goal.returns-in-Week-clause-value
returns-in-Week-clause-value c =
    let f = c.in-Week in
    let P = λ (y : ℤ) (p : ℕ). IfOk c.from_iso_week_date.result (λ n. IsDate n × HasIsoWeekDate y f.week p n) in
    subst (λ g. IfOk c.from_iso_week_date.result (λ n. IsDate n × IsOnDay g n)) (sym f.is)
    (subst (λ y. P y (f.weekday - 1)) (year_is c) (subst (P (to_z w32 (of_z w32 f.year))) (weekday_is c) c.from_iso_week_date.ensures.value))

pub returns-in-Week-clause-error : goal.returns-in-Week-clause-error
returns-in-Week-clause-error c =
    let e = c.from_iso_week_date.ensures in
    let f = c.in-Week in
    let here = to_z w32 (of_z w32 f.year) in
    let P = λ (g : DateNumbers). (why : ComponentRange) → FailsWith why c.from_iso_week_date.result ↔ IsDateError g why in
    let weekday = subst (λ p. FailsWith weekday_out_of_range c.from_iso_week_date.result ↔ IsYear here × IsWeek here f.week × NoDate (HasIsoWeekDate here f.week p)) (weekday_is c) e.weekday in
    subst P (sym f.is) (subst (λ y. P (Week y f.week f.weekday)) (year_is c) (all _ (more _ _ _ e.year (more _ _ _ e.week (last _ _ _ weekday))) e.error_kind))
