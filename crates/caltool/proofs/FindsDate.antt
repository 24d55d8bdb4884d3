-- The day or the error of a constructor of dates is the day or the reason of the answer.
use Rattle.std.proofs.Common.{◌≡◌, ℕ, ◌⊎◌, Result, Ok, Err, ℤ, inl, inr}
use Rattle.std.specs.Prelude.{IfOk, IfErr, ◌↔◌}
use Rattle.cal_time.specs.declared.error.ComponentRange.{ComponentRange}
use Rattle.cal_time.specs.Date.{IsDate, IsYear, IsOrdinal, IsDayOfMonth, NoDate, HasJulianDay, HasOrdinalDate, HasCalendarDate}
use Rattle.cal_time.specs.IsoWeekDate.{IsWeek, HasIsoWeekDate}
use Rattle.cal_time.specs.declared.Month.{Month}
use Rattle.cal_time.specs.Month.{number}
use Rattle.cal_time.specs.ComponentError.{FailsWith}
use Rattle.cal_time.specs.DateErrors.{year_out_of_range, day_out_of_range, ordinal_out_of_range, week_out_of_range, weekday_out_of_range, julian_day_out_of_range}
use Rattle.caltool.specs.Answers.{day_of_julian_day, day_of_ordinal_date, day_of_calendar_date, day_of_iso_week_date, ordinal_date_refusal, calendar_date_refusal, iso_week_date_refusal}
use Rattle.caltool.specs.FindsDate.{FindsDate}
use Rattle.caltool.proofs.Days.{found, refused, decides_julian_day, decides_ordinal_date, decides_calendar_date, decides_iso_week_date, number-is_month, a_year, not_a_year, a_week, not_a_week}

-- A constructor returns the day of the range with a property, if there is one.
abbrev Every : (ℕ → Type 0) → Result ℕ ComponentRange → Type 0
Every Has r = (n : ℕ) → IsDate n → Has n → r ≡ Ok n

abbrev HasIt : (ℕ → Type 0) → Result ℕ ComponentRange → Type 0
HasIt Has r = IfOk r (λ n. IsDate n × Has n)

pub finds_julian_day : (j : ℤ) (r : Result ℕ ComponentRange) → Every (HasJulianDay j) r → HasIt (HasJulianDay j) r
    → IfErr r (λ e. e ≡ julian_day_out_of_range) → FindsDate (day_of_julian_day j) julian_day_out_of_range r
finds_julian_day j (Ok day) every has reason = found _ _ (decides_julian_day j) day every has
finds_julian_day j (Err error) every has reason = ((refused _ _ (decides_julian_day j) error every).1, reason)

pub finds_ordinal_date : (y : ℤ) (o : ℕ) (r : Result ℕ ComponentRange) → Every (HasOrdinalDate y o) r → HasIt (HasOrdinalDate y o) r
    → IfErr r (λ e. (e ≡ year_out_of_range) ⊎ (e ≡ ordinal_out_of_range))
    → (FailsWith year_out_of_range r ↔ ¬ IsYear y) → (FailsWith ordinal_out_of_range r ↔ IsYear y × ¬ IsOrdinal y o)
    → FindsDate (day_of_ordinal_date y o) (ordinal_date_refusal y) r
finds_ordinal_date y o (Ok day) every has reason year ordinal = found _ _ (decides_ordinal_date y o) day every has
finds_ordinal_date y o (Err error) every has reason year ordinal =
    let why : error ≡ ordinal_date_refusal y = elim reason [
      | inl e ↦ rw (not_a_year y (year.0 e)) e
      | inr e ↦ rw (a_year y (ordinal.0 e).0) e
    ] in
    ((refused _ _ (decides_ordinal_date y o) error every).1, why)

pub finds_calendar_date : (y : ℤ) (month : Month) (d : ℕ) (r : Result ℕ ComponentRange)
    → Every (HasCalendarDate y (number month) d) r → HasIt (HasCalendarDate y (number month) d) r
    → IfErr r (λ e. (e ≡ year_out_of_range) ⊎ (e ≡ day_out_of_range))
    → (FailsWith year_out_of_range r ↔ ¬ IsYear y) → (FailsWith day_out_of_range r ↔ IsYear y × ¬ IsDayOfMonth y (number month) d)
    → FindsDate (day_of_calendar_date y (number month) d) (calendar_date_refusal y (number month)) r
finds_calendar_date y month d (Ok date) every has reason year day =
    rw (number-is_month month) (found _ _ (decides_calendar_date y (number month) d) date every has)
finds_calendar_date y month d (Err error) every has reason year day =
    let none = (refused _ _ (decides_calendar_date y (number month) d) error every).1 in
    let is_month = number-is_month month in
    elim reason [
      | inl e ↦ rw (is_month, not_a_year y (year.0 e)) (none, e)
      | inr e ↦ rw (is_month, a_year y (day.0 e).0) (none, e)
    ]

pub finds_iso_week_date : (y : ℤ) (w wd : ℕ) (r : Result ℕ ComponentRange)
    → Every (HasIsoWeekDate y w wd) r → HasIt (HasIsoWeekDate y w wd) r
    → IfErr r (λ e. (e ≡ year_out_of_range) ⊎ (e ≡ week_out_of_range) ⊎ (e ≡ weekday_out_of_range))
    → (FailsWith year_out_of_range r ↔ ¬ IsYear y) → (FailsWith week_out_of_range r ↔ IsYear y × ¬ IsWeek y w)
    → (FailsWith weekday_out_of_range r ↔ IsYear y × IsWeek y w × NoDate (HasIsoWeekDate y w wd))
    → FindsDate (day_of_iso_week_date y w wd) (iso_week_date_refusal y w) r
finds_iso_week_date y w wd (Ok day) every has reason year week weekday = found _ _ (decides_iso_week_date y w wd) day every has
finds_iso_week_date y w wd (Err error) every has reason year week weekday =
    let why : error ≡ iso_week_date_refusal y w = elim reason [
      | inl e ↦ rw (not_a_year y (year.0 e)) e
      | inr (inl e) ↦ rw (a_year y (week.0 e).0, not_a_week y w (week.0 e).1) e
      | inr (inr e) ↦ rw (a_year y (weekday.0 e).0, a_week y w (weekday.0 e).1) e
    ] in
    ((refused _ _ (decides_iso_week_date y w wd) error every).1, why)
