-- The working days that a struct of C holds, or has in the caller's memory.
use Rattle.std.specs.Prelude.{◌≡◌, ℕ, ◌+◌, ◌-◌, ◌<◌, ◌≤◌, Bool, List, take, get_or, length, ℤ, pos, ◌<ℤ◌, Option, IfSome, if◌then◌else◌}
use Rattle.cal_time.specs.Date.{last_day, IsDate}
use Rattle.cal_schedule.specs.Workdays.{WorkWeek, is_workday, nth_workday}
use Rattle.cal_schedule.specs.WorkdaysConvention.{adjusted_date}
use Rattle.cal_schedule.specs.WorkdaysSplit.{marked_count}
use Rattle.cal_schedule.specs.declared.workdays.convention.Convention.{Convention}
use Rattle.cal_c.specs.Results.{date_or_out_of_range, date_error, number_ok, number_error}
use Rattle.cal_c.specs.declared.status.TheConstants.{OK, INVALID_CONVENTION, INVALID_DATE, INVALID_HOLIDAYS, INVALID_WEEKMASK, TOO_MANY_HOLIDAYS}
use Rattle.cal_c.specs.Values.{need◌else◌then◌, IsJulianDay, day_of, max_dates}
use Rattle.cal_c.specs.Weekmasks.{convention_number, work_week, workdays_between, AreHolidays, IsConvention, IsWeekmask}
use Rattle.cal_c.specs.declared.results.DateResult.{DateResult}
use Rattle.cal_c.specs.declared.results.NumberResult.{NumberResult}
use Rattle.cal_c.specs.declared.schedule.workdays.checked_workdays.CheckedWorkdays.{CheckedWorkdays}
use Rattle.cal_c.specs.declared.schedule.workdays.workdays_view.WorkdaysView.{WorkdaysView}

-- ---- holidays
-- The number at an index is the Julian day of a date, and greater than the number before it.
pub record IsNext (hs : List ℤ) (i : ℕ) : Type 0 where
  pub date : IsJulianDay (get_or hs i (pos 0))
  pub after : 0 < i → get_or hs (i - 1) (pos 0) <ℤ get_or hs i (pos 0)

-- ---- a weekmask with holidays, and a number for each index of them and for their end
pub record CountedHolidays : Type 0 where
  pub weekmask : ℕ
  pub holidays : List ℤ
  pub marked_before : List ℕ

abbrev pub counted : ℕ → List ℤ → List ℕ → CountedHolidays
counted weekmask holidays counts = record { weekmask = weekmask; holidays = holidays; marked_before = counts }

-- Those of a struct, and of a view.
abbrev pub counted_in : CheckedWorkdays → CountedHolidays
counted_in c = counted c.weekmask (take c.holidays_length c.holidays) (take (c.holidays_length + 1) c.marked_before)

abbrev pub counted_at : WorkdaysView → CountedHolidays
counted_at v = counted v.weekmask v.holidays.now v.marked_before.now

-- The working week with these holidays.
abbrev pub week_of : CountedHolidays → WorkWeek
week_of c = work_week c.weekmask c.holidays

-- There are at most as many holidays as days in the range, and one place more than holidays.
pub record HavePlaces (holidays places : ℕ) : Type 0 where
  pub most : holidays ≤ last_day + 1
  pub one_more : places ≡ holidays + 1

-- The weekmask is valid, and each index has its number.
pub record HasLimits (c : CountedHolidays) : Type 0 where
  pub weekmask : IsWeekmask c.weekmask
  pub places : HavePlaces (length c.holidays) (length c.marked_before)

-- The holidays are valid, and those with a marked weekday are counted before each index. No call tests
-- this again.
pub record AreCounted (c : CountedHolidays) : Type 0 where
  pub holidays : AreHolidays c.holidays
  pub counts : (i : ℕ) → i ≤ length c.holidays → get_or c.marked_before i 0 ≡ marked_count (week_of c) i

-- ---- a struct that holds the holidays
-- The weekmask and the number of holidays are valid. Each call rejects a struct with invalid ones.
pub record IsValid (c : CheckedWorkdays) : Type 0 where
  pub weekmask : IsWeekmask c.weekmask
  pub length : c.holidays_length ≤ max_dates

-- Its holidays are counted, as in each struct that `fots_workdays_new` returns without an error.
pub record IsChecked (c : CheckedWorkdays) : Type 0 where
  pub limits : IsValid c
  pub counted : AreCounted (counted_in c)

-- ---- results
-- The result is a date of the range, or out of range. This holds for each struct and each view with
-- these limits, also if its holidays aren't counted.
abbrev pub IsSomeDate : DateResult → Type 0
IsSomeDate r = (found : Option ℕ) × IfSome found IsDate × (r ≡ date_or_out_of_range found)

-- A call that takes working days: an error for a struct or a view without valid limits, any result of a
-- kind for one with them, and the result for its working week if its holidays are counted.
pub record IsForWeek (c : CheckedWorkdays) (Error : ℤ → Type 0) (Any : Type 0) (Then : WorkWeek → Type 0) : Type 0 where
  pub invalid_weekmask : (IsWeekmask c.weekmask → ⊥) → Error INVALID_WEEKMASK
  pub too_many_holidays : IsWeekmask c.weekmask → max_dates < c.holidays_length → Error TOO_MANY_HOLIDAYS
  pub any : IsValid c → Any
  pub value : IsChecked c → Then (week_of (counted_in c))

pub record IsForView (v : WorkdaysView) (Error : ℤ → Type 0) (Any : Type 0) (Then : WorkWeek → Type 0) : Type 0 where
  pub invalid_weekmask : (IsWeekmask v.weekmask → ⊥) → Error INVALID_WEEKMASK
  pub invalid_holidays : IsWeekmask v.weekmask → (HasLimits (counted_at v) → ⊥) → Error INVALID_HOLIDAYS
  pub any : HasLimits (counted_at v) → Any
  pub value : HasLimits (counted_at v) → AreCounted (counted_at v) → Then (week_of (counted_at v))

-- The results of asking for a working day, of adding working days, of counting them, and of a move by a
-- convention.
abbrev pub IsAnyBit : ℤ → NumberResult → Type 0
IsAnyBit date r =
    need IsJulianDay date else r ≡ number_error INVALID_DATE then (b : Bool) × (r ≡ number_ok (if b then pos 1 else pos 0))

abbrev pub IsBit : ℤ → NumberResult → WorkWeek → Type 0
IsBit date r w = IsJulianDay date → r ≡ number_ok (if is_workday w (day_of date) then pos 1 else pos 0)

abbrev pub IsDateOrInvalid : ℤ → DateResult → Type 0
IsDateOrInvalid date r = need IsJulianDay date else r ≡ date_error INVALID_DATE then IsSomeDate r

abbrev pub IsDateLater : ℤ → ℤ → DateResult → WorkWeek → Type 0
IsDateLater date days r w = IsJulianDay date → r ≡ date_or_out_of_range (nth_workday w days (day_of date))

abbrev pub IsNumberOrInvalid : ℤ → ℤ → NumberResult → Type 0
IsNumberOrInvalid date other r = need IsJulianDay date × IsJulianDay other else r ≡ number_error INVALID_DATE then r.status ≡ OK

abbrev pub IsNumberBetween : ℤ → ℤ → NumberResult → WorkWeek → Type 0
IsNumberBetween date other r w = IsJulianDay date → IsJulianDay other → r ≡ number_ok (workdays_between w (day_of date) (day_of other))

abbrev pub IsAnyAdjusted : ℤ → ℕ → DateResult → Type 0
IsAnyAdjusted date convention r =
    need IsJulianDay date else r ≡ date_error INVALID_DATE then
    need IsConvention convention else r ≡ date_error INVALID_CONVENTION then IsSomeDate r

abbrev pub IsAdjusted : ℤ → ℕ → DateResult → WorkWeek → Type 0
IsAdjusted date convention r w =
    IsJulianDay date → (c : Convention) → convention_number c ≡ convention → r ≡ date_or_out_of_range (adjusted_date w c (day_of date))

-- The result of `fots_workdays_add`.
abbrev pub IsDateWorkdaysLater : CheckedWorkdays → ℤ → ℤ → DateResult → Type 0
IsDateWorkdaysLater c date days r = IsForWeek c (λ s. r ≡ date_error s) (IsDateOrInvalid date r) (IsDateLater date days r)

-- The result of `fots_workdays_between`.
abbrev pub IsWorkdaysBetween : CheckedWorkdays → ℤ → ℤ → NumberResult → Type 0
IsWorkdaysBetween c date other r = IsForWeek c (λ s. r ≡ number_error s) (IsNumberOrInvalid date other r) (IsNumberBetween date other r)

-- The results of `fots_workdays_view_add` and `fots_workdays_view_between`.
abbrev pub IsDateLaterInView : WorkdaysView → ℤ → ℤ → DateResult → Type 0
IsDateLaterInView v date days r = IsForView v (λ s. r ≡ date_error s) (IsDateOrInvalid date r) (IsDateLater date days r)

abbrev pub IsNumberBetweenInView : WorkdaysView → ℤ → ℤ → NumberResult → Type 0
IsNumberBetweenInView v date other r = IsForView v (λ s. r ≡ number_error s) (IsNumberOrInvalid date other r) (IsNumberBetween date other r)
