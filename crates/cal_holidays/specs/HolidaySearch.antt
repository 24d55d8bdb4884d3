-- The holidays of one rule, and how far from its year a holiday may be.
use Rattle.std.specs.Prelude.{ℕ, ◌<◌, ◌≤◌, ℤ, pos, ◌+ℤ◌, ◌-ℤ◌, ◌≤ℤ◌, ◌<ℤ◌, List, slice_index_or, unsigned_abs}
use Rattle.cal_time.specs.Date.{IsDate, year_at}
use Rattle.cal_holidays.specs.Holidays.{IsHolidayFor}
use Rattle.cal_holidays.specs.declared.holiday_day.HolidayDay.{HolidayDay}
use Rattle.cal_holidays.specs.declared.holiday_day.HolidayDay.TheVariants.{Fixed, Nth, Last, OnOrAfter, Easter, JulianEaster}
use Rattle.cal_holidays.specs.declared.holiday_rule.HolidayRule.{HolidayRule}

-- No weekday is moved by more than some number of days.
abbrev pub AreMovesWithin : List ℤ → ℕ → Type 0
AreMovesWithin moves most = (i : ℕ) → unsigned_abs (slice_index_or moves i (pos 0)) ≤ most

-- The day is at most some number of days from Easter, if it is counted from it.
abbrev pub IsNearEaster : HolidayDay → ℕ → Type 0
IsNearEaster (Fixed m d) most = Unit {0}
IsNearEaster (Nth m w k) most = Unit {0}
IsNearEaster (Last m w) most = Unit {0}
IsNearEaster (OnOrAfter m d w) most = Unit {0}
IsNearEaster (Easter days) most = unsigned_abs days ≤ most
IsNearEaster (JulianEaster days) most = unsigned_abs days ≤ most

-- The year y is at most r years after the year of a day k that isn't before day n, and at most r
-- years before the year of one that isn't after it.
pub record IsWithinYears (r : ℕ) (y : ℤ) (n k : ℕ) : Type 0 where
  pub before : n ≤ k → y ≤ℤ (year_at k +ℤ pos r)
  pub after : k ≤ n → year_at k ≤ℤ (y +ℤ pos r)

-- Each holiday of the rule is at most r years from its year.
abbrev pub AreWithinYears : HolidayRule → ℕ → Type 0
AreWithinYears rule r = (y : ℤ) (n k : ℕ) → IsHolidayFor rule y n → IsDate k → IsWithinYears r y n k

-- The year with a number, which is positive for each year of the range and near it.
abbrev pub year_of_number : ℕ → ℤ
year_of_number k = pos k -ℤ pos 1_000_100

-- Day n is from one day through another, and the holiday of a rule for the year y.
pub record IsHolidayIn (rule : HolidayRule) (first last : ℕ) (y : ℤ) (n : ℕ) : Type 0 where
  pub from : first ≤ n
  pub through : n ≤ last
  pub is : IsHolidayFor rule y n

-- Day n is from one day through another, and the holiday of a rule for some year.
pub record IsHolidayBy (rule : HolidayRule) (first last n : ℕ) : Type 0 where
  pub year : ℤ
  pub is : IsHolidayIn rule first last year n

-- The years of the holidays of a rule from one day through another have numbers from one number up
-- to another.
pub record IsAmongYears (low high : ℕ) (y : ℤ) : Type 0 where
  pub from : year_of_number low ≤ℤ y
  pub below : y <ℤ year_of_number high

abbrev pub AreAmongYears : HolidayRule → ℕ → ℕ → ℕ → ℕ → Type 0
AreAmongYears rule first last low high = (y : ℤ) (n : ℕ) → IsHolidayIn rule first last y n → IsAmongYears low high y
