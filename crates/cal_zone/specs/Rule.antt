-- The changes that a rule makes each year: on a weekday of a month, by its place (POSIX, TZ:
-- Mm.n.d).
use Rattle.std.specs.Prelude.{ℕ, ◌+◌, ◌-◌, ◌/◌, ◌%◌, ◌≤◌, ◌==◌, Bool, List, filter, map, slice_get, unwrap_or, if◌then◌else◌, ℤ, pos, neg_ℤ, ◌+ℤ◌, ◌-ℤ◌, ◌*ℤ◌, ◌≤ℤ◌}
use Rattle.std.specs.List.{range_with_len}
use Rattle.cal_time.specs.Date.{first_year, last_day}
use Rattle.cal_time.specs.Month.{number}
use Rattle.cal_time.specs.Weekday.{index}
use Rattle.cal_time.specs.Occurrences.{days_from, days_back_from}
use Rattle.cal_schedule.specs.Weekdays.{is_weekday_in_month}
use Rattle.cal_zone.specs.declared.change.Change.{Change}
use Rattle.cal_zone.specs.declared.yearly.Yearly.{Yearly}
use Rattle.cal_zone.specs.Timeline.{IsOffset}

-- The day has the weekday of the change, in its month of a year.
abbrev pub is_on : Yearly → ℤ → ℕ → Bool
is_on r y = is_weekday_in_month (index r.weekday) y (number r.month)

-- The day of the change in a year: the n-th of these days for week n from 1 to 4, or the last one
-- for week 5.
unfoldable pub day_of : Yearly → ℤ → ℕ
day_of r y =
    unwrap_or
    (if r.week == 5 then slice_get (filter (is_on r y) (days_back_from (last_day + 1))) 0
    else slice_get (filter (is_on r y) (days_from 0 (last_day + 1))) (r.week - 1))
    0

-- The number of the day 1970-01-01.
abbrev pub epoch_day : ℤ
epoch_day = pos 365_961_662

-- The Unix time of the change in a year, if clocks are ahead of UTC by the offset `before` until
-- then.
abbrev pub moment : Yearly → ℤ → ℤ → ℤ
moment r before y = ((pos (day_of r y) -ℤ epoch_day) *ℤ pos 86_400 +ℤ r.time) -ℤ before

-- The changes of a rule by index: two each year, from the first year of the range on.
abbrev pub change_of : Yearly → Yearly → ℕ → Change
change_of one other k =
    if k % 2 == 0 then record { at = moment one other.kind.offset (first_year +ℤ pos (k / 2)); kind = one.kind }
    else record { at = moment other one.kind.offset (first_year +ℤ pos (k / 2)); kind = other.kind }

abbrev pub instant_at : Yearly → Yearly → ℕ → ℤ
instant_at one other k = (change_of one other k).at

-- The years of the range have this number of changes. It is not an `abbrev`, so that no proof
-- counts them.
unfoldable pub rule_count : ℕ
rule_count = 3_999_998

-- The changes from an index on.
unfoldable pub changes_from : Yearly → Yearly → ℕ → List Change
changes_from one other k = map (change_of one other) (range_with_len k (rule_count - k))

-- The week is from 1 to 5, the time at most seven days from midnight, and the offset in range.
pub record IsYearly (r : Yearly) : Type 0 where
  pub week : (1 ≤ r.week) × (r.week ≤ 5)
  pub time : (neg_ℤ (pos 604_800) ≤ℤ r.time) × (r.time ≤ℤ pos 604_800)
  pub offset : IsOffset r.kind.offset

-- The two changes are in range, and at least a whole month lies between them, also over the new
-- year.
pub record IsCalm (one other : Yearly) : Type 0 where
  pub first : IsYearly one
  pub second : IsYearly other
  pub apart : number one.month + 2 ≤ number other.month
  pub again : number other.month ≤ number one.month + 10
