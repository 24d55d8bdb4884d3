-- Recurrence sets of date-times: the readings of a rule and of `RDATE`, without the readings of
-- `EXDATE` (RFC 5545).
use Rattle.std.specs.Prelude.{◌+◌, Bool, ◌&&◌, ◌||◌, not, ℤ, unsigned_abs, List, Option}
use Rattle.std.specs.List.{list_any}
use Rattle.std.specs.Ordering.{int_eq}
use Rattle.cal_recurrence.specs.DateTimeRule.{is_occurrence, readings_from, readings_left}
use Rattle.cal_recurrence.specs.declared.date_time_set.DateTimeSet.{DateTimeSet}

-- The reading z is in a list.
abbrev pub is_listed : List ℤ → ℤ → Bool
is_listed readings z = list_any (λ y. int_eq y z) readings

-- The rule has the reading z, or it is one of the other readings.
abbrev pub candidates : DateTimeSet → ℤ → Bool
candidates set z = is_occurrence set.rule z || is_listed set.dates.now z

-- The rule has the reading z, or it is one of the other readings, and it isn't left out.
unfoldable pub is_in_set : DateTimeSet → ℤ → Bool
is_in_set set z = candidates set z && not (is_listed set.exceptions.now z)

-- The readings of the set from the reading z on, in ascending order.
abbrev pub set_readings_from : DateTimeSet → ℤ → List ℤ
set_readings_from set z = readings_from (is_in_set set) (unsigned_abs z)

-- The readings of the set after the reading z, in ascending order.
abbrev pub set_readings_after : DateTimeSet → ℤ → List ℤ
set_readings_after set z = readings_from (is_in_set set) (unsigned_abs z + 1)

-- A reading of the set and the readings after it, or no readings.
abbrev pub set_readings_left : DateTimeSet → Option ℤ → List ℤ
set_readings_left set r = readings_left (is_in_set set) r
