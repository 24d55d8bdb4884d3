-- The readings of a recurrence: the readings of its rule from a start, or with a COUNT the first of
-- them.
use Rattle.std.specs.Prelude.{ℤ, List, Option, Some, None}
use Rattle.cal_recurrence.specs.DateOrTime.{last_reading}
use Rattle.cal_recurrence.specs.DateTimeRule.{date_time_rule, occurrences}
use Rattle.cal_recurrence.specs.Days.{up_to_end}
use Rattle.cal_recurrence.specs.declared.recurrence.Recurrence.{Recurrence}
use Rattle.cal_recurrence.specs.declared.recurrence.RuleEnd.{RuleEnd}
use Rattle.cal_recurrence.specs.declared.recurrence.RuleEnd.TheVariants.{Never, Until, Count}

-- The last possible reading: the reading of an UNTIL, or `None` without one.
abbrev pub last_reading_of : RuleEnd → Option ℤ
last_reading_of Never = None
last_reading_of (Until last) = Some (last_reading last)
last_reading_of (Count n) = None

-- The readings of a recurrence from a start.
abbrev pub readings_of : Recurrence → ℤ → List ℤ
readings_of r start = up_to_end r.end (occurrences (date_time_rule start (last_reading_of r.end) r.pattern r.times))
