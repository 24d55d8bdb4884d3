-- What is left of a COUNT, of which a cursor says how far it is counted.
use Rattle.std.specs.Prelude.{◌≡◌, ℕ, ℤ, pos, List, [], take, Option, Some, None, MatchOption, unwrap_or}
use Rattle.std.specs.List.{last_or}
use Rattle.cal_schedule.specs.Rule as date
use Rattle.cal_schedule.specs.declared.rule.rule.Rule.{Rule}
use Rattle.cal_recurrence.specs.DateOrTime.{last_reading}
use Rattle.cal_recurrence.specs.DateTimeRule.{date_time_rule, occurrences, occurrences_after, DateTimeParts}
use Rattle.cal_recurrence.specs.declared.day_cursor.DayCursor.{DayCursor}
use Rattle.cal_recurrence.specs.declared.date_or_time.DateOrTime.{DateOrTime}
use Rattle.cal_recurrence.specs.declared.date_or_time.DateOrTime.TheVariants.{Date, Local, Utc}
use Rattle.cal_recurrence.specs.declared.reading_cursor.ReadingCursor.{ReadingCursor}
use Rattle.cal_recurrence.specs.declared.recurrence.Recurrence.{Recurrence}
use Rattle.cal_recurrence.specs.declared.recurrence.RuleEnd.{RuleEnd}
use Rattle.cal_recurrence.specs.declared.recurrence.RuleEnd.TheVariants.{Never, Until, Count}

-- The days of a rule after a day, or all of them.
abbrev pub days_past : Rule → Option ℕ → List ℕ
days_past rule None = date.occurrences rule
days_past rule (Some n) = date.occurrences_after rule n

-- The days of a rule that a cursor leaves: the first ones after the last day that is counted.
abbrev pub days_left : Rule → DayCursor → List ℕ
days_left rule cursor = take cursor.left (days_past rule cursor.last)

-- The readings of a rule after a reading, or all of them.
abbrev pub readings_past : DateTimeParts → Option ℤ → List ℤ
readings_past rule None = occurrences rule
readings_past rule (Some z) = occurrences_after rule z

-- A cursor says how far a rule is counted: to its end, and the readings that are left come after it.
pub record StandsFor (rule : DateTimeParts) (rest : List ℤ) (cursor : ReadingCursor) : Type 0 where
  pub end : MatchOption rule.until (rest ≡ []) (λ z. cursor.last ≡ Some z)
  pub left : rest ≡ take cursor.left (readings_past (record rule { until = None }) cursor.last)

-- The last possible reading of a recurrence, of whose COUNT a cursor says how far it is counted: the
-- last of the readings that it leaves, or else the last one that is counted.
abbrev pub resumed_reading : Recurrence → ℤ → ReadingCursor → RuleEnd → Option ℤ
resumed_reading r start cursor Never = None
resumed_reading r start cursor (Until last) = Some (last_reading last)
resumed_reading r start cursor (Count n) =
    last_or (Some (unwrap_or cursor.last (pos 0))) (take cursor.left (readings_past (date_time_rule start None r.pattern r.times) cursor.last))

-- The rule of the readings of a recurrence to this reading, or in a zone without an UNTIL with `Z`.
abbrev pub resumed_rule : Recurrence → ℤ → ReadingCursor → DateTimeParts
resumed_rule r start cursor = date_time_rule start (resumed_reading r start cursor r.end) r.pattern r.times

abbrev pub resumed_local : Recurrence → ℤ → ReadingCursor → RuleEnd → Option ℤ
resumed_local r start cursor (Until (Utc z)) = None
resumed_local r start cursor end = resumed_reading r start cursor end

abbrev pub resumed_zone_rule : Recurrence → ℤ → ReadingCursor → DateTimeParts
resumed_zone_rule r start cursor = date_time_rule start (resumed_local r start cursor r.end) r.pattern r.times
