-- The days, the readings or the instants that the parts of a recurrence set mean (RFC 5545).
use Rattle.std.specs.Prelude.{ℕ, ◌==◌, not, Bool, true, false, ℤ, pos, List, length, filter_map, Option, Some, None, is_some, Result, Ok, Err, if◌then◌else◌}
use Rattle.std.specs.List.{last_or, list_any}
use Rattle.cal_datetime.specs.OffsetDateTime.{LocalAndOffset}
use Rattle.cal_schedule.specs.Pattern.{rule_of}
use Rattle.cal_recurrence.specs.DateOrTime.{date_of, last_reading}
use Rattle.cal_recurrence.specs.DateTimeRule.{date_time_rule, DateTimeParts}
use Rattle.cal_recurrence.specs.Days.{days_of}
use Rattle.cal_recurrence.specs.RecurrenceReadings.{readings_of}
use Rattle.cal_recurrence.specs.SetText.{is_date}
use Rattle.cal_recurrence.specs.declared.date_or_time.DateOrTime.{DateOrTime}
use Rattle.cal_recurrence.specs.declared.date_or_time.DateOrTime.TheVariants.{Date, Local, Utc}
use Rattle.cal_recurrence.specs.declared.recurrence.Recurrence.{Recurrence}
use Rattle.cal_recurrence.specs.declared.recurrence.RuleEnd.{RuleEnd}
use Rattle.cal_recurrence.specs.declared.recurrence.RuleEnd.TheVariants.{Never, Until, Count}
use Rattle.cal_recurrence.specs.declared.set_fault.SetLine.{SetLine}
use Rattle.cal_recurrence.specs.declared.set_fault.SetLine.TheVariants as line
use Rattle.cal_recurrence.specs.declared.set_meaning.SetDays.{SetDays}
use Rattle.cal_recurrence.specs.declared.set_meaning.SetInstants.{SetInstants}
use Rattle.cal_recurrence.specs.declared.set_meaning.SetReadings.{SetReadings}
use Rattle.cal_recurrence.specs.declared.set_parts.SetParts.{SetParts}

-- ---- values
-- The day of a date.
abbrev pub day_of : DateOrTime → Option ℕ
day_of (Date n) = Some n
day_of (Local z) = None
day_of (Utc z) = None

-- The reading of a time with `Z`, or of a time without it.
abbrev pub reading_of : Bool → DateOrTime → Option ℤ
reading_of is_utc (Date n) = None
reading_of is_utc (Local z) = if is_utc then None else Some z
reading_of is_utc (Utc z) = if is_utc then Some z else None

-- The instant of a time with `Z`.
abbrev pub instant_of : DateOrTime → Option LocalAndOffset
instant_of (Date n) = None
instant_of (Local z) = None
instant_of (Utc z) = Some (record { local = z; offset = pos 0 })

-- Each value of a list has a meaning.
abbrev pub all_mean : {X : Type 0} → (DateOrTime → Option X) → List DateOrTime → Bool
all_mean meaning values = length (filter_map meaning values) == length values

-- ---- ends
-- The last possible day of a recurrence from a start: the day of an UNTIL, or the last of the days
-- that a COUNT allows. Without any, it is the first day of the range.
abbrev pub last_counted_day_at : Recurrence → ℕ → RuleEnd → Option ℕ
last_counted_day_at r first Never = None
last_counted_day_at r first (Until last) = Some (date_of last)
last_counted_day_at r first (Count n) = last_or (Some 0) (days_of r first)

abbrev pub last_counted_day : Recurrence → ℕ → Option ℕ
last_counted_day r first = last_counted_day_at r first r.end

-- The last possible reading of a recurrence from a start: the reading of an UNTIL, or the last of
-- the readings that a COUNT allows. Without any, it is the first reading of the range.
abbrev pub last_counted_reading_at : Recurrence → ℤ → RuleEnd → Option ℤ
last_counted_reading_at r start Never = None
last_counted_reading_at r start (Until last) = Some (last_reading last)
last_counted_reading_at r start (Count n) = last_or (Some (pos 0)) (readings_of r start)

abbrev pub last_counted_reading : Recurrence → ℤ → Option ℤ
last_counted_reading r start = last_counted_reading_at r start r.end

-- An UNTIL is a date, or a reading of the same kind as the start: with `Z` or without it.
abbrev pub ends_with : Bool → RuleEnd → Bool
ends_with is_utc Never = true
ends_with is_utc (Until (Date n)) = true
ends_with is_utc (Until (Local z)) = not is_utc
ends_with is_utc (Until (Utc z)) = is_utc
ends_with is_utc (Count n) = true

-- The last possible reading in a zone, which an UNTIL with `Z` isn't, and the last possible instant,
-- which only an UNTIL with `Z` is.
abbrev pub last_local : Recurrence → ℤ → RuleEnd → Option ℤ
last_local r start (Until (Utc z)) = None
last_local r start end = last_counted_reading r start

abbrev pub last_instant : RuleEnd → Option LocalAndOffset
last_instant (Until last) = instant_of last
last_instant end = None

-- The rule of the readings of a recurrence from a start, to the last of them, or in a zone without an
-- UNTIL with `Z`.
abbrev pub counted_rule : Recurrence → ℤ → DateTimeParts
counted_rule r start = date_time_rule start (last_counted_reading r start) r.pattern r.times

abbrev pub zone_rule : Recurrence → ℤ → DateTimeParts
zone_rule r start = date_time_rule start (last_local r start r.end) r.pattern r.times

-- ---- sets
-- The days of a set of dates that starts on day `first`, or the first line with a time of day or with
-- periods within days.
abbrev pub days_starting : SetParts → ℕ → Result SetDays SetLine
days_starting p first =
    if is_some p.recurrence.times.clock then Err line.Rule else
    if not (all_mean day_of p.dates) then Err line.Dates else
    if not (all_mean day_of p.exceptions) then Err line.Exceptions else
    Ok (record {
      rule = rule_of p.recurrence.pattern first (last_counted_day p.recurrence first);
      dates = filter_map day_of p.dates;
      exceptions = filter_map day_of p.exceptions;
    })

abbrev pub set_days_at : SetParts → DateOrTime → Result SetDays SetLine
set_days_at p (Date n) = days_starting p n
set_days_at p (Local z) = Err line.Start
set_days_at p (Utc z) = Err line.Start

abbrev pub set_days : SetParts → Result SetDays SetLine
set_days p = set_days_at p p.start

-- The readings of a set of times that starts at a reading, all with `Z` or all without it, or the
-- first line with another value.
abbrev pub readings_starting : SetParts → Bool → ℤ → Result SetReadings SetLine
readings_starting p is_utc start =
    if not (ends_with is_utc p.recurrence.end) then Err line.Rule else
    if not (all_mean (reading_of is_utc) p.dates) then Err line.Dates else
    if not (all_mean (reading_of is_utc) p.exceptions) then Err line.Exceptions else
    Ok (record {
      start = start;
      recurrence = p.recurrence;
      dates = filter_map (reading_of is_utc) p.dates;
      exceptions = filter_map (reading_of is_utc) p.exceptions;
    })

abbrev pub set_readings_at : SetParts → DateOrTime → Result SetReadings SetLine
set_readings_at p (Date n) = Err line.Start
set_readings_at p (Local z) = readings_starting p false z
set_readings_at p (Utc z) = readings_starting p true z

abbrev pub set_readings : SetParts → Result SetReadings SetLine
set_readings p = set_readings_at p p.start

-- The readings and the instants of a set that starts at a reading of a zone, or the first line with a
-- date.
abbrev pub instants_starting : SetParts → ℤ → Result SetInstants SetLine
instants_starting p start =
    if list_any is_date p.dates then Err line.Dates else
    if list_any is_date p.exceptions then Err line.Exceptions else
    Ok (record {
      readings = record {
        start = start;
        recurrence = p.recurrence;
        dates = filter_map (reading_of false) p.dates;
        exceptions = filter_map (reading_of false) p.exceptions;
      };
      instants = filter_map instant_of p.dates;
      exceptions = filter_map instant_of p.exceptions;
    })

abbrev pub set_instants_at : SetParts → DateOrTime → Result SetInstants SetLine
set_instants_at p (Date n) = Err line.Start
set_instants_at p (Local z) = instants_starting p z
set_instants_at p (Utc z) = Err line.Start

abbrev pub set_instants : SetParts → Result SetInstants SetLine
set_instants p = set_instants_at p p.start
