-- How far a recurrence is counted, and pages that go on from there.
use Rattle.std.specs.Prelude.{◌≡◌, ℕ, ℤ, pos, List, drop, filter, nat_le, SomeIff, Result, Ok, Err}
use Rattle.cal_recurrence.specs.Cursors.{days_left, resumed_local, resumed_reading, resumed_rule, resumed_zone_rule}
use Rattle.cal_recurrence.specs.Days.{count_or}
use Rattle.cal_recurrence.specs.DateTimeSet.{set_readings_from}
use Rattle.cal_recurrence.specs.declared.date_time_set.DateTimeSet.{DateTimeSet}
use Rattle.cal_recurrence.specs.declared.day_cursor.DayCursor.{DayCursor}
use Rattle.cal_recurrence.specs.declared.fault.ParseRuleError.{ParseRuleError}
use Rattle.cal_recurrence.specs.declared.reading_cursor.ReadingCursor.{ReadingCursor}
use Rattle.cal_recurrence.specs.declared.recurrence.Recurrence.{Recurrence}
use Rattle.cal_recurrence.specs.declared.zoned_set.ZonedSet.{ZonedSet}
use Rattle.cal_schedule.specs.declared.rule.rule.Rule.{Rule}
use Rattle.cal_zone.specs.Timeline.{Timeline}
use Rattle.cal_c.specs.Moments.{local_in, IsMoment}
use Rattle.cal_c.specs.RecurrenceTexts.{error_part, reason_status}
use Rattle.cal_c.specs.Recurrences.{AreDatesWritten}
use Rattle.cal_c.specs.Results.{no_value}
use Rattle.cal_c.specs.Texts.{no_position}
use Rattle.cal_c.specs.TextSets.{AreMomentsWritten, AreReadingsWritten, IsSetOf, IsZonedSetTo}
use Rattle.cal_c.specs.Values.{day_of, IsJulianDay}
use Rattle.cal_c.specs.declared.results.Moment.{Moment}
use Rattle.cal_c.specs.declared.schedule.recurrences.cursor.RecurrenceCursor.{RecurrenceCursor}
use Rattle.cal_c.specs.declared.schedule.recurrences.cursor.RecurrenceCursorResult.{RecurrenceCursorResult}
use Rattle.cal_c.specs.declared.schedule.recurrences.text_set.TextSet.{TextSet}
use Rattle.cal_c.specs.declared.status.TheConstants.{OK}

-- ---- cursors
-- A cursor for which nothing is counted.
abbrev pub first_cursor : ℕ → RecurrenceCursor
first_cursor left = record { date = no_value; left = left; time = 0 }

-- The result with the first cursor of a recurrence: its COUNT is left, or a number that is more than
-- the days of the range.
abbrev pub first_cursor_result : Result Recurrence ParseRuleError → RecurrenceCursorResult
first_cursor_result (Ok its) =
    record { status = OK; part = 0; position = no_position; cursor = first_cursor (count_or 4294967295 its.end) }
first_cursor_result (Err fault) =
    record { status = reason_status fault.reason; part = error_part fault.reason; position = fault.position; cursor = first_cursor 0 }

-- The cursor of days that the numbers mean.
pub record IsDayCursor (c : RecurrenceCursor) (days : DayCursor) : Type 0 where
  pub last : SomeIff days.last (IsJulianDay c.date) (day_of c.date)
  pub left : days.left ≡ c.left

-- The last reading of a cursor, as a moment.
abbrev pub last_moment : RecurrenceCursor → Moment
last_moment c = record { date = c.date; offset = pos 0; time = c.time }

-- The cursor of readings that the numbers mean.
pub record IsReadingCursor (c : RecurrenceCursor) (readings : ReadingCursor) : Type 0 where
  pub last : SomeIff readings.last (IsMoment (last_moment c)) (local_in (last_moment c))
  pub left : readings.left ≡ c.left

-- ---- pages
-- The first days that the cursor c leaves from a date on were written, and the cursor d leaves the
-- others.
pub record IsPage (rule : Rule) (from : ℕ) (c d : RecurrenceCursor) (old new : List ℤ) (count : ℕ) : Type 0 where
  pub counted : DayCursor
  pub is_counted : IsDayCursor c counted
  pub written : AreDatesWritten (filter (nat_le from) (days_left rule counted)) old new count
  pub rest : DayCursor
  pub is_rest : IsDayCursor d rest
  pub others : days_left rule rest ≡ drop count (filter (nat_le from) (days_left rule counted))

-- The first readings of a set from a reading on were written. The rule of the set goes on from the
-- cursor c, and goes on in the same way from d.
pub record IsReadingsPage (its : Recurrence) (p : TextSet) (from : ℤ) (c d : RecurrenceCursor) (old new : List Moment) (count : ℕ) : Type 0 where
  pub counted : ReadingCursor
  pub is_counted : IsReadingCursor c counted
  pub set : DateTimeSet
  pub is_set : IsSetOf its p (resumed_reading its (local_in p.start) counted its.end) set
  pub written : AreReadingsWritten (set_readings_from set from) old new count
  pub rest : ReadingCursor
  pub is_rest : IsReadingCursor d rest
  pub same : resumed_rule its (local_in p.start) rest ≡ resumed_rule its (local_in p.start) counted

-- The first moments of a set in a zone after an instant were written, in the same way.
pub record IsMomentsPage (its : Recurrence) (p : TextSet) (z : Timeline) (after : ℤ) (c d : RecurrenceCursor) (old new : List Moment) (count : ℕ) : Type 0 where
  pub counted : ReadingCursor
  pub is_counted : IsReadingCursor c counted
  pub set : ZonedSet
  pub is_set : IsZonedSetTo its p z (resumed_local its (local_in p.start) counted its.end) set
  pub written : AreMomentsWritten set after old new count
  pub rest : ReadingCursor
  pub is_rest : IsReadingCursor d rest
  pub same : resumed_zone_rule its (local_in p.start) rest ≡ resumed_zone_rule its (local_in p.start) counted
