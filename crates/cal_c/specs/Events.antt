-- Events of calendar files: where they are, and the days, readings and moments of their sets.
use denote.Ref.{Bor}
use Rattle.std.specs.Prelude.{◌≡◌, ℕ, ◌+◌, ◌-◌, ◌/◌, ◌<◌, ◌≤◌, ℤ, pos, List, ◌++◌, drop, length, Option, Some, None, Result, Ok, Err}
use Rattle.cal_time.specs.Date.{julian_day_at}
use Rattle.cal_datetime.specs.DateTime.{date_at, time_at}
use Rattle.cal_datetime.specs.OffsetDateTime.{instant}
use Rattle.cal_ics.specs.declared.event.Event.{Event}
use Rattle.cal_ics.specs.declared.event_error.ParseEventError.{ParseEventError}
use Rattle.cal_ics.specs.declared.event_error.ParseEventErrorKind.{ParseEventErrorKind}
use Rattle.cal_ics.specs.declared.event_error.ParseEventErrorKind.TheVariants.{Unclosed, OtherEnd}
use Rattle.cal_recurrence.specs.DateTimeSet.{set_readings_from}
use Rattle.cal_recurrence.specs.SetMeaning.{counted_rule, last_instant, set_days, set_instants, set_readings, zone_rule}
use Rattle.cal_recurrence.specs.Sets.{set_days_from}
use Rattle.cal_recurrence.specs.declared.date_or_time.DateOrTime.{DateOrTime}
use Rattle.cal_recurrence.specs.declared.date_or_time.DateOrTime.TheVariants.{Date, Local, Utc}
use Rattle.cal_recurrence.specs.declared.date_time_set.DateTimeSet.{DateTimeSet}
use Rattle.cal_recurrence.specs.declared.set.RecurrenceSet.{RecurrenceSet}
use Rattle.cal_recurrence.specs.declared.set_fault.ParseSetError.{ParseSetError}
use Rattle.cal_recurrence.specs.declared.set_fault.ParseSetErrorKind.{ParseSetErrorKind}
use Rattle.cal_recurrence.specs.declared.set_fault.ParseSetErrorKind.TheVariants.{Unknown, Twice, TooMany, Value, OtherZone, Rule, Missing}
use Rattle.cal_recurrence.specs.declared.set_fault.SetLine.{SetLine}
use Rattle.cal_recurrence.specs.declared.set_fault.SetLine.TheVariants as line
use Rattle.cal_recurrence.specs.declared.set_meaning.SetDays.{SetDays}
use Rattle.cal_recurrence.specs.declared.set_meaning.SetInstants.{SetInstants}
use Rattle.cal_recurrence.specs.declared.set_meaning.SetReadings.{SetReadings}
use Rattle.cal_recurrence.specs.declared.set_parts.SetParts.{SetParts}
use Rattle.cal_recurrence.specs.declared.zoned_set.ZonedSet.{ZonedSet}
use Rattle.cal_zone.specs.Timeline.{Timeline}
use Rattle.cal_c.specs.Moments.{local_and_offset_in, local_in, IsMoment}
use Rattle.cal_c.specs.RecurrenceTexts.{reason_status}
use Rattle.cal_c.specs.Recurrences.{AreDatesWritten}
use Rattle.cal_c.specs.Results.{no_value}
use Rattle.cal_c.specs.TextSets.{AreMomentsWritten, AreReadingsWritten, IsZoneOf}
use Rattle.cal_c.specs.Texts.{no_position}
use Rattle.cal_c.specs.Values.{day_of, IsJulianDay}
use Rattle.cal_c.specs.declared.results.Moment.{Moment}
use Rattle.cal_c.specs.declared.schedule.events.finding.EventResult.{EventResult}
use Rattle.cal_c.specs.declared.schedule.events.results.EventSetResult.{EventSetResult}
use Rattle.cal_c.specs.declared.schedule.events.start.EventStartResult.{EventStartResult}
use Rattle.cal_c.specs.declared.status.TheConstants.{OK, BUFFER_TOO_SHORT, RESULT_OUT_OF_RANGE, UNKNOWN_PART, DUPLICATE_PART, TOO_MANY_VALUES, INVALID_DATE, INVALID_MOMENT, INVALID_VALUE, INVALID_ZONE, MISSING_START, UNCLOSED_EVENT, OTHER_END, OTHER_ZONE, WRONG_KIND}

-- ---- folds
-- Bytes that are always enough for a text of n bytes with its folds. Each fold has 3 bytes, and at
-- least 74 bytes of the text are between two.
abbrev pub room_to_fold : ℕ → ℕ
room_to_fold n = n + n / 24

-- ---- the events of a text
-- The status of an event without the right end.
abbrev pub event_status : ParseEventErrorKind → ℤ
event_status Unclosed = UNCLOSED_EVENT
event_status OtherEnd = OTHER_END

-- The result without an event.
abbrev pub no_event : ℤ → ℕ → EventResult
no_event s position = record { status = s; unused = 0; position = position; length = 0; next = no_position }

-- The position after an event, in a text of `size` bytes, from the bytes after it.
abbrev pub end_of_event : ℕ → Option (Bor (List ℕ)) → ℕ
end_of_event size None = size
end_of_event size (Some rest) = size - length rest.now

-- The result with the first event of a text of `size` bytes.
abbrev pub found_event : ℕ → Result (Option Event) ParseEventError → EventResult
found_event size (Ok None) = no_event RESULT_OUT_OF_RANGE no_position
found_event size (Ok (Some e)) = record { status = OK; unused = 0; position = e.position; length = length e.lines.now; next = end_of_event size e.rest }
found_event size (Err e) = no_event (event_status e.reason) e.position

-- ---- the first wrong line of a set
-- Lines are numbered from 1, `DTSTART`, to 4, `EXDATE`.
abbrev pub line_number : SetLine → ℕ
line_number line.Start = 1
line_number line.Rule = 2
line_number line.Dates = 3
line_number line.Exceptions = 4

-- The status of a reason.
abbrev pub set_error_status : ParseSetErrorKind → ℤ
set_error_status Unknown = UNKNOWN_PART
set_error_status (Twice its) = DUPLICATE_PART
set_error_status (TooMany its) = TOO_MANY_VALUES
set_error_status (Value its) = INVALID_VALUE
set_error_status (OtherZone its) = OTHER_ZONE
set_error_status (Rule fault) = reason_status fault.reason
set_error_status Missing = MISSING_START

-- The number of the line of a reason, or 0.
abbrev pub error_line : ParseSetErrorKind → ℕ
error_line Unknown = 0
error_line (Twice its) = line_number its
error_line (TooMany its) = line_number its
error_line (Value its) = line_number its
error_line (OtherZone its) = line_number its
error_line (Rule fault) = line_number line.Rule
error_line Missing = 0

-- ---- results
-- The result with a number of values written.
abbrev pub event_ok : ℕ → EventSetResult
event_ok count = record { status = OK; line = 0; length = count; position = no_position }

-- The result with an error outside the lines.
abbrev pub event_error : ℤ → EventSetResult
event_error s = record { status = s; line = 0; length = 0; position = no_position }

-- The result with a line that has a value of another kind.
abbrev pub event_line_error : SetLine → EventSetResult
event_line_error its = record { status = WRONG_KIND; line = line_number its; length = 0; position = no_position }

-- The result with the first wrong line.
abbrev pub event_parse_error : ParseSetError → EventSetResult
event_parse_error error = record { status = set_error_status error.reason; line = error_line error.reason; length = 0; position = error.position }

-- ---- the text of a set
-- The text is at the front of the buffer, and the bytes after it stay as they are, or the buffer is
-- too short; then its bytes can be anything.
pub record IsSetTextWritten (text old new : List ℕ) (r : EventSetResult) : Type 0 where
  pub buffer_too_short : length old < length text → r ≡ event_error BUFFER_TOO_SHORT
  pub length_is : length text ≤ length old → r ≡ event_ok (length text)
  pub text_is : length text ≤ length old → new ≡ text ++ drop (length text) old

-- ---- the start
-- The result with a day and a time of day at the offset 0. A date has the kind 1, a local time 2, and a
-- time in UTC 3.
abbrev pub start_at : ℕ → ℕ → ℕ → EventStartResult
start_at n time kind = record { status = OK; line = 0; position = no_position; date = julian_day_at n; offset = pos 0; time = time; kind = kind; unused = 0 }

-- The result with a start. A date is its midnight.
abbrev pub event_start_ok : DateOrTime → EventStartResult
event_start_ok (Date n) = start_at n 0 1
event_start_ok (Local z) = start_at (date_at z) (time_at z) 2
event_start_ok (Utc z) = start_at (date_at z) (time_at z) 3

-- The result with the first wrong line.
abbrev pub event_start_error : ParseSetError → EventStartResult
event_start_error error = record {
  status = set_error_status error.reason;
  line = error_line error.reason;
  position = error.position;
  date = no_value;
  offset = no_value;
  time = 18_446_744_073_709_551_615;
  kind = 0;
  unused = 0;
}

-- ---- days
-- The set has the rule and the lists of the days.
pub record IsDaySet (its : SetDays) (set : RecurrenceSet) : Type 0 where
  pub rule : set.rule ≡ its.rule
  pub dates : set.dates.now ≡ its.dates
  pub exceptions : set.exceptions.now ≡ its.exceptions

-- The days of a set from a date on are written, as many as fit, or the array stays as it is.
pub record AreEventDays (p : SetParts) (from : ℤ) (old new : List ℤ) (r : EventSetResult) : Type 0 where
  pub invalid_date : ¬ IsJulianDay from → (r ≡ event_error INVALID_DATE) × (new ≡ old)
  pub wrong_kind : IsJulianDay from → (its : SetLine) → set_days p ≡ Err its → (r ≡ event_line_error its) × (new ≡ old)
  pub value : IsJulianDay from → (its : SetDays) → set_days p ≡ Ok its
      → (r ≡ event_ok r.length) × ((set : RecurrenceSet) × IsDaySet its set × AreDatesWritten (set_days_from set (day_of from)) old new r.length)

-- ---- readings
-- The set has the recurrence and the lists of the readings.
pub record IsReadingSet (its : SetReadings) (set : DateTimeSet) : Type 0 where
  pub rule : set.rule ≡ counted_rule its.recurrence its.start
  pub dates : set.dates.now ≡ its.dates
  pub exceptions : set.exceptions.now ≡ its.exceptions

-- The readings of a set from a reading on are written, as many as fit, or the array stays as it is.
pub record AreEventReadings (p : SetParts) (from : Moment) (old new : List Moment) (r : EventSetResult) : Type 0 where
  pub invalid_moment : ¬ IsMoment from → (r ≡ event_error INVALID_MOMENT) × (new ≡ old)
  pub wrong_kind : IsMoment from → (its : SetLine) → set_readings p ≡ Err its → (r ≡ event_line_error its) × (new ≡ old)
  pub value : IsMoment from → (its : SetReadings) → set_readings p ≡ Ok its
      → (r ≡ event_ok r.length) × ((set : DateTimeSet) × IsReadingSet its set × AreReadingsWritten (set_readings_from set (local_in from)) old new r.length)

-- ---- moments
-- The set has the readings and the instants in this zone.
pub record IsInstantSet (its : SetInstants) (z : Timeline) (set : ZonedSet) : Type 0 where
  pub zone : set.zone.now ≡ z
  pub rule : set.readings.rule ≡ zone_rule its.readings.recurrence its.readings.start
  pub dates : set.readings.dates.now ≡ its.readings.dates
  pub without : set.readings.exceptions.now ≡ its.readings.exceptions
  pub until : set.until ≡ last_instant its.readings.recurrence.end
  pub instants : set.instants.now ≡ its.instants
  pub exceptions : set.exceptions.now ≡ its.exceptions

-- The moments of a set after a moment are written, as many as fit, or the array stays as it is.
pub record AreEventMoments (p : SetParts) (bytes : List ℕ) (after : Moment) (old new : List Moment) (r : EventSetResult) : Type 0 where
  pub invalid_moment : ¬ IsMoment after → (r ≡ event_error INVALID_MOMENT) × (new ≡ old)
  pub invalid_zone : IsMoment after → ((z : Timeline) → ¬ IsZoneOf bytes z) → (r ≡ event_error INVALID_ZONE) × (new ≡ old)
  pub wrong_kind : IsMoment after → (z : Timeline) → IsZoneOf bytes z → (its : SetLine) → set_instants p ≡ Err its
      → (r ≡ event_line_error its) × (new ≡ old)
  pub value : IsMoment after → (z : Timeline) → IsZoneOf bytes z → (its : SetInstants) → set_instants p ≡ Ok its
      → (r ≡ event_ok r.length)
      × ((set : ZonedSet) × IsInstantSet its z set × AreMomentsWritten set (instant (local_and_offset_in after)) old new r.length)
