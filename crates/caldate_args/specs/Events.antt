-- The events of a calendar file and their times (RFC 5545).
use Rattle.std.specs.Prelude.{◌≡◌, ⊤, ℕ, ◌+◌, not, ℤ, List, [], ◌∷◌, ◌++◌, drop, filter_map, map, position, slice_get, take, Bool, true, Option, Some, None, is_some, option_map, unwrap_or, Result, Ok, Err, if◌then◌else◌}
use Rattle.std.specs.Io.KnownBytes.{Consumes, IsAtEnd}
use Rattle.cal_datetime.specs.DateTime.{date_time}
use Rattle.cal_ics.specs.EventSet.{set_lines}
use Rattle.cal_ics.specs.Events.{begins_event, ends_event, lines_within}
use Rattle.cal_recurrence.specs.DateOrTime.{date_of}
use Rattle.cal_recurrence.specs.Folding.{IsUnfolded}
use Rattle.cal_recurrence.specs.SetMeaning.{all_mean, last_instant, readings_starting, set_instants, zone_rule}
use Rattle.cal_recurrence.specs.SetText.{without_return, SaysSet}
use Rattle.cal_recurrence.specs.TimesOfDay.{no_times}
use Rattle.cal_recurrence.specs.Words.{parts_at}
use Rattle.cal_recurrence.specs.ZonedSet.{HasInstant}
use Rattle.cal_recurrence.specs.declared.date_or_time.DateOrTime.{DateOrTime}
use Rattle.cal_recurrence.specs.declared.date_or_time.DateOrTime.TheVariants.{Date, Local, Utc}
use Rattle.cal_recurrence.specs.declared.recurrence.RuleEnd.{RuleEnd}
use Rattle.cal_recurrence.specs.declared.recurrence.RuleEnd.TheVariants.{Never, Until, Count}
use Rattle.cal_recurrence.specs.declared.set_fault.SetLine.{SetLine}
use Rattle.cal_recurrence.specs.declared.set_fault.SetLine.TheVariants as line
use Rattle.cal_recurrence.specs.declared.set_meaning.SetInstants.{SetInstants}
use Rattle.cal_recurrence.specs.declared.set_meaning.SetReadings.{SetReadings}
use Rattle.cal_recurrence.specs.declared.set_parts.SetParts.{SetParts}
use Rattle.cal_recurrence.specs.declared.zoned_set.ZonedSet.{ZonedSet}
use Rattle.cal_zone.specs.Timeline.{Timeline}
use Rattle.caldate_args.specs.declared.command.EventZones.{EventZones}
use Rattle.caldate_args.specs.declared.events.Calendar.{Calendar}
use Rattle.caldate_args.specs.declared.events.read_events_error.ReadEventsError.{ReadEventsError}

-- ---- the times of an event
-- The reading at the start of a date.
abbrev pub midnight_of : DateOrTime → Option ℤ
midnight_of (Date n) = Some (date_time n 0)
midnight_of (Local z) = None
midnight_of (Utc z) = None

-- The end of a recurrence of dates. A time of day of the UNTIL doesn't count.
abbrev pub day_end : RuleEnd → RuleEnd
day_end Never = Never
day_end (Until last) = Until (Date (date_of last))
day_end (Count n) = Count n

-- The times of an event that starts on day `first`, each at the start of a day, or the first line
-- with a time of day or with periods within days.
abbrev pub date_instants : SetParts → ℕ → Result SetInstants SetLine
date_instants p first =
    if is_some p.recurrence.times.clock then Err line.Rule else
    if not (all_mean midnight_of p.dates) then Err line.Dates else
    if not (all_mean midnight_of p.exceptions) then Err line.Exceptions else
    Ok (record {
      readings = record {
        start = date_time first 0;
        recurrence = record { pattern = p.recurrence.pattern; times = no_times; end = day_end p.recurrence.end };
        dates = filter_map midnight_of p.dates;
        exceptions = filter_map midnight_of p.exceptions;
      };
      instants = [];
      exceptions = [];
    })

-- The times of an event that starts at a reading of UTC, or the first line with a value of another
-- kind.
abbrev pub only_readings : Result SetReadings SetLine → Result SetInstants SetLine
only_readings (Ok readings) = Ok (record { readings = readings; instants = []; exceptions = [] })
only_readings (Err its) = Err its

-- The times of an event in a zone, or the first line with a value of another kind than the start.
abbrev pub instants_from : SetParts → DateOrTime → Result SetInstants SetLine
instants_from p (Date n) = date_instants p n
instants_from p (Local z) = set_instants p
instants_from p (Utc z) = only_readings (readings_starting p true z)

abbrev pub event_instants : SetParts → Result SetInstants SetLine
event_instants p = instants_from p p.start

-- The zone of an event: UTC if the start has a `Z`, the zone that events name if the event names one,
-- or else the zone of the list.
abbrev pub zone_from : EventZones → Bool → DateOrTime → Timeline
zone_from zones is_named (Utc z) = zones.utc
zone_from zones is_named (Date n) = if is_named then unwrap_or zones.named zones.own else zones.own
zone_from zones is_named (Local z) = if is_named then unwrap_or zones.named zones.own else zones.own

abbrev pub zone_of : EventZones → SetParts → Timeline
zone_of zones p = zone_from zones (is_some p.zone) p.start

-- The set has these times in a zone.
pub record IsSetOf (zone : Timeline) (its : SetInstants) (set : ZonedSet) : Type 0 where
  pub rule : set.readings.rule ≡ zone_rule its.readings.recurrence its.readings.start
  pub dates : set.readings.dates.now ≡ its.readings.dates
  pub exceptions : set.readings.exceptions.now ≡ its.readings.exceptions
  pub zone_is : set.zone.now ≡ zone
  pub until : set.until ≡ last_instant its.readings.recurrence.end
  pub instants : set.instants.now ≡ its.instants
  pub left_out : set.exceptions.now ≡ its.exceptions

-- Some lines of an event say its times.
pub record IsListable (lines : List (List ℕ)) : Type 0 where
  pub parts : SetParts
  pub times : SetInstants
  pub say : SaysSet (set_lines 1 (map without_return lines)) parts
  pub mean : event_instants parts ≡ Ok times

-- An event with these lines has a time at the instant x.
pub record HasTime (zones : EventZones) (lines : List (List ℕ)) (x : ℤ) : Type 0 where
  pub listable : IsListable lines
  pub set : ZonedSet
  pub set_is : IsSetOf (zone_of zones listable.parts) listable.times set
  pub has : HasInstant set x

-- ---- the events of a calendar
-- The first event of some lines begins at line `begin`, and has `size` lines.
pub record IsEventAt (lines : List (List ℕ)) (begin size : ℕ) : Type 0 where
  pub first : position begins_event (map without_return lines) ≡ Some begin
  pub closed : lines_within 1 (drop (begin + 1) (map without_return lines)) ≡ Some size
  pub end : option_map ends_event (slice_get (map without_return lines) (begin + 1 + size)) ≡ Some true

-- The lines of this event, with an empty one after them, and the lines after the event.
abbrev pub event_lines : List (List ℕ) → ℕ → ℕ → List (List ℕ)
event_lines lines begin size = take size (drop (begin + 1) lines) ++ [] ∷ []

abbrev pub lines_after : List (List ℕ) → ℕ → ℕ → List (List ℕ)
lines_after lines begin size = drop (begin + 1 + size + 1) lines

-- No event of some lines has an error.
pub data AreValid : List (List ℕ) → Type 0 where
  none : (lines : List (List ℕ)) → position begins_event (map without_return lines) ≡ None → AreValid lines
  event : (lines : List (List ℕ)) (begin size : ℕ) → IsEventAt lines begin size → IsListable (event_lines lines begin size)
      → AreValid (lines_after lines begin size) → AreValid lines

-- A file with these bytes has this text, which lacks the folds, and no event has an error.
pub record IsCalendar (bytes text : List ℕ) : Type 0 where
  pub unfolded : IsUnfolded bytes text
  pub valid : AreValid (parts_at 10 text)

-- The calendar is that of the bytes that a reader gave up to its end.
abbrev pub IsReadCalendar : Option (List ℕ) → Option (List ℕ) → Result Calendar ReadEventsError → Type 0
IsReadCalendar old new (Ok calendar) = (bytes : List ℕ) × IsAtEnd new × Consumes old new bytes × IsCalendar bytes calendar.text.now
IsReadCalendar old new (Err error) = ⊤

-- One of the events of some lines has a time at the instant x.
pub data AnyHasTime (zones : EventZones) (x : ℤ) : List (List ℕ) → Type 0 where
  first : (lines : List (List ℕ)) (begin size : ℕ) → IsEventAt lines begin size → HasTime zones (event_lines lines begin size) x → AnyHasTime zones x lines
  later : (lines : List (List ℕ)) (begin size : ℕ) → IsEventAt lines begin size → AnyHasTime zones x (lines_after lines begin size) → AnyHasTime zones x lines
