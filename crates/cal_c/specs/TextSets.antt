-- Recurrence sets of a string and lists of readings: their readings, and their moments in a zone.
use Rattle.std.specs.Prelude.{◌≡◌, ◌⊎◌, ℕ, zero, suc, ◌<◌, ◌≤◌, min, ℤ, pos, List, [], All, get_or, length, map, Option}
use Rattle.cal_time.specs.Date.{julian_day_at}
use Rattle.cal_datetime.specs.DateTime.{date_at, time_at}
use Rattle.cal_datetime.specs.OffsetDateTime.{instant}
use Rattle.cal_recurrence.specs.DateTimeRule.{date_time_rule}
use Rattle.cal_recurrence.specs.SetMeaning.{last_instant, last_local}
use Rattle.cal_recurrence.specs.ZonedSet.{IsFirstAfter, Occurs, NoneAfter}
use Rattle.cal_recurrence.specs.declared.date_time_set.DateTimeSet.{DateTimeSet}
use Rattle.cal_recurrence.specs.declared.recurrence.Recurrence.{Recurrence}
use Rattle.cal_recurrence.specs.declared.zoned_set.ZonedSet.{ZonedSet}
use Rattle.cal_tzif.specs.File.{IsFile, IsPosix}
use Rattle.cal_zone.specs.Timeline.{Timeline}
use Rattle.cal_c.specs.Moments.{IsMoment, local_and_offset_in, local_in}
use Rattle.cal_c.specs.Values.{max_dates}
use Rattle.cal_c.specs.declared.results.Moment.{Moment}
use Rattle.cal_c.specs.declared.schedule.recurrences.text_set.TextSet.{TextSet}

-- A list has at most 1024 readings.
abbrev pub AreFew : TextSet → Type 0
AreFew p = (length p.dates.now ≤ max_dates) × (length p.exceptions.now ≤ max_dates)

-- The start and the readings of the lists are valid.
abbrev pub AreValid : TextSet → Type 0
AreValid p = IsMoment p.start × (All IsMoment p.dates.now × All IsMoment p.exceptions.now)

-- The readings of moments.
abbrev pub readings_in : List Moment → List ℤ
readings_in ms = map local_in ms

-- The start and the readings of the lists, which are few and valid.
pub record HasReadings (p : TextSet) (from : ℤ) (more less : List ℤ) : Type 0 where
  pub few : AreFew p
  pub valid : AreValid p
  pub start : from ≡ local_in p.start
  pub dates : more ≡ readings_in p.dates.now
  pub exceptions : less ≡ readings_in p.exceptions.now

-- The set has the rule of the recurrence with this start and this end, the other readings and the
-- exceptions. The definitions of a set don't read where a list is in memory.
pub record IsSetOf (its : Recurrence) (p : TextSet) (last : Option ℤ) (set : DateTimeSet) : Type 0 where
  pub rule : set.rule ≡ date_time_rule (local_in p.start) last its.pattern its.times
  pub dates : set.dates.now ≡ readings_in p.dates.now
  pub exceptions : set.exceptions.now ≡ readings_in p.exceptions.now

-- A reading as a moment at the offset 0.
abbrev pub utc_moment : ℤ → Moment
utc_moment z = record { date = julian_day_at (date_at z); offset = pos 0; time = time_at z }

-- A moment for no index of an array.
abbrev pub no_moment : Moment
no_moment = record { date = pos 0; offset = pos 0; time = 0 }

-- The first readings of a list were written, as many as fit in the array, and the rest of the array
-- is unchanged.
pub record AreReadingsWritten (zs : List ℤ) (old new : List Moment) (count : ℕ) : Type 0 where
  pub count_is : count ≡ min (length zs) (length old)
  pub readings : (k : ℕ) → k < count → get_or new k no_moment ≡ utc_moment (get_or zs k (pos 0))
  pub others : (k : ℕ) → count ≤ k → get_or new k no_moment ≡ get_or old k no_moment

-- ---- moments in a zone
-- The zone of the bytes of a file, or of a POSIX text that isn't a file.
abbrev pub IsZoneOf : List ℕ → Timeline → Type 0
IsZoneOf bytes z = IsFile bytes z ⊎ (IsPosix bytes z × ((y : Timeline) → IsFile bytes y → ⊥))

-- The set has the readings of the recurrence up to a last one in this zone, and its rule ends at the
-- instant of an UNTIL at UTC.
pub record IsZonedSetTo (its : Recurrence) (p : TextSet) (z : Timeline) (last : Option ℤ) (set : ZonedSet) : Type 0 where
  pub readings : IsSetOf its p last set.readings
  pub zone : set.zone.now ≡ z
  pub until : set.until ≡ last_instant its.end
  pub instants : set.instants.now ≡ []
  pub exceptions : set.exceptions.now ≡ []

abbrev pub IsZonedSetOf : Recurrence → TextSet → Timeline → ZonedSet → Type 0
IsZonedSetOf its p z set = IsZonedSetTo its p z (last_local its (local_in p.start) its.end) set

-- The instant before the moment with an index: that of the moment written before it, or x.
abbrev pub before : ℤ → List Moment → ℕ → ℤ
before x ms zero = x
before x ms (suc k) = instant (local_and_offset_in (get_or ms k no_moment))

-- The first moments of a set after the instant x were written, as many as fit in the array, and the
-- rest of the array is unchanged.
pub record AreMomentsWritten (set : ZonedSet) (x : ℤ) (old new : List Moment) (count : ℕ) : Type 0 where
  pub fits : count ≤ length old
  pub valid : (k : ℕ) → k < count → IsMoment (get_or new k no_moment)
  pub moments : (k : ℕ) → k < count → IsFirstAfter (Occurs set) (before x new k) (local_and_offset_in (get_or new k no_moment))
  pub all : count < length old → NoneAfter (Occurs set) (before x new count)
  pub others : (k : ℕ) → count ≤ k → get_or new k no_moment ≡ get_or old k no_moment
