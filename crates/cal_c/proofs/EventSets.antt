-- The days, readings and moments of an event, and its errors after those of its lines.
use Rattle.std.proofs.Common.{◌≡◌, refl, ℕ, ap, sym, subst, ◌∙◌, List, ℤ, Result, Ok, Err}
use Rattle.cal_datetime.specs.OffsetDateTime.{instant, LocalAndOffset}
use Rattle.cal_recurrence.specs.DateTimeSet.{set_readings_from}
use Rattle.cal_recurrence.specs.SetMeaning.{set_days, set_instants, set_readings}
use Rattle.cal_recurrence.specs.Sets.{set_days_from}
use Rattle.cal_recurrence.specs.declared.date_time_set.DateTimeSet.{DateTimeSet}
use Rattle.cal_recurrence.specs.declared.set.RecurrenceSet.{RecurrenceSet}
use Rattle.cal_recurrence.specs.declared.set_fault.SetLine.{SetLine}
use Rattle.cal_recurrence.specs.declared.set_meaning.SetDays.{SetDays}
use Rattle.cal_recurrence.specs.declared.set_meaning.SetInstants.{SetInstants}
use Rattle.cal_recurrence.specs.declared.set_meaning.SetReadings.{SetReadings}
use Rattle.cal_recurrence.specs.declared.set_parts.SetParts.{SetParts}
use Rattle.cal_recurrence.specs.declared.zoned_set.ZonedSet.{ZonedSet}
use Rattle.cal_zone.specs.Timeline.{Timeline}
use Rattle.cal_c.specs.Events.{event_error, event_line_error, event_ok, AreEventDays, AreEventMoments, AreEventReadings, IsDaySet, IsInstantSet, IsReadingSet}
use Rattle.cal_c.specs.Moments.{local_and_offset_in, local_in, IsMoment}
use Rattle.cal_c.specs.Recurrences.{AreDatesWritten}
use Rattle.cal_c.specs.TextSets.{AreMomentsWritten, AreReadingsWritten, IsZoneOf}
use Rattle.cal_c.specs.Values.{day_of, IsJulianDay}
use Rattle.cal_c.specs.declared.results.Moment.{Moment}
use Rattle.cal_c.specs.declared.schedule.events.results.EventSetResult.{EventSetResult}
use Rattle.cal_c.specs.declared.status.TheConstants.{INVALID_DATE, INVALID_MOMENT, INVALID_ZONE}

-- A meaning of a set is one: a value or a line.
ok-one : {X : Type 0} (r : Result X SetLine) (a b : X) → Ok a ≡ r → r ≡ Ok b → a ≡ b
ok-one r a b e f = cc

err-one : {X : Type 0} (r : Result X SetLine) (a b : SetLine) → Err a ≡ r → r ≡ Err b → a ≡ b
err-one r a b e f = cc

not-err : {X : Type 0} (r : Result X SetLine) (a : X) (b : SetLine) → Ok a ≡ r → r ≡ Err b → ⊥
not-err r a b e f = cc

not-ok : {X : Type 0} (r : Result X SetLine) (a : SetLine) (b : X) → Err a ≡ r → r ≡ Ok b → ⊥
not-ok r a b e f = cc

length-of : (r : EventSetResult) (count : ℕ) → r ≡ event_ok count → r.length ≡ count
length-of r count e = ap (λ (q : EventSetResult). q.length) e

ok-length : (r : EventSetResult) (count : ℕ) → r ≡ event_ok count → r ≡ event_ok r.length
ok-length r count e = e ∙ ap event_ok (sym (length-of r count e))

-- ---- days
pub days-invalid : (p : SetParts) (from : ℤ) (days : List ℤ) (r : EventSetResult) → ¬ IsJulianDay from → r ≡ event_error INVALID_DATE
    → AreEventDays p from days days r
days-invalid p from days r out e = record {
  invalid_date = λ n. (e, refl);
  wrong_kind = λ is its f. absurd (out is);
  value = λ is its f. absurd (out is);
}

pub days-other : (p : SetParts) (from : ℤ) (days : List ℤ) (r : EventSetResult) (its : SetLine) → IsJulianDay from → Err its ≡ set_days p
    → r ≡ event_line_error its → AreEventDays p from days days r
days-other p from days r its is e same = record {
  invalid_date = λ out. absurd (out is);
  wrong_kind = λ i other f. (same ∙ ap event_line_error (err-one (set_days p) its other e f), refl);
  value = λ i other f. absurd (not-ok (set_days p) its other e f);
}

pub days-written : (p : SetParts) (from : ℤ) (n : ℕ) (its : SetDays) (set : RecurrenceSet) (old new : List ℤ) (count : ℕ) (r : EventSetResult)
    → IsJulianDay from → n ≡ day_of from → Ok its ≡ set_days p → IsDaySet its set → AreDatesWritten (set_days_from set n) old new count → r ≡ event_ok count
    → AreEventDays p from old new r
days-written p from n its set old new count r is same e made written ok = record {
  invalid_date = λ out. absurd (out is);
  wrong_kind = λ i other f. absurd (not-err (set_days p) its other e f);
  value = λ i other f. (
    ok-length r count ok,
    (
      set,
      subst (λ d. IsDaySet d set) (ok-one (set_days p) its other e f) made,
      subst (λ k. AreDatesWritten (set_days_from set (day_of from)) old new k) (sym (length-of r count ok))
          (subst (λ m. AreDatesWritten (set_days_from set m) old new count) same written),
    ),
  );
}

-- ---- readings
pub readings-invalid : (p : SetParts) (from : Moment) (readings : List Moment) (r : EventSetResult) → ¬ IsMoment from → r ≡ event_error INVALID_MOMENT
    → AreEventReadings p from readings readings r
readings-invalid p from readings r out e = record {
  invalid_moment = λ n. (e, refl);
  wrong_kind = λ is its f. absurd (out is);
  value = λ is its f. absurd (out is);
}

pub readings-other : (p : SetParts) (from : Moment) (readings : List Moment) (r : EventSetResult) (its : SetLine) → IsMoment from → Err its ≡ set_readings p
    → r ≡ event_line_error its → AreEventReadings p from readings readings r
readings-other p from readings r its is e same = record {
  invalid_moment = λ out. absurd (out is);
  wrong_kind = λ i other f. (same ∙ ap event_line_error (err-one (set_readings p) its other e f), refl);
  value = λ i other f. absurd (not-ok (set_readings p) its other e f);
}

pub readings-written : (p : SetParts) (from : Moment) (z : ℤ) (its : SetReadings) (set : DateTimeSet) (old new : List Moment) (count : ℕ) (r : EventSetResult)
    → IsMoment from → z ≡ local_in from → Ok its ≡ set_readings p → IsReadingSet its set → AreReadingsWritten (set_readings_from set z) old new count
    → r ≡ event_ok count → AreEventReadings p from old new r
readings-written p from z its set old new count r is same e made written ok = record {
  invalid_moment = λ out. absurd (out is);
  wrong_kind = λ i other f. absurd (not-err (set_readings p) its other e f);
  value = λ i other f. (
    ok-length r count ok,
    (
      set,
      subst (λ d. IsReadingSet d set) (ok-one (set_readings p) its other e f) made,
      subst (λ k. AreReadingsWritten (set_readings_from set (local_in from)) old new k) (sym (length-of r count ok))
          (subst (λ y. AreReadingsWritten (set_readings_from set y) old new count) same written),
    ),
  );
}

-- ---- moments
pub moments-invalid : (p : SetParts) (bytes : List ℕ) (after : Moment) (moments : List Moment) (r : EventSetResult) → ¬ IsMoment after
    → r ≡ event_error INVALID_MOMENT → AreEventMoments p bytes after moments moments r
moments-invalid p bytes after moments r out e = record {
  invalid_moment = λ n. (e, refl);
  invalid_zone = λ is none. absurd (out is);
  wrong_kind = λ is z zone its f. absurd (out is);
  value = λ is z zone its f. absurd (out is);
}

pub moments-nowhere : (p : SetParts) (bytes : List ℕ) (after : Moment) (moments : List Moment) (r : EventSetResult) → IsMoment after
    → ((z : Timeline) → ¬ IsZoneOf bytes z) → r ≡ event_error INVALID_ZONE → AreEventMoments p bytes after moments moments r
moments-nowhere p bytes after moments r is none e = record {
  invalid_moment = λ out. absurd (out is);
  invalid_zone = λ i n. (e, refl);
  wrong_kind = λ i z zone its f. absurd (none z zone);
  value = λ i z zone its f. absurd (none z zone);
}

pub moments-other : (p : SetParts) (bytes : List ℕ) (after : Moment) (moments : List Moment) (r : EventSetResult) (zone : Timeline) (its : SetLine)
    → IsMoment after → IsZoneOf bytes zone → Err its ≡ set_instants p → r ≡ event_line_error its → AreEventMoments p bytes after moments moments r
moments-other p bytes after moments r zone its is in-zone e same = record {
  invalid_moment = λ out. absurd (out is);
  invalid_zone = λ i none. absurd (none zone in-zone);
  wrong_kind = λ i z place other f. (same ∙ ap event_line_error (err-one (set_instants p) its other e f), refl);
  value = λ i z place other f. absurd (not-ok (set_instants p) its other e f);
}

pub moments-written : (p : SetParts) (bytes : List ℕ) (after : Moment) (m : LocalAndOffset) (zone : Timeline) (its : SetInstants) (set : ZonedSet)
    (old new : List Moment) (count : ℕ) (r : EventSetResult) → IsMoment after → m ≡ local_and_offset_in after → IsZoneOf bytes zone
    → ((z : Timeline) → IsZoneOf bytes z → zone ≡ z) → Ok its ≡ set_instants p → IsInstantSet its zone set → AreMomentsWritten set (instant m) old new count
    → r ≡ event_ok count → AreEventMoments p bytes after old new r
moments-written p bytes after m zone its set old new count r is same in-zone one e made written ok = record {
  invalid_moment = λ out. absurd (out is);
  invalid_zone = λ i none. absurd (none zone in-zone);
  wrong_kind = λ i z place other f. absurd (not-err (set_instants p) its other e f);
  value = λ i z place other f. (
    ok-length r count ok,
    (
      set,
      subst (λ d. IsInstantSet d z set) (ok-one (set_instants p) its other e f) (subst (λ y. IsInstantSet its y set) (one z place) made),
      subst (λ k. AreMomentsWritten set (instant (local_and_offset_in after)) old new k) (sym (length-of r count ok))
          (subst (λ l. AreMomentsWritten set (instant l) old new count) same written),
    ),
  );
}
