-- Moments, the moments of a set that are written one by one, and the set of a text.
use Rattle.std.proofs.Common.{◌≡◌, ◌≢◌, refl, ℕ, zero, suc, ◌+◌, ◌<◌, ◌≤◌, ap, sym, subst, ◌∙◌, arith, add-one, List, [], length, get_or, get_or-set_other, get_or-set_same, ℤ, Option, Result, Ok, Some}
use Rattle.std.proofs.Math.ListN.{set}
use Rattle.cal_time.specs.Date.{IsDate}
use Rattle.cal_time.specs.Time.{IsTime}
use Rattle.cal_time.specs.UtcOffset.{IsOffset}
use Rattle.cal_datetime.specs.DateTime.{date_at, date_time, time_at}
use Rattle.cal_datetime.specs.OffsetDateTime.{LocalAndOffset, instant}
use Rattle.cal_recurrence.specs.DateTimeRule.{date_time_rule}
use Rattle.cal_recurrence.specs.SetMeaning.{last_instant, last_local}
use Rattle.cal_recurrence.specs.ZonedSet.{IsFirstAfter, Occurs}
use Rattle.cal_recurrence.specs.declared.date_time_set.DateTimeSet.{DateTimeSet}
use Rattle.cal_recurrence.specs.declared.fault.ParseRuleError.{ParseRuleError}
use Rattle.cal_recurrence.specs.declared.recurrence.Recurrence.{Recurrence}
use Rattle.cal_recurrence.specs.declared.zoned_set.ZonedSet.{ZonedSet}
use Rattle.cal_zone.specs.Timeline.{Timeline}
use Rattle.cal_c.specs.Moments.{local_and_offset_in, local_in, moment_ok, IsMoment}
use Rattle.cal_c.specs.RecurrenceTexts.{recurrence_ok}
use Rattle.cal_c.specs.TextSets.{before, no_moment, readings_in, AreMomentsWritten, IsSetOf, IsZonedSetOf}
use Rattle.cal_c.specs.declared.results.Moment.{Moment}
use Rattle.cal_c.specs.declared.schedule.recurrences.results.RecurrenceResult.{RecurrenceResult}
use Rattle.cal_c.specs.declared.schedule.recurrences.text_set.TextSet.{TextSet}
use Rattle.cal_c.proofs.Days.{day_of-julian_day_at, IsJulianDay-at}
use Rattle.cal_c.proofs.Recurring.{written_more}

-- The numbers of a moment are valid, and are its date and time of day.
pub valid-moment : (m : LocalAndOffset) (n t : ℕ) (o : ℤ) → n ≡ date_at m.local → IsDate n → t ≡ time_at m.local → IsTime t → o ≡ m.offset → IsOffset o
    → IsMoment (moment_ok m).moment
valid-moment m n t o same-date date same-time time same-offset offset = record {
  date = IsJulianDay-at (date_at m.local) (subst IsDate same-date date);
  time = subst IsTime same-time time;
  offset = subst IsOffset same-offset offset;
}

abbrev at-offset : ℤ → ℤ → LocalAndOffset
at-offset o l = record { local = l; offset = o }

pub shown-moment : (m : LocalAndOffset) → m.local ≡ date_time (date_at m.local) (time_at m.local) → local_and_offset_in (moment_ok m).moment ≡ m
shown-moment m whole =
    ap (λ (n : ℕ). at-offset m.offset (date_time n (time_at m.local))) (day_of-julian_day_at (date_at m.local)) ∙ ap (at-offset m.offset) (sym whole)

-- One more moment is written.
pub before-next : (x : ℤ) (ms : List Moment) (i : ℕ) (m : Moment) (k : LocalAndOffset) → i < length ms → local_and_offset_in m ≡ k
    → instant k ≡ before x (set ms i m) (i + 1)
before-next x ms i m k lt same = rw add-one (rw get_or-set_same (ap instant (sym same)))

before-same : (x : ℤ) (ms : List Moment) (i k : ℕ) (m : Moment) → k ≤ i → before x (set ms i m) k ≡ before x ms k
before-same x ms i zero m le = refl
before-same x ms i (suc k) m le = let ne : k ≢ i = omega (arith, le) in rw get_or-set_other refl

pub moments_more : (s : ZonedSet) (x : ℤ) (ms : List Moment) (i : ℕ) (m : Moment) → i < length ms
    → ((k : ℕ) → k < i → IsFirstAfter (Occurs s) (before x ms k) (local_and_offset_in (get_or ms k no_moment)))
    → IsFirstAfter (Occurs s) (before x ms i) (local_and_offset_in m)
    → (k : ℕ) → k < i + 1 → IsFirstAfter (Occurs s) (before x (set ms i m) k) (local_and_offset_in (get_or (set ms i m) k no_moment))
moments_more s x ms i m lt kept here k below =
    subst (λ y. IsFirstAfter (Occurs s) y (local_and_offset_in (get_or (set ms i m) k no_moment))) (sym (before-same x ms i k m (omega (arith, below))))
    (written_more no_moment (λ n one. IsFirstAfter (Occurs s) (before x ms n) (local_and_offset_in one)) ms i m lt kept here k below)

-- ---- the set of a text
pub one-recurrence : (r : Result Recurrence ParseRuleError) (a b : Recurrence) → Ok a ≡ r → r ≡ Ok b → a ≡ b
one-recurrence r a b e f = cc

pub one-zone : (a b : Timeline) → Some a ≡ Some b → a ≡ b
one-zone a b e = cc

-- A set with the readings of a text.
pub set-of : (its : Recurrence) (p : TextSet) (set : DateTimeSet) (start : ℤ) (end : ℤ → Option ℤ) (dates exceptions : List ℤ)
    → set.rule ≡ date_time_rule start (end start) its.pattern its.times → set.dates.now ≡ dates → set.exceptions.now ≡ exceptions
    → start ≡ local_in p.start → dates ≡ readings_in p.dates.now → exceptions ≡ readings_in p.exceptions.now → IsSetOf its p (end (local_in p.start)) set
set-of its p set start end dates exceptions rule more less starts has without =
    record { rule = rule ∙ ap (λ z. date_time_rule z (end z) its.pattern its.times) starts; dates = more ∙ has; exceptions = less ∙ without }

-- The moments of such a set are the moments of the text.
pub made-of : (s : ZonedSet) (its : Recurrence) (p : TextSet) (z : Timeline) (x : ℤ) (old new : List Moment) (count : ℕ)
    → AreMomentsWritten s x old new count → IsSetOf its p (last_local its (local_in p.start) its.end) s.readings
    → s.zone.now ≡ z → s.until ≡ last_instant its.end → s.instants.now ≡ [] → s.exceptions.now ≡ []
    → (t : ZonedSet) × IsZonedSetOf its p z t × AreMomentsWritten t x old new count
made-of s its p z x old new count written readings zone until more none =
    (s, record { readings = readings; zone = zone; until = until; instants = more; exceptions = none }, written)

pub moments-of : (one its : Recurrence) (p : TextSet) (y z : Timeline) (x : ℤ) (old new : List Moment) (count : ℕ) (r : RecurrenceResult)
    → one ≡ its → y ≡ z → ((t : ZonedSet) × IsZonedSetOf one p y t × AreMomentsWritten t x old new count) → r ≡ recurrence_ok count
    → (r ≡ recurrence_ok r.length) × ((t : ZonedSet) × IsZonedSetOf its p z t × AreMomentsWritten t x old new r.length)
moments-of one its p y z x old new count r same zone found e =
    let length-is : r.length ≡ count = ap (λ (q : RecurrenceResult). q.length) e in (
      e ∙ ap recurrence_ok (sym length-is),
      subst (λ n. (t : ZonedSet) × IsZonedSetOf its p z t × AreMomentsWritten t x old new n) (sym length-is)
          (subst (λ w. (t : ZonedSet) × IsZonedSetOf its p w t × AreMomentsWritten t x old new count) zone
          (subst (λ o. (t : ZonedSet) × IsZonedSetOf o p y t × AreMomentsWritten t x old new count) same found)),
    )
