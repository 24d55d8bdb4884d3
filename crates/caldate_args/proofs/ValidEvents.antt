-- The events of a calendar, one after another.
use Rattle.std.proofs.Common.{◌≡◌, ap, refl, subst, arith, ℕ, ◌+◌, ◌<◌, None, Some, Result, Ok, Err, List, [], ◌∷◌, length, length-drop, map}
use Rattle.std.specs.Prelude.{position, IfOk, IsOk}
use Rattle.std.proofs.lemmas.Bool.{false≢true}
use Rattle.cal_ics.specs.EventSet.{IsEventSet}
use Rattle.cal_ics.specs.Events.{begins_event, IsEvent, IsFirstEvent}
use Rattle.cal_ics.specs.declared.event.Event.{Event}
use Rattle.cal_recurrence.specs.SetText.{without_return}
use Rattle.cal_recurrence.specs.Words.{parts_at, parts_left}
use Rattle.cal_recurrence.specs.declared.set_parts.SetParts.{SetParts}
use Rattle.caldate_args.specs.Events.{event_instants, AreValid, IsEventAt, IsListable}
use Rattle.caldate_args.specs.Events.AreValid.{none as no_event, event as one_event}

-- an event of a text is at its place in the lines
pub event_at : (text : List ℕ) (b s : ℕ) (e : Event) → IsEvent text b s e → IsEventAt (parts_at 10 text) b s
event_at text b s e h = record { first = h.first; closed = h.closed; end = h.end }

begins-some : (lines : List (List ℕ)) (k : ℕ) → position begins_event (map without_return lines) ≡ Some k → 0 < length lines
begins-some [] k e = absurd (cc)
begins-some (line ∷ lines) k e = omega arith

-- fewer lines are left after it
pub fewer_lines : (text : List ℕ) (b s : ℕ) (e : Event) → IsEvent text b s e → length (parts_left 10 e.rest) < length (parts_at 10 text)
fewer_lines text b s e h = omega (arith, ap length h.rest, length-drop (b + 1 + s + 1) (parts_at 10 text), begins-some (parts_at 10 text) b h.first)

-- an event without an error, and the events after it
pub one_more_valid : (text : List ℕ) (b s : ℕ) (e : Event) → IsEvent text b s e → IsListable (parts_at 10 e.lines.now) → AreValid (parts_left 10 e.rest)
    → AreValid (parts_at 10 text)
one_more_valid text b s e h its rest =
    one_event (parts_at 10 text) b s (event_at text b s e h) (subst IsListable h.lines its) (subst AreValid h.rest rest)

pub no_more : (text : List ℕ) → IsFirstEvent text (Ok None) → AreValid (parts_at 10 text)
no_more text none = no_event (parts_at 10 text) none

pub no_lines : AreValid []
no_lines = no_event [] (cc)

-- the lines say the times of an event
pub listable : (lines : List ℕ) (p : SetParts) → IsEventSet lines (Ok p) → IsOk (event_instants p) → IsListable (parts_at 10 lines)
listable lines p says ok = with_times (event_instants p) refl ok
  where
    with_times : (r : Result _ _) → event_instants p ≡ r → IsOk r → IsListable (parts_at 10 lines)
    with_times (Ok times) e ok = record { parts = p; times = times; say = says; mean = e }
    with_times (Err why) e ok = absurd (false≢true ok)

pub if_ok : {X E : Type 0} (r : Result X E) (P : Type 0) → P → IfOk r (λ _. P)
if_ok (Ok x) P h = h
if_ok (Err e) P h = tt
