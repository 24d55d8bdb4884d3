-- The times of one event, and of several events.
use Rattle.std.proofs.Common.{◌≡◌, ◌∙◌, ap, inl, inr, refl, subst, sym, arith, ◌⊎◌, ℕ, ◌+◌, ◌<◌, ◌*◌, ℤ, pos, Bool, true, false, Option, None, Some, Result, Ok, Err, List, [], drop, map}
use Rattle.std.specs.Prelude.{⊤, ◌≤ℤ◌, ◌<ℤ◌, option_map, slice_get, MatchOption}
use Rattle.std.proofs.lemmas.Bool.{cases_Bool}
use Rattle.std.proofs.lemmas.Int.{ints}
use Rattle.cal_time.specs.SignedDuration.{second}
use Rattle.cal_datetime.specs.DateTime.{last_date_time}
use Rattle.cal_datetime.specs.OffsetDateTime.{LocalAndOffset, instant}
use Rattle.cal_ics.specs.EventSet.{set_lines, IsEventSet}
use Rattle.cal_ics.specs.Events.{ends_event, event_size, lines_within, IsEvent, IsFirstEvent}
use Rattle.cal_ics.specs.declared.event.Event.{Event}
use Rattle.cal_ics.specs.declared.event_error.ParseEventError.{ParseEventError}
use Rattle.cal_recurrence.specs.Occurrences.{nanoseconds_left}
use Rattle.cal_recurrence.specs.SetMeaning.{last_instant, zone_rule}
use Rattle.cal_recurrence.specs.SetText.{parts_from, parts_of, without_return, SaysSet}
use Rattle.cal_recurrence.specs.Words.{parts_at, parts_left}
use Rattle.cal_recurrence.specs.ZonedSet.{is_earlier, HasInstant, IsNextAfter, Occurs}
use Rattle.cal_recurrence.specs.declared.set_fault.ParseSetError.{ParseSetError}
use Rattle.cal_recurrence.specs.declared.set_fault.SetLine.{SetLine}
use Rattle.cal_recurrence.specs.declared.set_meaning.SetInstants.{SetInstants}
use Rattle.cal_recurrence.specs.declared.set_parts.SetParts.{SetParts}
use Rattle.cal_recurrence.specs.declared.zoned_set.ZonedSet.{ZonedSet}
use Rattle.cal_recurrence.proofs.ZonedSearch.{compared, near}
use Rattle.caldate_args.specs.Events.{event_instants, event_lines, lines_after, zone_of, AnyHasTime, HasTime, IsEventAt, IsSetOf}
use Rattle.caldate_args.specs.Events.AnyHasTime.{first as at_first, later as at_later}
use Rattle.caldate_args.proofs.ValidEvents.{event_at}
use Rattle.caldate_args.specs.declared.command.EventZones.{EventZones}
use Rattle.caldate_args.specs.declared.command.EventList.{EventList}
use Rattle.caldate_run.specs.Events.{earlier, AreTimes, HasTimeAt, IsEndIn, IsNextIn, IsNextTime, NoTime}
use Rattle.caldate_run.proofs.Listed.{if_all}
use Rattle.caldate_run.proofs.SameSets.{same_has}

some_is : {X : Type 0} (a b : X) → Some a ≡ Some b → a ≡ b
some_is a b e = cc

ok_is : {X E : Type 0} (a b : X) (r : Result X E) → r ≡ Ok a → r ≡ Ok b → a ≡ b
ok_is a b r h g = cc

-- ---- one event
-- Lines say one set.
one_set : (lines : List (List ℕ)) (p q : SetParts) → SaysSet lines p → SaysSet lines q → p ≡ q
one_set lines p q h g =
    let start = some_is p.start q.start (sym h.start ∙ g.start) in
    h.is ∙ ap (parts_from (parts_of lines)) start ∙ sym g.is

-- The lines of an event with an error say no set.
pub no_set : (text : List ℕ) (e : ParseSetError) (p : SetParts) → IsEventSet text (Err e) → ¬ SaysSet (set_lines 1 (map without_return (parts_at 10 text))) p
no_set text e p (inl h) says = let valid = says.valid h.line in let reason = h.reason in absurd (cc)
no_set text e p (inr h) says = let start = says.start in let none = h.start in absurd (cc)

pub no_time : (zones : EventZones) (text : List ℕ) (e : ParseSetError) (x : ℤ) → IsEventSet text (Err e) → NoTime (HasTime zones (parts_at 10 text)) x
no_time zones text e x h y has = absurd (no_set text e has.listable.parts h has.listable.say)

-- Its values have other kinds than its start.
pub no_kind : (zones : EventZones) (lines : List (List ℕ)) (p : SetParts) (line : SetLine) (x : ℤ) → SaysSet (set_lines 1 (map without_return lines)) p
    → event_instants p ≡ Err line → NoTime (HasTime zones lines) x
no_kind zones lines p line x says wrong y has =
    let same = one_set _ p has.listable.parts says has.listable.say in
    let other = sym wrong ∙ ap event_instants same ∙ has.listable.mean in absurd (cc)

-- A set of the event has all its times.
has_instant : (zones : EventZones) (lines : List (List ℕ)) (p : SetParts) (its : SetInstants) (s : ZonedSet) (y : ℤ)
    → SaysSet (set_lines 1 (map without_return lines)) p → event_instants p ≡ Ok its → IsSetOf (zone_of zones p) its s → HasTime zones lines y → HasInstant s y
has_instant zones lines p its s y says mean a has =
    let parts = one_set _ has.listable.parts p has.listable.say says in
    let times = ok_is has.listable.times its (event_instants p) (sym (ap event_instants parts) ∙ has.listable.mean) mean in
    let b = has.set_is in
    same_has has.set s (record {
      rule = b.rule ∙ ap (λ (t : SetInstants). zone_rule t.readings.recurrence t.readings.start) times ∙ sym a.rule;
      dates = b.dates ∙ ap (λ (t : SetInstants). t.readings.dates) times ∙ sym a.dates;
      exceptions = b.exceptions ∙ ap (λ (t : SetInstants). t.readings.exceptions) times ∙ sym a.exceptions;
      zone_is = b.zone_is ∙ ap (zone_of zones) parts ∙ sym a.zone_is;
      until = b.until ∙ ap (λ (t : SetInstants). last_instant t.readings.recurrence.end) times ∙ sym a.until;
      instants = b.instants ∙ ap (λ (t : SetInstants). t.instants) times ∙ sym a.instants;
      left_out = b.left_out ∙ ap (λ (t : SetInstants). t.exceptions) times ∙ sym a.left_out;
    }) y has.has

-- The next occurrence of the set is the next time of the event.
pub next_of_set : (zones : EventZones) (lines : List (List ℕ)) (p : SetParts) (its : SetInstants) (s : ZonedSet) (x : ℤ) (r : Option LocalAndOffset)
    → SaysSet (set_lines 1 (map without_return lines)) p → event_instants p ≡ Ok its → IsSetOf (zone_of zones p) its s
    → IsNextAfter (Occurs s) x r → IsNextTime (HasTime zones lines) x r
next_of_set zones lines p its s x None says mean a none = λ y has.
    let h = has_instant zones lines p its s y says mean a has in
    let most = none h.place h.moment h.occurs in omega (arith, ints, most, h.same)
next_of_set zones lines p its s x (Some m) says mean a next = record {
  is = record {
    listable = record { parts = p; times = its; say = says; mean = mean };
    set = s;
    set_is = a;
    has = record { place = next.place; moment = m; occurs = next.is; same = refl };
  };
  later = next.later;
  first = λ y has later.
      let h = has_instant zones lines p its s y says mean a has in
      let late : x <ℤ instant h.moment = omega (arith, ints, h.same, later) in
      let most = (next.first h.place h.moment h.occurs late).0 in
      omega (arith, ints, most, h.same);
}

-- ---- the events of some lines
one_place : (lines : List (List ℕ)) (b s c t : ℕ) → IsEventAt lines b s → IsEventAt lines c t → (b ≡ c) × (s ≡ t)
one_place lines b s c t h g =
    let begin = some_is b c (sym h.first ∙ g.first) in
    (begin, some_is s t (sym h.closed ∙ ap (λ k. lines_within 1 (drop (k + 1) (map without_return lines))) begin ∙ g.closed))

-- A time is one of the first event, or of a later one.
pub first_or_later : (zones : EventZones) (y : ℤ) (lines : List (List ℕ)) (b s : ℕ) → IsEventAt lines b s → AnyHasTime zones y lines
    → HasTime zones (event_lines lines b s) y ⊎ AnyHasTime zones y (lines_after lines b s)
first_or_later zones y lines b s h (at_first _ c t g has) =
    let (begin, size) = one_place lines c t b s g h in
    inl (subst (λ n. HasTime zones (event_lines lines b n) y) size (subst (λ n. HasTime zones (event_lines lines n t) y) begin has))
first_or_later zones y lines b s h (at_later _ c t g rest) =
    let (begin, size) = one_place lines c t b s g h in
    inr (subst (λ n. AnyHasTime zones y (lines_after lines b n)) size (subst (λ n. AnyHasTime zones y (lines_after lines n t)) begin rest))

-- Lines without an event have no time.
pub none_at : (zones : EventZones) (y : ℤ) (lines : List (List ℕ)) → ((b s : ℕ) → ¬ IsEventAt lines b s) → ¬ AnyHasTime zones y lines
none_at zones y lines none (at_first _ b s h has) = none b s h
none_at zones y lines none (at_later _ b s h rest) = none b s h

-- ---- the next time of all events
-- The earliest time after the instant x of the events before some lines.
pub record IsEarliest (events : EventList) (x : ℤ) (left : List (List ℕ)) (next : Option LocalAndOffset) : Type 0 where
  pub found : MatchOption next ⊤ (λ m. HasTimeAt events (instant m) × (x <ℤ instant m))
  pub first : (y : ℤ) → HasTimeAt events y → x <ℤ y → MatchOption next ⊥ (λ m. instant m ≤ℤ y) ⊎ AnyHasTime events.zones y left
  pub within : (y : ℤ) → AnyHasTime events.zones y left → HasTimeAt events y

pub earliest_of_none : (events : EventList) (x : ℤ) → IsEarliest events x (parts_at 10 events.text.now) None
earliest_of_none events x = record { found = tt; first = λ y has later. inr has; within = λ y has. has }

pub earliest_of_all : (events : EventList) (x : ℤ) (left : List (List ℕ)) (next : Option LocalAndOffset) → IsEarliest events x left next
    → ((y : ℤ) → ¬ AnyHasTime events.zones y left) → IsNextTime (HasTimeAt events) x next
earliest_of_all events x left None h none = λ y has.
    elim (compared x y) as (λ _. y ≤ℤ x) [ inl late ↦ elim (h.first y has late) as (λ _. y ≤ℤ x) [ inl it ↦ absurd it | inr it ↦ absurd (none y it) ] | inr most ↦ most ]
earliest_of_all events x left (Some m) h none = record {
  is = h.found.0;
  later = h.found.1;
  first = λ y has late. elim (h.first y has late) as (λ _. instant m ≤ℤ y) [ inl it ↦ it | inr it ↦ absurd (none y it) ];
}

less_of : (k m : LocalAndOffset) → is_earlier k m ≡ true → instant k <ℤ instant m
less_of k m e = grind (arith, ints)

most_of : (k m : LocalAndOffset) → is_earlier k m ≡ false → instant m ≤ℤ instant k
most_of k m e = grind (arith, ints)

-- The earlier one of two times is not after each of them.
earlier_most : (a b : Option LocalAndOffset) (y : ℤ) → MatchOption a ⊥ (λ m. instant m ≤ℤ y) ⊎ MatchOption b ⊥ (λ m. instant m ≤ℤ y)
    → MatchOption (earlier a b) ⊥ (λ m. instant m ≤ℤ y)
earlier_most None b y (inl h) = absurd h
earlier_most None b y (inr h) = h
earlier_most (Some m) None y (inl h) = h
earlier_most (Some m) None y (inr h) = absurd h
earlier_most (Some m) (Some k) y h = elim (cases_Bool (is_earlier k m)) as (λ _. MatchOption (earlier (Some m) (Some k)) ⊥ (λ m. instant m ≤ℤ y)) [
  | inl e ↦ rw e (elim h as (λ _. instant k ≤ℤ y) [ inl it ↦ (let less = less_of k m e in omega (arith, ints, it, less)) | inr it ↦ it ])
  | inr e ↦ rw e (elim h as (λ _. instant m ≤ℤ y) [ inl it ↦ it | inr it ↦ (let most = most_of k m e in omega (arith, ints, it, most)) ])
]

-- The earlier one of two times is one of them.
earlier_one : (P : LocalAndOffset → Type 0) (a b : Option LocalAndOffset) → MatchOption a ⊤ P → MatchOption b ⊤ P → MatchOption (earlier a b) ⊤ P
earlier_one P None b h g = g
earlier_one P (Some m) None h g = h
earlier_one P (Some m) (Some k) h g = elim (cases_Bool (is_earlier k m)) as (λ _. MatchOption (earlier (Some m) (Some k)) ⊤ P) [
  | inl e ↦ rw e g
  | inr e ↦ rw e h
]

-- One more event.
found_in : (events : EventList) (x : ℤ) (text : List ℕ) (b s : ℕ) (lines : List (List ℕ)) (r : Option LocalAndOffset) → IsEventAt (parts_at 10 text) b s
    → lines ≡ event_lines (parts_at 10 text) b s → ((y : ℤ) → AnyHasTime events.zones y (parts_at 10 text) → HasTimeAt events y)
    → IsNextTime (HasTime events.zones lines) x r → MatchOption r ⊤ (λ m. HasTimeAt events (instant m) × (x <ℤ instant m))
found_in events x text b s lines None at same within next = tt
found_in events x text b s lines (Some m) at same within next =
    (within (instant m) (at_first _ b s at (subst (λ ls. HasTime events.zones ls (instant m)) same next.is)), next.later)

not_later : (zones : EventZones) (x y : ℤ) (lines : List (List ℕ)) (r : Option LocalAndOffset) → IsNextTime (HasTime zones lines) x r → HasTime zones lines y → x <ℤ y
    → MatchOption r ⊥ (λ m. instant m ≤ℤ y)
not_later zones x y lines None next has late = let most = next y has in absurd (omega (arith, ints, most, late))
not_later zones x y lines (Some m) next has late = next.first y has late

pub one_more_event : (events : EventList) (x : ℤ) (text : List ℕ) (b s : ℕ) (e : Event) (next r : Option LocalAndOffset) → IsEvent text b s e
    → IsNextTime (HasTime events.zones (parts_at 10 e.lines.now)) x r → IsEarliest events x (parts_at 10 text) next
    → IsEarliest events x (parts_left 10 e.rest) (earlier next r)
one_more_event events x text b s e next r is its h =
    let at = event_at text b s e is in record {
      found = earlier_one _ next r h.found (found_in events x text b s _ r at is.lines h.within its);
      first = λ y has late. elim (h.first y has late) [
        | inl it ↦ inl (earlier_most next r y (inl it))
        | inr any ↦ elim (first_or_later events.zones y _ b s at any) [
          | inl own ↦ inl (earlier_most next r y (inr (not_later events.zones x y _ r its (subst (λ ls. HasTime events.zones ls y) (sym is.lines) own) late)))
          | inr rest ↦ inr (subst (AnyHasTime events.zones y) (sym is.rest) rest)
        ]
      ];
      within = λ y any. h.within y (at_later _ b s at (subst (AnyHasTime events.zones y) is.rest any));
    }

-- No event is left.
pub none_in_text : (zones : EventZones) (y : ℤ) (text : List ℕ) → IsFirstEvent text (Ok None) → ¬ AnyHasTime zones y (parts_at 10 text)
none_in_text zones y text none = none_at zones y _ (λ b s at. let first = at.first in absurd (cc))

pub none_after_error : (zones : EventZones) (y : ℤ) (text : List ℕ) (e : ParseEventError) → IsFirstEvent text (Err e)
    → ¬ AnyHasTime zones y (parts_at 10 text)
none_after_error zones y text e (inl h) = none_at zones y _ (λ b s at.
    let begin = some_is b h.begin (sym at.first ∙ h.first) in
    let size = sym at.closed ∙ ap (λ k. event_size text k) begin ∙ h.no_end in absurd (cc))
none_after_error zones y text e (inr h) = none_at zones y _ (λ b s at.
    let begin = some_is b h.begin (sym at.first ∙ h.first) in
    let size = some_is s h.size (sym at.closed ∙ ap (λ k. event_size text k) begin ∙ h.closed) in
    let other = sym at.end ∙ ap (λ k. option_map ends_event (slice_get (map without_return (parts_at 10 text)) k)) (λ i. begin i + 1 + size i) ∙ h.end in
    absurd (cc))

pub none_left : (zones : EventZones) (y : ℤ) → ¬ AnyHasTime zones y []
none_left zones y = none_at zones y [] (λ b s at. let first = at.first in absurd (cc))

-- ---- the list
-- An occurrence is not late.
occurs_early : (set : ZonedSet) (z : ℤ) (m : LocalAndOffset) → Occurs set z m → instant m ≤ℤ pos (last_date_time + 93_599 * second)
occurs_early set z m (inl h) = let far = (near set.zone.now z m h.meant).0 in omega (arith, ints, far, h.range.not_after)
occurs_early set z m (inr h) = omega (arith, ints, h.range.not_after)

-- A time is not late.
not_late : (zones : EventZones) (y : ℤ) (lines : List (List ℕ)) → AnyHasTime zones y lines → y ≤ℤ pos (last_date_time + 93_599 * second)
not_late zones y lines (at_first _ b s at has) =
    let most = occurs_early has.set has.has.place has.has.moment has.has.occurs in omega (arith, ints, most, has.has.same)
not_late zones y lines (at_later _ b s at rest) = not_late zones y _ rest

pub fewer_left : (events : EventList) (m : LocalAndOffset) (r : Option LocalAndOffset) → IsNextTime (HasTimeAt events) (instant m) r → nanoseconds_left r < nanoseconds_left (Some m)
fewer_left events m None h = omega arith
fewer_left events m (Some k) h =
    let most = not_late events.zones (instant k) _ h.is in
    omega (arith, ints, most, h.later)

pub next_in : (events : EventList) (x : ℤ) (r : Option LocalAndOffset) (m : LocalAndOffset) → IsNextTime (HasTimeAt events) x r → r ≡ Some m
    → instant m ≤ℤ instant events.last → IsNextIn events x (instant m)
next_in events x r m next e most =
    let first = subst (IsNextTime (HasTimeAt events) x) e next in record { is = first.is; later = first.later; first = first.first; not_past = most }

pub end_in : (events : EventList) (x : ℤ) (r : Option LocalAndOffset) → IsNextTime (HasTimeAt events) x r
    → ((m : LocalAndOffset) → r ≡ Some m → instant events.last <ℤ instant m) → IsEndIn events x
end_in events x None none past y next = let most = none y next.is in omega (arith, ints, most, next.later)
end_in events x (Some m) first past y next =
    let most = first.first y next.is next.later in
    let late = past m refl in
    omega (arith, ints, most, late, next.not_past)

pub no_times : (events : EventList) (x : ℤ) (all : Bool) → IsEndIn events x → AreTimes events all x []
no_times events x all end = if_all all (IsEndIn events x) end
