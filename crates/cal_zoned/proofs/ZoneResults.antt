-- Results of functions that take a zone apart from a date-time.
use Rattle.std.proofs.Common.{◌≡◌, ◌∙◌, refl, sym, ap, subst}
use Rattle.std.specs.Prelude.{Option, Some, None, Result, Ok, Err, SomeIff, IfOk, ℤ}
use Rattle.cal_datetime.specs.DateTime.{IsDateTime}
use Rattle.cal_datetime.specs.OffsetDateTime.{LocalAndOffset, instant, unix_seconds}
use Rattle.cal_zone.specs.Timeline.{Timeline, offset_at}
use Rattle.cal_zone.specs.declared.policy.Policy.{Policy}
use Rattle.cal_zone.specs.declared.local_time_error.LocalTimeError.{LocalTimeError}
use Rattle.cal_zoned.specs.Resolved.{IsKept, IsResolved}
use Rattle.cal_zoned.specs.Unchecked.{in_zone, start_in}
use Rattle.cal_zoned.specs.Zoned.{InZone, at_instant, reading_at, seen, IsSeen}

pub none_seen : (zone : Timeline) (m : LocalAndOffset) (z : ℤ) (r : Option LocalAndOffset) → m ≡ seen zone z → ¬ IsDateTime m.local → r ≡ None
    → SomeIff r (IsDateTime (reading_at zone z)) (seen zone z)
none_seen zone m z r e out f =
    subst (λ (x : Option LocalAndOffset). SomeIff x (IsDateTime (reading_at zone z)) (seen zone z)) (sym f)
    (λ h. out (subst IsDateTime (sym (ap (λ (x : LocalAndOffset). x.local) e)) h))

pub some_seen : (zone : Timeline) (m : LocalAndOffset) (z : ℤ) → m ≡ seen zone z → IsDateTime m.local → IsDateTime (reading_at zone z) × (m ≡ seen zone z)
some_seen zone m z e h = (subst IsDateTime (ap (λ (x : LocalAndOffset). x.local) e) h, e)

-- the same instant in other words
pub seen_from : (zone : Timeline) (x y : ℤ) (r : Result InZone LocalTimeError) → x ≡ y → IsSeen zone x r → IsSeen zone y r
seen_from zone x y r e h = subst (λ (z : ℤ). IsSeen zone z r) e h

-- a start by its moment
pub start_value : (zone : Timeline) (z : ℤ) (r : Option LocalAndOffset) → SomeIff r (IsDateTime (reading_at zone z)) (seen zone z)
    → SomeIff (start_in zone r) (IsDateTime (reading_at zone z)) (at_instant zone z)
start_value zone z None h = h
start_value zone z (Some m) h = (h.0, ap (in_zone zone) h.1)

pub if_ok_in : {A : Type 0} (r : Result LocalAndOffset LocalTimeError) → A → IfOk r (λ _. A)
if_ok_in (Ok m) a = a
if_ok_in (Err e) a = tt

-- a reading at the offset of a date-time, which is the zone's or is not
pub kept_here : (p : Policy) (zone : Timeline) (m here : LocalAndOffset) (reading s o : ℤ) → here ≡ record { local = reading; offset = m.offset } → s ≡ unix_seconds (instant here)
    → o ≡ offset_at zone s → o ≡ m.offset → IsKept p (in_zone zone m) reading (Ok (in_zone zone here))
kept_here p zone m here reading s o e f g same = record {
  kept = λ _. ap (λ (x : LocalAndOffset). Ok (in_zone zone x)) e;
  moved = λ no. absurd (no (record { same = refl; offset = sym same ∙ g ∙ ap (offset_at zone) (f ∙ ap (λ (x : LocalAndOffset). unix_seconds (instant x)) e) }));
}

pub not_kept : (p : Policy) (zone : Timeline) (m here : LocalAndOffset) (reading s o : ℤ) (r : Result InZone LocalTimeError) → here ≡ record { local = reading; offset = m.offset }
    → s ≡ unix_seconds (instant here) → o ≡ offset_at zone s → ¬ (o ≡ m.offset) → IsResolved p zone reading r → IsKept p (in_zone zone m) reading r
not_kept p zone m here reading s o r e f g other h = record {
  kept = λ shows. absurd (other (g ∙ ap (offset_at zone) (f ∙ ap (λ (x : LocalAndOffset). unix_seconds (instant x)) e) ∙ sym shows.offset));
  moved = λ _. h;
}
