-- What a call makes of a zone.
use Rattle.std.specs.Prelude.{⊤, ◌≡◌, ◌↔◌, ◌==◌, ◌++◌, ◌/◌, ℕ, ℤ, pos, neg_ℤ, ◌+ℤ◌, ◌-ℤ◌, ◌*ℤ◌, int_lt, false, true, List, IfOk, IfErr, MatchOption, Option, Some, None, Result, Ok, Err}
use Rattle.std.proofs.Common.{refl, sym, subst, arith}
use Rattle.std.proofs.lemmas.Bool.Decides.{nat_tests}
use Rattle.std.proofs.lemmas.Int.{ints}
use Rattle.cal_time.specs.Date.{IsDate}
use Rattle.cal_time.specs.Time.{IsTime}
use Rattle.cal_datetime.specs.DateTime.{date_time}
use Rattle.cal_datetime.specs.OffsetDateTime.{unix_epoch, unix_seconds}
use Rattle.cal_datetime.specs.UnixTimeLaws.{div_euclid-one}
use Rattle.cal_zone.specs.declared.instants.Instants.{Instants}
use Rattle.cal_zone.specs.declared.span.Span.{Span}
use Rattle.cal_zone.specs.declared.yearly.Yearly.{Yearly}
use Rattle.cal_zone.specs.Instants.{Names, IsExplained}
use Rattle.cal_zone.specs.Rule.{changes_from}
use Rattle.cal_zone.specs.Span.{IsSpan}
use Rattle.cal_zone.specs.Table.{changes_in}
use Rattle.cal_zone.specs.Timeline.{Timeline, local_at, InOrder, IsMoment, IsOffset}
use Rattle.cal_zone.specs.Zone.{made_of}
use Rattle.cal_zone.specs.declared.zone_parts.ZoneParts.{ZoneParts}
use Rattle.cal_zone.proofs.Moments.{in_range}
use Rattle.cal_tzif.specs.declared.zone_error.ZoneError.{ZoneError}
use Rattle.cal_c.proofs.Needs.{met}
use Rattle.cal_c.specs.Values.{need◌else◌then◌}
use Rattle.cal_c.specs.Zones.{local_ok, policy_number, yearly_in, zone_in, zone_of_parts, AreInstantsOf, HasZone, IsForZone, IsMade, IsPartsError, IsPartsOf, IsPolicy, IsResolved}
use Rattle.cal_c.specs.declared.zones.checked_zone.CheckedParts.{CheckedParts}
use Rattle.cal_c.specs.declared.zones.checked_zone.CheckedZone.{CheckedZone}
use Rattle.cal_zone.specs.declared.policy.Policy.{Policy}
use Rattle.cal_c.specs.declared.zones.results.LocalResult.{LocalResult}
use Rattle.cal_c.specs.declared.zones.results.PartsResult.{PartsResult}

-- The result for a struct that has this zone, and for one that has none.
pub for_zone : (c : CheckedZone) (z : Timeline) (Then : Timeline → Type 0) (Else : Type 0)
    → (z ≡ zone_in c) × HasZone c → (InOrder z → Then z) → IsForZone c Then Else
for_zone c z Then Else is found = record {
  zone = λ checked. subst (λ (t : Timeline). InOrder t → Then t) is.0 found checked.order;
  error = λ out. absurd (out is.1);
}

pub for_none : (c : CheckedZone) (Then : Timeline → Type 0) (Else : Type 0) → (HasZone c → ⊥) → Else → IsForZone c Then Else
for_none c Then Else none lost = record { zone = λ checked. absurd (none checked.parts); error = λ out. lost }

-- The same for an option of a zone.
pub for_some : (c : CheckedZone) (o : Option Timeline) (Then : Timeline → Type 0) (Else : Type 0)
    → MatchOption o (HasZone c → ⊥) (λ (z : Timeline). (z ≡ zone_in c) × HasZone c) → MatchOption o Else (λ (z : Timeline). InOrder z → Then z) → IsForZone c Then Else
for_some c (Some z) Then Else is found = for_zone c z Then Else is found
for_some c None Then Else none lost = for_none c Then Else none lost

-- A result for each policy, and one for a number that is not a policy.
pub for_policy : (k : ℕ) (o : Option Policy) (Bad : Type 0) (Then : Policy → Type 0)
    → MatchOption o (IsPolicy k → ⊥) (λ (q : Policy). IsPolicy k × (policy_number q ≡ k)) → MatchOption o Bad Then
    → need IsPolicy k else Bad then ((q : Policy) × (policy_number q ≡ k) × Then q)
for_policy k None Bad Then never bad = record { error = λ out. bad; value = λ is. absurd (never is) }
for_policy k (Some q) Bad Then is found = met is.0 (q, is.1, found)

-- The changes of parts with a rule.
pub with_rule : (p : CheckedParts) (bytes : List ℕ) (one other : Yearly) → p.rule ≡ 2 → one ≡ yearly_in p.one → other ≡ yearly_in p.other
    → (zone_of_parts bytes p).changes ≡ changes_in bytes p.layout ++ changes_from one other p.skip
with_rule p bytes one other two first second =
    let yes : (p.rule == 2) ≡ true = grind (arith, nat_tests) in rw (yes, first, second) refl

-- A row of a column gives the next one a span of its zone, if there is one.
abbrev pub HasSpan : Option Timeline → Span → Type 0
HasSpan o s = MatchOption o ⊤ (λ (z : Timeline). InOrder z → IsSpan z s)

pub next_span : (o : Option Timeline) (s s' : Span) (Bad : Type 0) (Then : Timeline → Type 0)
    → MatchOption o Bad (λ (z : Timeline). InOrder z → IsSpan z s → IsSpan z s' × Then z) → HasSpan o s
    → MatchOption o Bad (λ (z : Timeline). InOrder z → Then z) × HasSpan o s'
next_span (Some z) s s' Bad Then row held = ((λ order. (row order (held order)).1), (λ order. (row order (held order)).0))
next_span None s s' Bad Then row held = (row, tt)

-- A result for each option, by a result for each value.
pub match_by : {V : Type 0} (P Q : V → Type 0) (o : Option V) (Bad : Type 0) → ((v : V) → P v → Q v) → MatchOption o Bad P → MatchOption o Bad Q
match_by P Q (Some v) Bad by is = by v is
match_by P Q None Bad by is = is

-- The parts that are made of bytes, as the code finds them.
pub made : (bytes : List ℕ) (Says : Timeline → Type 0) (Fails : ZoneError → Type 0) (Parts : ZoneParts → Type 0) (r : Result ZoneParts ZoneError) (out : PartsResult)
    → ((p : ZoneParts) → Says (made_of p) → Parts p → InOrder (made_of p) × (p.bytes.now ≡ bytes))
    → IfOk r (λ (p : ZoneParts). Says (made_of p)) → IfOk r Parts → IfErr r Fails
    → IfOk r (λ (p : ZoneParts). IsPartsOf p.bytes.now (made_of p) out) → IfErr r (λ (e : ZoneError). IsPartsError e out) → IsMade bytes Says Fails out
made bytes Says Fails Parts (Ok p) out by says parts fails is error =
    let g = by p says parts in IsMade.zone (made_of p) says g.0 (subst (λ (b : List ℕ). IsPartsOf b (made_of p) out) g.1 is)
made bytes Says Fails Parts (Err e) out by says parts fails is error = IsMade.error e fails error

-- A reading that passed both tests of the code.
pub in_moments : (x y : ℤ) → y ≡ x → int_lt y (neg_ℤ (pos 1_152_921_504_606_846_976)) ≡ false → int_lt (pos 1_152_921_504_606_846_976) y ≡ false → IsMoment x
in_moments x y e low high = (grind (arith, ints), grind (arith, ints))

-- A day and a time of day in seconds since 1970-01-01 0:00, and the result of their instants.
pub reading_is : (n t : ℕ) (s : ℤ) → IsDate n → IsTime t → s ≡ (pos n -ℤ pos 365_961_662) *ℤ pos 86_400 +ℤ pos (t / 1_000_000_000) → s ≡ unix_seconds (date_time n t)
reading_is n t s date time is =
    let within = time.below_day in
    sym (div_euclid-one (date_time n t -ℤ unix_epoch) s (omega (arith, ints, is)) (omega (arith, ints, is)))

pub resolved : (z : Timeline) → InOrder z → (l s : ℤ) (its : Instants) (r : LocalResult) → s ≡ l
    → ((i : ℤ) → Names its i ↔ (local_at z i ≡ s)) → IsExplained z s its → (((i : ℤ) → Names its i → IsOffset (s -ℤ i)) → r ≡ local_ok s its) → IsResolved z l r
resolved z order l s its r same set explained is =
    subst (λ (x : ℤ). (these : Instants) × AreInstantsOf z x these × (r ≡ local_ok x these)) same
    (its, record { set = set; explained = explained }, is (λ i named. in_range z order s i i ((set i).0 named) refl))
