-- One result.
use Rattle.std.proofs.Common.{◌≡◌, ℕ, refl, sym, ap, ◌∙◌, subst, arith}
use Rattle.std.specs.Prelude.{ℤ, pos, ◌+ℤ◌, Option, Some, None, Result, Ok, Err, IfOk, IfSome}
use Rattle.cal_datetime.specs.DateTime.{IsDateTime, date_at, last_date_time}
use Rattle.std.proofs.lemmas.Int.{ints, by_lt_z}
use Rattle.cal_zone.proofs.Orders.{not_less}
use Rattle.cal_time.specs.Date.{IsDate}
use Rattle.cal_schedule.specs.Period.{IsDaysLater}
use Rattle.cal_schedule.proofs.Periods.{no_value, zero_or_not}
use Rattle.cal_datetime.specs.OffsetDateTime.{LocalAndOffset, instant, unix_seconds}
use Rattle.cal_zone.specs.Local.{IsLocalOf, Shows}
use Rattle.cal_zone.specs.declared.local.Local.{Local}
use Rattle.cal_zone.specs.declared.local.Local.TheVariants.{Single, Gap, Fold}
use Rattle.cal_zone.specs.Timeline.{Timeline, offset_at}
use Rattle.cal_zoned.specs.Zoned.{InZone, IsSeen, at_instant, reading_at}
use Rattle.cal_zoned.specs.Period.{IsExact, IsMovedBy, IsMovedThen}
use Rattle.cal_zoned.specs.Resolved.{IsKept, IsResolved, IsMeant}
use Rattle.cal_zone.specs.declared.policy.Policy.{Policy}
use Rattle.cal_zone.specs.declared.policy.Policy.TheVariants as policy
use Rattle.cal_zone.specs.declared.local_time_error.LocalTimeError.{LocalTimeError}

by_range : (x : ℤ) (A : Type 0) → (IsDateTime x → A) → (¬ IsDateTime x → A) → A
by_range x A here out =
    by_lt_z x (pos 0) (λ less. out (λ i. not_less x (pos 0) less i.not_before))
    (λ most. by_lt_z (pos last_date_time) x (λ more. out (λ i. not_less (pos last_date_time) x more i.not_after)) (λ least. here (record { not_before = most; not_after = least })))

-- z is a date-time, or not: both answers are the same
seen-one : (zone : Timeline) (z : ℤ) (a b : Result InZone LocalTimeError) → IsSeen zone z a → IsSeen zone z b → a ≡ b
seen-one zone z a b p q =
    by_range (reading_at zone z) (a ≡ b) (λ inside. p.value inside ∙ sym (q.value inside)) (λ out. p.error out ∙ sym (q.error out))

-- the date-time that is seen at an instant
pub seen-is : (zone : Timeline) (z : ℤ) (m : InZone) → IsSeen zone z (Ok m) → IsDateTime (reading_at zone z) × (m ≡ at_instant zone z)
seen-is zone z m h =
    by_range (reading_at zone z) (IsDateTime (reading_at zone z) × (m ≡ at_instant zone z))
    (λ inside. let same = h.value inside in (inside, cc)) (λ out. let same = h.error out in absurd cc)

meant-one : (p : Policy) (zone : Timeline) (local : Local) (a b : Result InZone LocalTimeError) → IsMeant p zone local a → IsMeant p zone local b → a ≡ b
meant-one p zone (Single m) a b h k = h ∙ sym k
meant-one policy.Compatible zone (Gap g) a b h k = seen-one zone _ a b h k
meant-one policy.Earlier zone (Gap g) a b h k = seen-one zone _ a b h k
meant-one policy.Later zone (Gap g) a b h k = seen-one zone _ a b h k
meant-one policy.Reject zone (Gap g) a b h k = h ∙ sym k
meant-one policy.Compatible zone (Fold e l) a b h k = h ∙ sym k
meant-one policy.Earlier zone (Fold e l) a b h k = h ∙ sym k
meant-one policy.Later zone (Fold e l) a b h k = h ∙ sym k
meant-one policy.Reject zone (Fold e l) a b h k = h ∙ sym k

pub resolved-one : (p : Policy) (zone : Timeline) (reading : ℤ) (a b : Result InZone LocalTimeError) → ((r : ℤ) (x y : Local) → IsLocalOf zone r x → IsLocalOf zone r y → x ≡ y)
    → IsResolved p zone reading a → IsResolved p zone reading b → a ≡ b
resolved-one p zone reading a b one h k =
    meant-one p zone k.local a b (subst (λ (l : Local). IsMeant p zone l a) (one reading h.local k.local h.is_local k.is_local) h.meant) k.meant

-- ---- the zone of a result
zone_in : Timeline → Result InZone LocalTimeError → Timeline
zone_in zone (Ok m) = m.zone
zone_in zone (Err e) = zone

seen-zone : (zone : Timeline) (z : ℤ) (r : Result InZone LocalTimeError) → IsSeen zone z r → zone_in zone r ≡ zone
unfolding zone_in
seen-zone zone z r h = by_range (reading_at zone z) (zone_in zone r ≡ zone) (λ inside. ap (zone_in zone) (h.value inside)) (λ out. ap (zone_in zone) (h.error out))

meant-zone : (p : Policy) (zone : Timeline) (local : Local) (r : Result InZone LocalTimeError) → IsMeant p zone local r → zone_in zone r ≡ zone
unfolding zone_in
meant-zone p zone (Single m) r h = ap (zone_in zone) h
meant-zone policy.Compatible zone (Gap g) r h = seen-zone zone _ r h
meant-zone policy.Earlier zone (Gap g) r h = seen-zone zone _ r h
meant-zone policy.Later zone (Gap g) r h = seen-zone zone _ r h
meant-zone policy.Reject zone (Gap g) r h = ap (zone_in zone) h
meant-zone policy.Compatible zone (Fold e l) r h = ap (zone_in zone) h
meant-zone policy.Earlier zone (Fold e l) r h = ap (zone_in zone) h
meant-zone policy.Later zone (Fold e l) r h = ap (zone_in zone) h
meant-zone policy.Reject zone (Fold e l) r h = ap (zone_in zone) h

-- ---- a period
abbrev SeenAt : Timeline → ℤ → Result InZone LocalTimeError → Result InZone LocalTimeError → Type 0
SeenAt zone exact r (Ok m) = IsSeen zone (instant m.moment +ℤ exact) r
SeenAt zone exact r (Err e) = Unit {0}

abbrev pub IsFine : Result InZone LocalTimeError → Type 0
IsFine (Ok m) = Unit {0}
IsFine (Err e) = ⊥

pub moved_then : (p : Policy) (zone : Timeline) (reading exact : ℤ) (m : InZone) (r : Result InZone LocalTimeError) → IsResolved p zone reading (Ok m) → IsSeen m.zone (instant m.moment +ℤ exact) r
    → IsMovedThen p zone reading exact r
unfolding zone_in
moved_then p zone reading exact m r resolved seen =
    let own : IsSeen zone (instant m.moment +ℤ exact) r = subst (λ (t : Timeline). IsSeen t (instant m.moment +ℤ exact) r) (meant-zone p zone resolved.local (Ok m) resolved.meant) seen in
    record {
      middle = Ok m;
      resolved = resolved;
      later = λ n e. subst (SeenAt zone exact r) e own;
      error = λ e f. absurd (subst IsFine f tt);
    }

pub if_ok : {A : Type 0} (r : Result InZone LocalTimeError) → A → IfOk r (λ _. A)
if_ok (Ok m) a = a
if_ok (Err e) a = tt

-- months and days, or none of both
pub exact_or_not : (months days : ℤ) (A : Type 0) → (IsExact months days → A) → (¬ IsExact months days → A) → A
exact_or_not months days A still other =
    zero_or_not months A (λ zero. zero_or_not days A (λ none. still (zero, none)) (λ some. other (λ e. some e.1))) (λ some. other (λ e. some e.0))

-- ---- one result of a period
moved_then-one : (p : Policy) (zone : Timeline) (reading exact : ℤ) (a b : Result InZone LocalTimeError) → ((r : ℤ) (x y : Local) → IsLocalOf zone r x → IsLocalOf zone r y → x ≡ y)
    → IsMovedThen p zone reading exact a → IsMovedThen p zone reading exact b → a ≡ b
moved_then-one p zone reading exact a b one h k = by_middle h.middle refl (resolved-one p zone reading k.middle h.middle one k.resolved h.resolved)
  where
    by_middle : (x : Result InZone LocalTimeError) → h.middle ≡ x → k.middle ≡ x → a ≡ b
    by_middle (Ok m) e f = seen-one zone _ a b (h.later m e) (k.later m f)
    by_middle (Err w) e f = h.error w e ∙ sym (k.error w f)

pub moved_by-one : (p : Policy) (m : InZone) (months days exact : ℤ) (a b : Result InZone LocalTimeError) → ((r : ℤ) (x y : Local) → IsLocalOf m.zone r x → IsLocalOf m.zone r y → x ≡ y)
    → (found : Option ℕ) → ((n : ℕ) → IsDate n → IsDaysLater (date_at m.moment.local) months days n → found ≡ Some n)
    → IfSome found (λ n. IsDate n × IsDaysLater (date_at m.moment.local) months days n)
    → IsMovedBy p m months days exact a → IsMovedBy p m months days exact b → a ≡ b
moved_by-one p m months days exact a b one found every value h k =
    exact_or_not months days (a ≡ b) (λ still. seen-one m.zone _ a b (h.exact still) (k.exact still)) (λ calendar. clock found every value calendar)
  where
    clock : (found : Option ℕ) → ((n : ℕ) → IsDate n → IsDaysLater (date_at m.moment.local) months days n → found ≡ Some n)
        → IfSome found (λ n. IsDate n × IsDaysLater (date_at m.moment.local) months days n)
        → ¬ IsExact months days → a ≡ b
    clock None every value calendar = h.none calendar (λ n i j. no_value n (every n i j)) ∙ sym (k.none calendar (λ n i j. no_value n (every n i j)))
    clock (Some n) every value calendar = moved_then-one p m.zone _ exact a b one (h.moved calendar n value.0 value.1) (k.moved calendar n value.0 value.1)

-- ---- one result of another date or time
pub equal_or_not : (x y : ℤ) (A : Type 0) → (x ≡ y → A) → ((x ≡ y → ⊥) → A) → A
equal_or_not x y A same other = by_lt_z x y (λ less. other (λ e. absurd (omega (arith, ints, e, less)))) (λ least. by_lt_z y x (λ more. other (λ e. absurd (omega (arith, ints, e, more)))) (λ most. same (omega (arith, ints))))

pub kept-one : (p : Policy) (m : InZone) (reading : ℤ) (a b : Result InZone LocalTimeError) → ((r : ℤ) (x y : Local) → IsLocalOf m.zone r x → IsLocalOf m.zone r y → x ≡ y)
    → IsKept p m reading a → IsKept p m reading b → a ≡ b
kept-one p m reading a b one h k =
    let own : LocalAndOffset = record { local = reading; offset = m.moment.offset } in
    equal_or_not m.moment.offset (offset_at m.zone (unix_seconds (instant own))) (a ≡ b)
    (λ e. let shows : Shows m.zone reading own = record { same = refl; offset = e } in h.kept shows ∙ sym (k.kept shows))
    (λ other. resolved-one p m.zone reading a b one (h.moved (λ shows. other shows.offset)) (k.moved (λ shows. other shows.offset)))
