-- The period between two date-times in a zone.
use Rattle.std.proofs.Common.{◌≡◌, ℕ, ◌+◌, ◌<◌, ◌≤◌, refl, sym, ap, ◌∙◌, subst, arith, inl, inr}
use Rattle.std.specs.Prelude.{ℤ, pos, ◌+ℤ◌, ◌-ℤ◌, ◌≤ℤ◌, ◌<ℤ◌, Result, Ok, Err}
use Rattle.std.proofs.lemmas.Bool.{cases_eq, cases_lt}
use Rattle.std.proofs.lemmas.Int.{ints, by_lt_z}
use Rattle.cal_datetime.specs.DateTime.{IsDateTime, date_at}
use Rattle.cal_datetime.specs.OffsetDateTime.{LocalAndOffset, instant, unix_seconds}
use Rattle.cal_schedule.specs.Period.{parts, IsDaysLater, IsOneSign, Parts, days_of, months_of}
use Rattle.cal_schedule.proofs.OneAnswer.{until_by-one}
use Rattle.cal_schedule.proofs.Periods.{one_days_later}
use Rattle.cal_schedule.specs.Units.{IsUntilBy}
use Rattle.cal_schedule.specs.declared.unit.CalendarUnit.{CalendarUnit}
use Rattle.cal_zone.specs.Local.{IsLocalOf}
use Rattle.cal_zone.specs.Timeline.{Timeline, InOrder, offset_at}
use Rattle.cal_zone.specs.declared.local.Local.{Local}
use Rattle.cal_zone.specs.declared.policy.Policy.{Policy}
use Rattle.cal_zone.specs.declared.local_time_error.LocalTimeError.{LocalTimeError}
use Rattle.cal_zone.proofs.OneLocal.{local-one}
use Rattle.cal_zoned.specs.Moves.{IsMovedTo}
use Rattle.cal_zoned.specs.Unchecked.{in_zone}
use Rattle.cal_zoned.specs.Period.{IsExact, IsMovedThen, IsPeriodLater}
use Rattle.cal_zoned.specs.Resolved.{IsResolved}
use Rattle.cal_zoned.specs.Until.{date_part, IsBackTo, IsLastBackTo, IsLastUpTo, IsUntilInZone, IsUpTo}
use Rattle.cal_zoned.specs.Zoned.{InZone, IsSeen, at_instant, instant_in, reading_at}
use Rattle.cal_zoned.proofs.Instants.{instant_of}
use Rattle.cal_zoned.proofs.OneResult.{IsFine, resolved-one}
use Rattle.cal_zoned.proofs.PeriodsUntil.{leads_back, leads_on}
use Rattle.cal_zoned.proofs.Shown.{only_ok}
use Rattle.cal_zoned.proofs.StepsInOrder.{own_day}
use Rattle.cal_zoned.proofs.UnitEnds.{moved_to-one}

-- ---- a day on which a date-time has passed another one, or on which it can't be
there-one : (p : Policy) (zone : Timeline) → InOrder zone → (m r : LocalAndOffset) (n : ℕ) (v : InZone) → IsMovedTo p (in_zone zone m) n (Ok (in_zone zone r)) → IsMovedTo p (in_zone zone m) n (Ok v)
    → instant r ≡ instant_in v
there-one p zone order m r n v h k =
    ap (λ (x : InZone). instant_in x) (only_ok (in_zone zone r) v (moved_to-one p (in_zone zone m) n (Ok (in_zone zone r)) (Ok v) (local-one zone order) h k))

no_there : (p : Policy) (zone : Timeline) → InOrder zone → (m : LocalAndOffset) (n : ℕ) (v : InZone) (e : LocalTimeError) → IsMovedTo p (in_zone zone m) n (Ok v) → IsMovedTo p (in_zone zone m) n (Err e) → ⊥
no_there p zone order m n v e h k = subst IsFine (moved_to-one p (in_zone zone m) n (Ok v) (Err e) (local-one zone order) h k) tt

pub is_past : (p : Policy) (zone : Timeline) → InOrder zone → (m t r : LocalAndOffset) (n : ℕ) → IsMovedTo p (in_zone zone m) n (Ok (in_zone zone r)) → instant t <ℤ instant r
    → ¬ IsUpTo p (in_zone zone m) (in_zone zone t) n
is_past p zone order m t r n h past = λ up.
    let same = there-one p zone order m r n up.there h up.moved in
    let within = up.in_time in
    absurd (omega (arith, ints, same, within, past))

pub is_before : (p : Policy) (zone : Timeline) → InOrder zone → (m t r : LocalAndOffset) (n : ℕ) → IsMovedTo p (in_zone zone m) n (Ok (in_zone zone r)) → instant r <ℤ instant t
    → ¬ IsBackTo p (in_zone zone m) (in_zone zone t) n
is_before p zone order m t r n h past = λ back.
    let same = there-one p zone order m r n back.there h back.moved in
    let within = back.in_time in
    absurd (omega (arith, ints, same, within, past))

pub not_up_to : (p : Policy) (zone : Timeline) → InOrder zone → (m t : LocalAndOffset) (n : ℕ) (e : LocalTimeError) → IsMovedTo p (in_zone zone m) n (Err e) → ¬ IsUpTo p (in_zone zone m) (in_zone zone t) n
not_up_to p zone order m t n e h = λ up. no_there p zone order m n up.there e up.moved h

pub not_back_to : (p : Policy) (zone : Timeline) → InOrder zone → (m t : LocalAndOffset) (n : ℕ) (e : LocalTimeError) → IsMovedTo p (in_zone zone m) n (Err e) → ¬ IsBackTo p (in_zone zone m) (in_zone zone t) n
not_back_to p zone order m t n e h = λ back. no_there p zone order m n back.there e back.moved h

-- ---- one day less to look at
pub none_from : (d e top : ℕ) (A : ℕ → Type 0) → e + 1 ≡ d → ¬ A d → ((k : ℕ) → d < k → k ≤ top → ¬ A k) → (k : ℕ) → e < k → k ≤ top → ¬ A k
none_from d e top A is here rest k more most =
    elim (cases_lt d k) as (λ _. ¬ A k) [
      | inl past ↦ rest k past most
      | inr least ↦ let same : k ≡ d = omega (arith, is, more, least) in λ a. here (subst A same a)
    ]

pub none_to : (d e low : ℕ) (A : ℕ → Type 0) → e ≡ d + 1 → ¬ A d → ((k : ℕ) → k < d → low ≤ k → ¬ A k) → (k : ℕ) → k < e → low ≤ k → ¬ A k
none_to d e low A is here rest k less least =
    elim (cases_lt k d) as (λ _. ¬ A k) [
      | inl before ↦ rest k before least
      | inr most ↦ let same : k ≡ d = omega (arith, is, less, most) in λ a. here (subst A same a)
    ]

-- ---- on its own day a date-time stays
pub stays : (p : Policy) (m : InZone) (n : ℕ) → n ≡ date_at m.moment.local → IsMovedTo p m n (Ok m)
stays p m n e = record { stays = λ _. refl; moved = λ other. absurd (other (sym e)) }

-- ---- the rest has the sign of the days
pub signs_agree : (unit : CalendarUnit) (n t : ℕ) (p : Parts) (x y z e : ℤ) → IsUntilBy unit n t p → e ≡ y -ℤ z → (x ≤ℤ y → (n ≤ t) × (z ≤ℤ y)) → (y <ℤ x → (t ≤ n) × (y ≤ℤ z))
    → IsOneSign (parts p.years p.months p.weeks p.days e)
signs_agree unit n t p x y z e h is forward backward =
    by_lt_z y x
    (λ less. let b = backward less in let w = b.1 in let s = leads_back n t p h.one_sign h.leads b.0 h.no_clock in inr (s.0, s.1, s.2, s.3, omega (arith, ints, is, w)))
    (λ most. let f = forward most in let w = f.1 in let s = leads_on n t p h.one_sign h.leads f.0 h.no_clock in inl (s.0, s.1, s.2, s.3, omega (arith, ints, is, w)))

pub rest_is : (y z e : ℤ) → e ≡ y -ℤ z → y ≡ z +ℤ e
rest_is y z e h = omega (arith, ints, h)

-- ---- a period between two days that are the same has no months and no days
still_here : (n t : ℕ) (p : Parts) → n ≡ t → IsOneSign p → IsDaysLater n (months_of p) (days_of p) t → p.exact ≡ pos 0 → IsExact (months_of p) (days_of p)
still_here n t p e sign later none =
    let up = leads_on n t p sign later (omega (arith, e)) none in
    let down = leads_back n t p sign later (omega (arith, e)) none in
    let y = up.0 in let m = up.1 in let w = up.2 in let d = up.3 in
    let v = down.0 in let k = down.1 in let x = down.2 in let c = down.3 in
    (omega (arith, ints, y, m, v, k), omega (arith, ints, w, d, x, c))

-- ---- adding the period gives the instant
abbrev pub OneLocalIn : Timeline → Type 0
OneLocalIn zone = (r : ℤ) (x y : Local) → IsLocalOf zone r x → IsLocalOf zone r y → x ≡ y

same_seen : (zone : Timeline) (y z : ℤ) (r : Result InZone LocalTimeError) → y ≡ z → IsDateTime (reading_at zone z) → IsSeen zone y r → r ≡ Ok (at_instant zone z)
same_seen zone y z r e inside h = (subst (λ (x : ℤ). IsSeen zone x r) e h).value inside

by_then : (p : Policy) (zone : Timeline) (reading exact z : ℤ) (there : InZone) (r : Result InZone LocalTimeError) → OneLocalIn zone → IsResolved p zone reading (Ok there) → z ≡ instant_in there +ℤ exact
    → IsDateTime (reading_at zone z) → IsMovedThen p zone reading exact r → r ≡ Ok (at_instant zone z)
by_then p zone reading exact z there r one resolved e inside h =
    same_seen zone (instant_in there +ℤ exact) z r (sym e) inside (h.later there (resolved-one p zone reading h.middle (Ok there) one h.resolved resolved))

at-instant : (zone : Timeline) (z : ℤ) → instant_in (at_instant zone z) ≡ z
at-instant zone z = instant_of (reading_at zone z) (offset_at zone (unix_seconds z)) z refl

moved_there : (p : Policy) (unit : CalendarUnit) (m t : InZone) (period : Parts) → (h : IsUntilInZone p unit m t period) → IsMovedTo p m h.whole (Ok h.there)
moved_there p unit m t period h = by_lt_z (instant_in t) (instant_in m) (λ less. (h.backward less).moved) (λ most. (h.forward most).moved)

pub adds_in_zone : (p : Policy) (unit : CalendarUnit) (m : InZone) (z : ℤ) (period : Parts) (r : Result InZone LocalTimeError) → OneLocalIn m.zone → IsDateTime (reading_at m.zone z)
    → IsUntilInZone p unit m (at_instant m.zone z) period → IsPeriodLater p m period r → r ≡ Ok (at_instant m.zone z)
adds_in_zone p unit m z period r one inside h k =
    let there = moved_there p unit m (at_instant m.zone z) period h in
    let end : z ≡ instant_in h.there +ℤ period.exact = sym (at-instant m.zone z) ∙ h.exact in
    elim (cases_eq (date_at m.moment.local) h.whole) as (λ _. r ≡ Ok (at_instant m.zone z)) [
      | inl same ↦
          let own : h.there ≡ m = only_ok h.there m (there.stays same) in
          let still = still_here (date_at m.moment.local) h.whole (date_part period) same h.counted.one_sign h.counted.leads refl in
          same_seen m.zone (instant_in m +ℤ period.exact) z r (sym (end ∙ ap (λ (v : InZone). instant_in v +ℤ period.exact) own)) inside (k.exact still)
      | inr other ↦
          let calendar : ¬ IsExact (months_of period) (days_of period) = λ still. absurd (other (one_days_later (date_at m.moment.local) _ _ _ _ (own_day (date_at m.moment.local) (months_of period) (days_of period) still.0 still.1) h.counted.leads)) in
          by_then p m.zone _ period.exact z h.there r one (there.moved other) end inside (k.moved calendar h.whole h.in_range h.counted.leads)
    ]

-- ---- one answer
same_last_up : (p : Policy) (m t : InZone) (x y : ℕ) (a b : InZone) → IsLastUpTo p m t x a → IsLastUpTo p m t y b → x ≤ y
same_last_up p m t x y a b h k =
    elim (cases_lt y x) as (λ _. x ≤ y) [
      | inr least ↦ least
      | inl less ↦
          let from = k.from in
          elim h.to as (λ _. x ≤ y) [
            | inl on_way ↦ absurd (k.last x less on_way (record { there = a; moved = h.moved; in_time = h.in_time }))
            | inr own ↦ omega (arith, less, from, own)
          ]
    ]

same_last_back : (p : Policy) (m t : InZone) (x y : ℕ) (a b : InZone) → IsLastBackTo p m t x a → IsLastBackTo p m t y b → y ≤ x
same_last_back p m t x y a b h k =
    elim (cases_lt x y) as (λ _. y ≤ x) [
      | inr least ↦ least
      | inl less ↦
          let from = k.from in
          elim h.to as (λ _. y ≤ x) [
            | inl on_way ↦ absurd (k.last x less on_way (record { there = a; moved = h.moved; in_time = h.in_time }))
            | inr own ↦ omega (arith, less, from, own)
          ]
    ]

pub until_in_zone-one : (p : Policy) (unit : CalendarUnit) (m t : InZone) (x y : Parts) → OneLocalIn m.zone → IsUntilInZone p unit m t x → IsUntilInZone p unit m t y → x ≡ y
until_in_zone-one p unit m t x y one h k =
    let whole : h.whole ≡ k.whole = by_lt_z (instant_in t) (instant_in m)
    (λ less. let a = same_last_back p m t _ _ _ _ (h.backward less) (k.backward less) in let b = same_last_back p m t _ _ _ _ (k.backward less) (h.backward less) in omega (arith, a, b))
    (λ most. let a = same_last_up p m t _ _ _ _ (h.forward most) (k.forward most) in let b = same_last_up p m t _ _ _ _ (k.forward most) (h.forward most) in omega (arith, a, b)) in
    let moved = subst (λ (n : ℕ). IsMovedTo p m n (Ok h.there)) whole (moved_there p unit m t x h) in
    let there : h.there ≡ k.there = only_ok h.there k.there (moved_to-one p m k.whole (Ok h.there) (Ok k.there) one moved (moved_there p unit m t y k)) in
    let parts_are = until_by-one unit (date_at m.moment.local) k.whole (date_part x) (date_part y) (subst (λ (n : ℕ). IsUntilBy unit (date_at m.moment.local) n (date_part x)) whole h.counted) k.counted in
    let instants = ap (λ (v : InZone). instant_in v) there in
    let a = h.exact in
    let b = k.exact in
    let exact : x.exact ≡ y.exact = omega (arith, ints, instants, a, b) in
    λ i. record { years = (parts_are i).years; months = (parts_are i).months; weeks = (parts_are i).weeks; days = (parts_are i).days; exact = exact i }
