-- What functions that take a zone apart find is what the clocks of the zone show.
use Rattle.std.proofs.Common.{◌≡◌, ℕ, refl, sym, ap, subst, inl, inr, arith}
use Rattle.std.proofs.lemmas.Int.{ints}
use Rattle.std.specs.Prelude.{◌↔◌, ℤ, pos, ◌+ℤ◌, ◌*ℤ◌, Result, Ok, Err, IfOk}
use Rattle.std.proofs.lemmas.Bool.{cases_eq}
use Rattle.cal_datetime.specs.DateTime.{IsDateTime, date_at, with_date}
use Rattle.cal_datetime.specs.OffsetDateTime.{LocalAndOffset, instant, unix_seconds}
use Rattle.cal_time.specs.Date.{IsDate}
use Rattle.cal_schedule.specs.Period.{IsDaysLater}
use Rattle.cal_schedule.proofs.Periods.{once}
use Rattle.cal_zone.specs.Local.{NamesMoment, Shows}
use Rattle.cal_zone.specs.Timeline.{Timeline, offset_at}
use Rattle.cal_zone.specs.declared.local.Local.{Local}
use Rattle.cal_zone.specs.declared.local.Local.TheVariants.{Single, Gap, Fold}
use Rattle.cal_zone.specs.declared.local_time_error.LocalTimeError.{LocalTimeError}
use Rattle.cal_zone.specs.declared.local_time_error.LocalTimeError.TheVariants.{OutOfRange}
use Rattle.cal_zone.specs.declared.policy.Policy.{Policy}
use Rattle.cal_zone.specs.declared.policy.Policy.TheVariants as policy
use Rattle.cal_zoned.specs.Moves.{IsMovedTo}
use Rattle.cal_zoned.specs.Period.{IsExact, IsMovedBy, IsMovedThen}
use Rattle.cal_zoned.specs.Resolved.{IsKept, IsMeant, IsResolved}
use Rattle.cal_zoned.specs.Unchecked.{in_zone, result_in}
use Rattle.cal_zoned.specs.Zoned.{InZone, IsSeen}
use Rattle.cal_zoned.proofs.Instants.{itself, seen_itself, seen_ok, shows_at}
use Rattle.cal_zoned.proofs.OneResult.{IsFine, equal_or_not, exact_or_not, seen-is}

abbrev pub IsShown : Timeline → Result LocalAndOffset LocalTimeError → Type 0
IsShown zone r = IfOk r (λ m. Shows zone m.local m)

pub shown_seen : (zone : Timeline) (z : ℤ) (r : Result LocalAndOffset LocalTimeError) → IsSeen zone z (result_in zone r) → IsShown zone r
shown_seen zone z (Ok m) h = shows_at zone m z (ap (λ (v : InZone). v.moment) (seen-is zone z (in_zone zone m) h).1)
shown_seen zone z (Err e) h = tt

pub only_ok : (v w : InZone) → ◌≡◌ {A = Result InZone LocalTimeError} (Ok v) (Ok w) → v ≡ w
only_ok v w e = cc

shown_value : (zone : Timeline) (reading : ℤ) (x : LocalAndOffset) (r : Result LocalAndOffset LocalTimeError) → Shows zone reading x → result_in zone r ≡ Ok (in_zone zone x) → IsShown zone r
shown_value zone reading x (Ok m) h e =
    let same : m ≡ x = ap (λ (v : InZone). v.moment) (only_ok (in_zone zone m) (in_zone zone x) e) in
    subst (λ (y : LocalAndOffset). Shows zone y.local y) (sym same) (record { same = refl; offset = h.offset })
shown_value zone reading x (Err e) h f = tt

shown_meant : (p : Policy) (zone : Timeline) (reading : ℤ) (local : Local) (r : Result LocalAndOffset LocalTimeError) → ((m : LocalAndOffset) → NamesMoment local m ↔ Shows zone reading m)
    → IsMeant p zone local (result_in zone r) → IsShown zone r
shown_meant p zone reading (Single x) r set h = shown_value zone reading x r ((set x).0 refl) h
shown_meant policy.Compatible zone reading (Gap g) r set h = shown_seen zone _ r h
shown_meant policy.Earlier zone reading (Gap g) r set h = shown_seen zone _ r h
shown_meant policy.Later zone reading (Gap g) r set h = shown_seen zone _ r h
shown_meant policy.Reject zone reading (Gap g) (Ok m) set h = absurd (subst IsFine h tt)
shown_meant policy.Reject zone reading (Gap g) (Err e) set h = tt
shown_meant policy.Compatible zone reading (Fold e l) r set h = shown_value zone reading e r ((set e).0 (inl refl)) h
shown_meant policy.Earlier zone reading (Fold e l) r set h = shown_value zone reading e r ((set e).0 (inl refl)) h
shown_meant policy.Later zone reading (Fold e l) r set h = shown_value zone reading l r ((set l).0 (inr refl)) h
shown_meant policy.Reject zone reading (Fold e l) (Ok m) set h = absurd (subst IsFine h tt)
shown_meant policy.Reject zone reading (Fold e l) (Err w) set h = tt

pub shown_resolved : (p : Policy) (zone : Timeline) (reading : ℤ) (r : Result LocalAndOffset LocalTimeError) → IsResolved p zone reading (result_in zone r) → IsShown zone r
shown_resolved p zone reading r h = shown_meant p zone reading h.local r h.is_local.set h.meant

pub shown_kept : (p : Policy) (zone : Timeline) (m : LocalAndOffset) (reading : ℤ) (r : Result LocalAndOffset LocalTimeError) → IsKept p (in_zone zone m) reading (result_in zone r) → IsShown zone r
shown_kept p zone m reading r h =
    let own : LocalAndOffset = record { local = reading; offset = m.offset } in
    equal_or_not m.offset (offset_at zone (unix_seconds (instant own))) (IsShown zone r)
    (λ e. let shows : Shows zone reading own = record { same = refl; offset = e } in shown_value zone reading own r shows (h.kept shows))
    (λ other. shown_resolved p zone reading r (h.moved (λ shows. other shows.offset)))

pub shown_moved : (p : Policy) (zone : Timeline) (m : LocalAndOffset) (n : ℕ) (r : Result LocalAndOffset LocalTimeError) → Shows zone m.local m → IsMovedTo p (in_zone zone m) n (result_in zone r)
    → IsShown zone r
shown_moved p zone m n r shows h =
    elim (cases_eq (date_at m.local) n) as (λ _. IsShown zone r) [
      | inl same ↦ shown_value zone m.local m r shows (h.stays same)
      | inr other ↦ shown_resolved p zone _ r (h.moved other)
    ]

shown_then : (p : Policy) (zone : Timeline) (reading exact : ℤ) (r : Result LocalAndOffset LocalTimeError) → IsMovedThen p zone reading exact (result_in zone r) → IsShown zone r
shown_then p zone reading exact r h = by_middle r h.middle refl h.later h.error
  where
    by_middle : (r : Result LocalAndOffset LocalTimeError) (x : Result InZone LocalTimeError) → h.middle ≡ x
        → ((m : InZone) → h.middle ≡ Ok m → IsSeen zone (instant m.moment +ℤ exact) (result_in zone r))
        → ((e : LocalTimeError) → h.middle ≡ Err e → result_in zone r ≡ Err e) → IsShown zone r
    by_middle r (Ok m) e later error = shown_seen zone _ r (later m e)
    by_middle (Ok m) (Err w) e later error = absurd (subst IsFine (error w e) tt)
    by_middle (Err v) (Err w) e later error = tt

pub shown_by : (p : Policy) (zone : Timeline) (m : LocalAndOffset) (months days exact : ℤ) (r : Result LocalAndOffset LocalTimeError)
    → IsMovedBy p (in_zone zone m) months days exact (result_in zone r) → IsShown zone r
shown_by p zone m months days exact (Err e) h = tt
shown_by p zone m months days exact (Ok x) h =
    exact_or_not months days (IsShown zone (Ok x)) (λ still. shown_seen zone _ (Ok x) (h.exact still))
    (λ calendar. let d = h.is calendar in shown_then p zone _ exact (Ok x) (h.moved calendar d.0 d.1 d.2))

-- ---- no time later
pub still_seen : (zone : Timeline) (m : LocalAndOffset) (d : ℤ) → d ≡ pos 0 → Shows zone m.local m → IsDateTime m.local → IsSeen zone (instant m +ℤ d) (Ok (in_zone zone m))
still_seen zone m d zero shows inside =
    seen_ok zone (instant m +ℤ d) (instant m) (in_zone zone m) (omega (arith, ints, zero))
    (subst IsDateTime (ap (λ (x : LocalAndOffset). x.local) (seen_itself zone m.local m shows)) inside, itself zone m shows)

-- ---- a period, with nothing on the calendar or with something
pub by_exact : (p : Policy) (zone : Timeline) (m : LocalAndOffset) (months days exact s : ℤ) (r : Result InZone LocalTimeError) → IsExact months days → s ≡ exact → IsSeen zone (instant m +ℤ s) r
    → IsMovedBy p (in_zone zone m) months days exact r
by_exact p zone m months days exact s r still e h = record {
  exact = λ _. subst (λ (x : ℤ). IsSeen zone (instant m +ℤ x) r) e h;
  moved = λ calendar. absurd (calendar still);
  none = λ calendar. absurd (calendar still);
  is = λ calendar. absurd (calendar still);
}

pub by_clock : (p : Policy) (zone : Timeline) (m : LocalAndOffset) (months days exact s : ℤ) (r : Result InZone LocalTimeError) → ¬ IsExact months days → s ≡ exact
    → ((n : ℕ) → IsDate n → IsDaysLater (date_at m.local) months days n → IsMovedThen p zone (with_date m.local n) s r)
    → (((n : ℕ) → IsDate n → ¬ IsDaysLater (date_at m.local) months days n) → r ≡ Err OutOfRange)
    → IfOk r (λ _. (n : ℕ) × IsDate n × IsDaysLater (date_at m.local) months days n)
    → IsMovedBy p (in_zone zone m) months days exact r
by_clock p zone m months days exact s r calendar e moved none is = record {
  exact = λ still. absurd (calendar still);
  moved = λ _ n inside later. subst (λ (x : ℤ). IsMovedThen p zone (with_date m.local n) x r) e (moved n inside later);
  none = λ _ h. none h;
  is = λ _. is;
}

-- ---- an error and a date by their moments
pub none_in : (zone : Timeline) (r : Result LocalAndOffset LocalTimeError) → r ≡ Err OutOfRange → result_in zone r ≡ Err OutOfRange
none_in zone r e = ap (result_in zone) e

pub is_in : (A : Type 0) (zone : Timeline) (r : Result LocalAndOffset LocalTimeError) → IfOk r (λ _. A) → IfOk (result_in zone r) (λ _. A)
is_in A zone (Ok m) h = h
is_in A zone (Err e) h = tt

-- ---- once
pub once_by : (p : Policy) (m : InZone) (a b d : ℤ) (r : Result InZone LocalTimeError) → IsMovedBy p m (pos 1 *ℤ a) (pos 1 *ℤ b) (pos 1 *ℤ d) r → IsMovedBy p m a b d r
once_by p m a b d r h =
    subst (λ (x : ℤ). IsMovedBy p m x b d r) (once a) (subst (λ (x : ℤ). IsMovedBy p m (pos 1 *ℤ a) x d r) (once b) (subst (λ (x : ℤ). IsMovedBy p m (pos 1 *ℤ a) (pos 1 *ℤ b) x r) (once d) h))
