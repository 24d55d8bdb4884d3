-- Instants in nanoseconds, and what the clocks of a zone show at them.
use Rattle.std.proofs.Common.{FitsSigned, w32, w64, ℕ, ◌≡◌, ◌≤◌, ◌<◌, ◌^◌, unsigned_abs, refl, sym, ap, ◌∙◌, subst, arith}
use Rattle.std.proofs.Math.Nat.{mul-le-mul}
use Rattle.std.proofs.lemmas.Int.{ints, unsigned_abs-mul}
use Rattle.std.specs.Prelude.{Option, None, Ok, Err, SomeIff, ℤ, pos, negsuc, ◌<ℤ◌, ◌≤ℤ◌, ◌+ℤ◌, ◌-ℤ◌, ◌*ℤ◌}
use Rattle.std.specs.Int.{int_div_euclid, int_rem_euclid}
use Rattle.cal_time.specs.SignedDuration.{second, IsDuration}
use Rattle.cal_time.specs.UtcOffset.{IsOffset}
use Rattle.cal_datetime.specs.DateTime.{IsDateTime}
use Rattle.cal_datetime.specs.OffsetDateTime.{LocalAndOffset, IsInstant, instant, unix_seconds, unix_epoch}
use Rattle.cal_datetime.specs.UnixTimeLaws.{seconds-and_past}
use Rattle.cal_zone.specs.Local.{Shows}
use Rattle.cal_zone.specs.Timeline.{Timeline, offset_at}
use Rattle.cal_zone.specs.Timeline as time
use Rattle.std.specs.Int.{w128}
use Rattle.cal_zoned.specs.Zoned.{InZone, at_instant, seen, reading_at}
use Rattle.cal_zoned.specs.Zoned.{IsSeen}
use Rattle.cal_zone.specs.declared.local_time_error.LocalTimeError.TheVariants.{OutOfRange}

pub is_instant : (m : LocalAndOffset) → IsDateTime m.local → IsOffset m.offset → IsInstant (instant m)
unfolding instant
is_instant m h o = record { not_before = omega (arith, ints, h.not_before, h.not_after); not_after = omega (arith, ints, h.not_before, h.not_after) }

pub instant_of : (L o z : ℤ) → L ≡ z +ℤ o *ℤ pos second → instant (record { local = L; offset = o }) ≡ z
unfolding instant
instant_of L o z e = omega (arith, ints, e)

back : (L o p z : ℤ) → z ≡ L -ℤ o *ℤ pos second → o ≡ p → L ≡ z +ℤ p *ℤ pos second
back L o p z e f = omega (arith, ints, e, f)

minus : (m : LocalAndOffset) → instant m ≡ m.local -ℤ m.offset *ℤ pos second
unfolding instant
minus m = refl

-- what the clocks show is what they show at its instant
pub seen_itself : (zone : Timeline) (L : ℤ) (m : LocalAndOffset) → Shows zone L m → m ≡ seen zone (instant m)
seen_itself zone L m h =
    let o = h.offset in
    let l : m.local ≡ instant m +ℤ offset_at zone (unix_seconds (instant m)) *ℤ pos second = back m.local m.offset _ (instant m) (minus m) o in
    λ i. record { local = l i; offset = o i }

-- whole seconds of an instant
pub seconds_at : (n : ℤ) → unix_seconds (unix_epoch +ℤ n) ≡ int_div_euclid n (pos second)
seconds_at n = let e : (unix_epoch +ℤ n) -ℤ unix_epoch ≡ n = omega (arith, ints) in ap (λ x. int_div_euclid x (pos second)) e

pub sum_at : (n q r o : ℤ) → q ≡ int_div_euclid n (pos second) → r ≡ int_rem_euclid n (pos second)
    → unix_epoch +ℤ (q +ℤ o) *ℤ pos second +ℤ r ≡ (unix_epoch +ℤ n) +ℤ o *ℤ pos second
sum_at n q r o e f = omega (arith, ints, seconds-and_past n, e, f)

pub itself : (zone : Timeline) (m : LocalAndOffset) → Shows zone m.local m → record { zone = zone; moment = m } ≡ at_instant zone (instant m)
itself zone m h = ap (λ (x : LocalAndOffset). the_pair zone x) (seen_itself zone m.local m h)
  where
    the_pair : Timeline → LocalAndOffset → InZone
    the_pair zone x = record { zone = zone; moment = x }

pub by_view : (v : InZone) {w : InZone} → w ≡ v → w ≡ at_instant w.zone (instant w.moment) → v ≡ at_instant v.zone (instant v.moment)
by_view v e h = subst (λ (x : InZone). x ≡ at_instant x.zone (instant x.moment)) e h

-- what the code of a lookup finds
pub found : (zone : Timeline) (n s p o L : ℤ) → s ≡ int_div_euclid n (pos second) → p ≡ int_rem_euclid n (pos second) → o ≡ offset_at zone s
    → L ≡ unix_epoch +ℤ (s +ℤ o) *ℤ pos second +ℤ p
    → record { local = L; offset = o } ≡ seen zone (unix_epoch +ℤ n)
found zone n s p o L e f g h =
    let same : o ≡ offset_at zone (unix_seconds (unix_epoch +ℤ n)) = g ∙ ap (offset_at zone) (e ∙ sym (seconds_at n)) in
    let l : L ≡ (unix_epoch +ℤ n) +ℤ offset_at zone (unix_seconds (unix_epoch +ℤ n)) *ℤ pos second = h ∙ sum_at n s p o e f ∙ ap (λ x. (unix_epoch +ℤ n) +ℤ x *ℤ pos second) same in
    λ i. record { local = l i; offset = same i }

pub rest_range : (n : ℤ) → (pos 0 ≤ℤ int_rem_euclid n (pos second)) × (int_rem_euclid n (pos second) <ℤ pos second)
rest_range (pos a) = (omega (arith, ints), omega (arith, ints))
rest_range (negsuc a) = (omega (arith, ints), omega (arith, ints))

-- seconds past an i64 are out of range
pub fits : (n d o : ℤ) → d ≡ int_div_euclid n (pos second) → IsOffset o → IsDateTime ((unix_epoch +ℤ n) +ℤ o *ℤ pos second) → FitsSigned w64 d
fits n d o e h i = let r = rest_range n in let s = seconds-and_past n in omega (arith, ints, r.0, r.1, s, e, h.magnitude, i.not_before, i.not_after)

pub sum_of : (L D S s o p : ℤ) → L ≡ unix_epoch → D ≡ S *ℤ pos second +ℤ p → S ≡ s +ℤ o → L +ℤ D ≡ unix_epoch +ℤ (s +ℤ o) *ℤ pos second +ℤ p
sum_of L D S s o p a n e = omega (arith, ints, a, n, e)

-- two ways to write an instant
pub instant_at : (n z : ℤ) → n ≡ z -ℤ unix_epoch → unix_epoch +ℤ n ≡ z
instant_at n z e = omega (arith, ints, e)

-- ---- the answer of a lookup, for a moment m that is what the clocks show at z
pub none_at : (zone : Timeline) (m : LocalAndOffset) (z : ℤ) (r : Option InZone) → m ≡ seen zone z → ¬ IsDateTime m.local → r ≡ None
    → SomeIff r (IsDateTime (reading_at zone z)) (at_instant zone z)
none_at zone m z r e out f =
    subst (λ (x : Option InZone). SomeIff x (IsDateTime (reading_at zone z)) (at_instant zone z)) (sym f)
    (λ h. out (subst IsDateTime (sym (ap (λ (x : LocalAndOffset). x.local) e)) h))

pub some_at : (zone : Timeline) (m : LocalAndOffset) (z : ℤ) → m ≡ seen zone z → IsDateTime m.local → IsDateTime (reading_at zone z) × (record { zone = zone; moment = m } ≡ at_instant zone z)
some_at zone m z e h = (subst IsDateTime (ap (λ (x : LocalAndOffset). x.local) e) h, λ i. record { zone = zone; moment = e i })

pub shows_at : (zone : Timeline) (m : LocalAndOffset) (z : ℤ) → m ≡ seen zone z → Shows zone m.local m
shows_at zone m z e = subst (λ (x : LocalAndOffset). Shows zone x.local x) (sym e) (record {
  same = refl;
  offset = ap (λ x. offset_at zone (unix_seconds x)) (sym (instant_of (reading_at zone z) (offset_at zone (unix_seconds z)) z refl));
})

pub within : (m : LocalAndOffset) (L o : ℤ) → m ≡ record { local = L; offset = o } → IsDateTime L → IsDateTime m.local
within m L o e h = subst IsDateTime (sym (ap (λ (x : LocalAndOffset). x.local) e)) h

-- an answer as an error
pub seen_ok : (zone : Timeline) (z y : ℤ) (v : InZone) → y ≡ z → IsDateTime (reading_at zone y) × (v ≡ at_instant zone y) → IsSeen zone z (Ok v)
seen_ok zone z y v e h =
    let g = subst (λ (x : ℤ). IsDateTime (reading_at zone x) × (v ≡ at_instant zone x)) e h in
    record { value = λ _. ap (λ (x : InZone). Ok x) g.1; error = λ out. absurd (out g.0) }

pub seen_err : (zone : Timeline) (z y : ℤ) → y ≡ z → ¬ IsDateTime (reading_at zone y) → IsSeen zone z (Err OutOfRange)
seen_err zone z y e h =
    let g = subst (λ (x : ℤ). ¬ IsDateTime (reading_at zone x)) e h in
    record { value = λ inside. absurd (g inside); error = λ _. refl }

pub sum_at_instant : (n d z v : ℤ) → n ≡ z -ℤ unix_epoch → d ≡ v → unix_epoch +ℤ (n +ℤ d) ≡ z +ℤ v
sum_at_instant n d z v e f = omega (arith, ints, e, f)

pub magnitude_of : (o : ℤ) → time.IsOffset o → IsOffset o
magnitude_of o h = record { magnitude = omega (arith, ints, h.0, h.1) }

pub duration_within : (d v : ℤ) → d ≡ v → IsDuration v → unsigned_abs d < 2 ^ 126
duration_within d v e j = omega (arith, ints, e, j.at_least, j.at_most)

-- a duration n times
pub times_is : (n v a d : ℤ) → a ≡ n → d ≡ v → a *ℤ d ≡ n *ℤ v
times_is n v a d e f = ap (λ (x : ℤ). x *ℤ d) e ∙ ap (λ (x : ℤ). n *ℤ x) f

pub times_within : (n v a d : ℤ) → FitsSigned w32 n → a ≡ n → d ≡ v → IsDuration v → unsigned_abs (a *ℤ d) < 2 ^ 126
times_within n v a d g e f j =
    let x : unsigned_abs a ≤ 2 ^ 31 = omega (arith, ints, e, g.sfits) in
    let y : unsigned_abs d ≤ 2 ^ 94 = omega (arith, ints, f, j.at_least, j.at_most) in
    let z = mul-le-mul x y in
    subst (λ (k : ℕ). k < 2 ^ 126) (sym (unsigned_abs-mul a d)) (omega (arith, z))

pub times_fits : (n v a d : ℤ) → FitsSigned w32 n → a ≡ n → d ≡ v → IsDuration v → FitsSigned w128 (a *ℤ d)
times_fits n v a d g e f j = let within = times_within n v a d g e f j in omega (arith, ints, within)

pub sum_fits : (n d z : ℤ) → n ≡ z -ℤ unix_epoch → IsInstant z → unsigned_abs d < 2 ^ 126 → FitsSigned w128 (n +ℤ d)
sum_fits n d z e i j = omega (arith, ints, e, i.not_before, i.not_after, j)

pub difference_at_instant : (n d z v : ℤ) → n ≡ z -ℤ unix_epoch → d ≡ v → unix_epoch +ℤ (n -ℤ d) ≡ z -ℤ v
difference_at_instant n d z v e f = omega (arith, ints, e, f)

pub difference_fits : (n d z v : ℤ) → n ≡ z -ℤ unix_epoch → d ≡ v → IsInstant z → IsDuration v → FitsSigned w128 (n -ℤ d)
difference_fits n d z v e f i j = omega (arith, ints, e, f, i.not_before, i.not_after, j.at_least, j.at_most)

pub answer_at : (zone other : Timeline) (x y : ℤ) (r : Option InZone) → zone ≡ other → x ≡ y → SomeIff r (IsDateTime (reading_at zone x)) (at_instant zone x)
    → SomeIff r (IsDateTime (reading_at other y)) (at_instant other y)
answer_at zone other x y r e f h =
    subst (λ (a : ℤ). SomeIff r (IsDateTime (reading_at other a)) (at_instant other a)) f
    (subst (λ (t : Timeline). SomeIff r (IsDateTime (reading_at t x)) (at_instant t x)) e h)
