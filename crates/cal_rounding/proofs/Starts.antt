-- The starts of days, and the nearer of two.
use Rattle.std.proofs.Common.{◌≡◌, ◌⊎◌, inl, inr, ℕ, ◌+◌, ◌*◌, refl, sym, subst, ap, ◌∙◌, arith, unsigned_abs, Option, Some, None, SomeIff, Ok, Err, false}
use Rattle.std.proofs.lemmas.Int.{ints, by_lt_z}
use Rattle.std.specs.Prelude.{ℤ, pos, ◌<ℤ◌, ◌≤ℤ◌, ◌+ℤ◌, ◌-ℤ◌, ◌*ℤ◌}
use Rattle.cal_time.specs.Date.{IsDate}
use Rattle.cal_time.specs.SignedDuration.{second, with_sign}
use Rattle.cal_datetime.specs.DateTime.{IsDateTime, date_at, date_time}
use Rattle.cal_datetime.specs.OffsetDateTime.{LocalAndOffset, instant, unix_seconds}
use Rattle.cal_zone.specs.Timeline.{Timeline, offset_at}
use Rattle.cal_zone.specs.declared.local_time_error.LocalTimeError.TheVariants.{OutOfRange}
use Rattle.cal_zoned.specs.Day.{IsFirstFrom, IsStart}
use Rattle.cal_zoned.specs.Zoned.{InZone, at_instant, instant_in, reading_at, seen}
use Rattle.cal_rounding.specs.declared.rounding_mode.RoundingMode.{RoundingMode}
use Rattle.cal_rounding.specs.InZone.{HasStarts, IsNearestStart, IsRoundedToDay}
use Rattle.cal_rounding.specs.Rounding.{IsRounded}
use Rattle.cal_rounding.proofs.OneResult.{some-one}

-- there is one first instant, and one start
first-one : (zone : Timeline) (reading a b : ℤ) → IsFirstFrom zone reading a → IsFirstFrom zone reading b → a ≡ b
first-one zone reading a b p q =
    by_lt_z a b (λ less. absurd (apart (reading_at zone a) reading (q.first a less) p.reached))
    (λ most. by_lt_z b a (λ less. absurd (apart (reading_at zone b) reading (p.first b less) q.reached)) (λ least. omega (arith, ints, most, least)))
  where
    apart : (x y : ℤ) → x <ℤ y → y ≤ℤ x → ⊥
    apart x y less most = omega (arith, ints, less, most)

pub start-one : (zone : Timeline) (reading : ℤ) (a b : Option InZone) → IsStart zone reading a → IsStart zone reading b → a ≡ b
start-one zone reading a b p q =
    let e = first-one zone reading p.instant q.instant p.first q.first in
    some-one _ _ a b (subst (λ (z : ℤ). SomeIff a (IsDateTime (reading_at zone z)) (at_instant zone z)) e p.value) q.value

pub no_start : (zone : Timeline) (reading : ℤ) (v : InZone) → IsStart zone reading None → IsStart zone reading (Some v) → ⊥
no_start zone reading v p q =
    let e = first-one zone reading p.instant q.instant p.first q.first in
    subst (λ (z : ℤ). ¬ IsDateTime (reading_at zone z)) e p.value q.value.0

-- what the clocks show at the instant of a date-time
seen_instant : (zone : Timeline) (z : ℤ) → instant (seen zone z) ≡ z
unfolding instant
seen_instant zone z = omega (arith, ints)

back : (m : LocalAndOffset) → instant m +ℤ m.offset *ℤ pos second ≡ m.local
unfolding instant
back m = omega (arith, ints)

pub own_reading : (zone : Timeline) (m : LocalAndOffset) → m.offset ≡ offset_at zone (unix_seconds (instant m)) → reading_at zone (instant m) ≡ m.local
own_reading zone m e = ap (λ (o : ℤ). instant m +ℤ o *ℤ pos second) (sym e) ∙ back m

from_midnight : (z : ℤ) → pos 0 ≤ℤ z → date_time (date_at z) 0 ≤ℤ z
unfolding date_at
from_midnight z some = omega (arith, ints, some)

-- the start of its day isn't after a date-time
pub not_after :
    (zone : Timeline) (m s : InZone) → m.moment.offset ≡ offset_at zone (unix_seconds (instant_in m)) → IsDateTime m.moment.local
    → IsStart zone (date_time (date_at m.moment.local) 0) (Some s) → instant_in s ≤ℤ instant_in m
not_after zone m s e inside p =
    let own = own_reading zone m.moment e in
    let from = from_midnight m.moment.local inside.not_before in
    let same : p.instant ≡ instant_in s = sym (ap instant_in p.value.1 ∙ seen_instant zone p.instant) in
    subst (λ (x : ℤ). x ≤ℤ instant_in m) same
    (by_lt_z (instant_in m) p.instant (λ less. absurd (apart _ _ _ (p.first.first (instant_in m) less) own from)) (λ most. most))
  where
    apart : (x y z : ℤ) → x <ℤ y → x ≡ z → y ≤ℤ z → ⊥
    apart x y z less e most = omega (arith, ints, less, e, most)

-- the time since a start, rounded to the length of the day or to none
pub whole_length :
    (mode : RoundingMode) (u p : ℕ) (length past : ℤ) → u ≡ unsigned_abs length → p ≡ unsigned_abs past → pos 0 ≤ℤ past → past <ℤ length
    → IsRounded mode u (with_sign false (0 * u + p)) (with_sign false ((0 + 1) * u)) → IsRounded mode (unsigned_abs length) past length
whole_length mode u p length past e f some less h =
    let a : pos (0 * u + p) ≡ past = omega (arith, ints, f, some) in
    let b : pos ((0 + 1) * u) ≡ length = omega (arith, ints, e, some, less) in
    subst (λ (x : ℕ). IsRounded mode x past length) e
    (subst (λ (x : ℤ). IsRounded mode u x length) a (subst (λ (x : ℤ). IsRounded mode u (pos (0 * u + p)) x) b h))

pub no_length :
    (mode : RoundingMode) (u p : ℕ) (length past : ℤ) → u ≡ unsigned_abs length → p ≡ unsigned_abs past → pos 0 ≤ℤ past
    → IsRounded mode u (with_sign false (0 * u + p)) (with_sign false (0 * u)) → IsRounded mode (unsigned_abs length) past (pos 0)
no_length mode u p length past e f some h =
    let a : pos (0 * u + p) ≡ past = omega (arith, ints, f, some) in
    let b : pos (0 * u) ≡ pos 0 = omega (arith, ints) in
    subst (λ (x : ℕ). IsRounded mode x past (pos 0)) e
    (subst (λ (x : ℤ). IsRounded mode u x (pos 0)) a (subst (λ (x : ℤ). IsRounded mode u (pos (0 * u + p)) x) b h))

-- the same between instants
pub to_end :
    (mode : RoundingMode) (m s e past length : ℤ) → past ≡ m -ℤ s → length ≡ e -ℤ s → s ≤ℤ m
    → (pos 0 ≤ℤ past → (length ≤ℤ past) ⊎ IsRounded mode (unsigned_abs length) past length)
    → (e ≤ℤ m) ⊎ IsRounded mode (unsigned_abs (e -ℤ s)) (m -ℤ s) (e -ℤ s)
to_end mode m s e past length f g low h =
    cases (h (omega (arith, ints, f, low)))
  where
    cases : (length ≤ℤ past) ⊎ IsRounded mode (unsigned_abs length) past length → (e ≤ℤ m) ⊎ IsRounded mode (unsigned_abs (e -ℤ s)) (m -ℤ s) (e -ℤ s)
    cases (inl most) = inl (omega (arith, ints, f, g, most))
    cases (inr r) = inr (subst (λ (x : ℤ). IsRounded mode (unsigned_abs x) (m -ℤ s) x) g (subst (λ (x : ℤ). IsRounded mode (unsigned_abs length) x length) f r))

pub to_start :
    (mode : RoundingMode) (m s e past length : ℤ) → past ≡ m -ℤ s → length ≡ e -ℤ s → s ≤ℤ m
    → (pos 0 ≤ℤ past → (past <ℤ length) × IsRounded mode (unsigned_abs length) past (pos 0))
    → (m <ℤ e) × IsRounded mode (unsigned_abs (e -ℤ s)) (m -ℤ s) (pos 0)
to_start mode m s e past length f g low h =
    let r = h (omega (arith, ints, f, low)) in
    let less = r.0 in (
      omega (arith, ints, f, g, less),
      subst (λ (x : ℤ). IsRounded mode (unsigned_abs x) (m -ℤ s) (pos 0)) g (subst (λ (x : ℤ). IsRounded mode (unsigned_abs length) x (pos 0)) f r.1),
    )

pub nearest_end :
    (mode : RoundingMode) (m s e : InZone)
    → (instant_in e ≤ℤ instant_in m) ⊎ IsRounded mode (unsigned_abs (instant_in e -ℤ instant_in s)) (instant_in m -ℤ instant_in s) (instant_in e -ℤ instant_in s)
    → IsNearestStart mode m s e e
nearest_end mode m s e (inl most) = record {
  choice = inr refl;
  before_end = λ less. absurd (omega (arith, ints, most, less));
  past_end = λ _. refl;
}
nearest_end mode m s e (inr r) = record { choice = inr refl; before_end = λ _. r; past_end = λ _. refl }

pub nearest_start :
    (mode : RoundingMode) (m s e : InZone)
    → (instant_in m <ℤ instant_in e) × IsRounded mode (unsigned_abs (instant_in e -ℤ instant_in s)) (instant_in m -ℤ instant_in s) (pos 0)
    → IsNearestStart mode m s e s
nearest_start mode m s e h =
    let less = h.0 in
    record {
      choice = inl refl;
      before_end = λ _. subst (λ (x : ℤ). IsRounded mode (unsigned_abs (instant_in e -ℤ instant_in s)) (instant_in m -ℤ instant_in s) x) (none (instant_in s)) h.1;
      past_end = λ most. absurd (omega (arith, ints, most, less));
    }
  where
    none : (z : ℤ) → pos 0 ≡ z -ℤ z
    none z = omega (arith, ints)

-- the same of the moments that were compared
pub near_end :
    (mode : RoundingMode) (m s e : InZone) (x y z : LocalAndOffset) → x ≡ m.moment → y ≡ s.moment → z ≡ e.moment → instant_in s ≤ℤ instant_in m
    → (instant y ≤ℤ instant x → (instant z ≤ℤ instant x) ⊎ IsRounded mode (unsigned_abs (instant z -ℤ instant y)) (instant x -ℤ instant y) (instant z -ℤ instant y))
    → IsNearestStart mode m s e e
near_end mode m s e x y z f g h low near =
    let one = subst (λ (v : LocalAndOffset). instant y ≤ℤ instant v → (instant z ≤ℤ instant v) ⊎ IsRounded mode (unsigned_abs (instant z -ℤ instant y)) (instant v -ℤ instant y) (instant z -ℤ instant y)) f near in
    let two = subst (λ (v : LocalAndOffset). instant v ≤ℤ instant_in m → (instant z ≤ℤ instant_in m) ⊎ IsRounded mode (unsigned_abs (instant z -ℤ instant v)) (instant_in m -ℤ instant v) (instant z -ℤ instant v)) g one in
    nearest_end mode m s e
    (subst (λ (v : LocalAndOffset). instant_in s ≤ℤ instant_in m → (instant v ≤ℤ instant_in m) ⊎ IsRounded mode (unsigned_abs (instant v -ℤ instant_in s)) (instant_in m -ℤ instant_in s) (instant v -ℤ instant_in s)) h two low)

pub near_start :
    (mode : RoundingMode) (m s e : InZone) (x y z : LocalAndOffset) → x ≡ m.moment → y ≡ s.moment → z ≡ e.moment → instant_in s ≤ℤ instant_in m
    → (instant y ≤ℤ instant x → (instant x <ℤ instant z) × IsRounded mode (unsigned_abs (instant z -ℤ instant y)) (instant x -ℤ instant y) (pos 0))
    → IsNearestStart mode m s e s
near_start mode m s e x y z f g h low near =
    let one = subst (λ (v : LocalAndOffset). instant y ≤ℤ instant v → (instant v <ℤ instant z) × IsRounded mode (unsigned_abs (instant z -ℤ instant y)) (instant v -ℤ instant y) (pos 0)) f near in
    let two = subst (λ (v : LocalAndOffset). instant v ≤ℤ instant_in m → (instant_in m <ℤ instant z) × IsRounded mode (unsigned_abs (instant z -ℤ instant v)) (instant_in m -ℤ instant v) (pos 0)) g one in
    nearest_start mode m s e
    (subst (λ (v : LocalAndOffset). instant_in s ≤ℤ instant_in m → (instant_in m <ℤ instant v) × IsRounded mode (unsigned_abs (instant v -ℤ instant_in s)) (instant_in m -ℤ instant_in s) (pos 0)) h two low)

-- a result by the two days
pub to_day :
    (mode : RoundingMode) (m s e r : InZone) (n k : ℕ) → n ≡ date_at m.moment.local → IsDate (n + 1) → k ≡ n + 1
    → IsStart m.zone (date_time n 0) (Some s) → IsStart m.zone (date_time k 0) (Some e) → IsNearestStart mode m s e r → IsRoundedToDay mode m (Ok r)
to_day mode m s e r n k day inside after from to nearest = record {
  value = (
    s,
    e,
    record {
      next = subst (λ (x : ℕ). IsDate (x + 1)) day inside;
      from = subst (λ (x : ℕ). IsStart m.zone (date_time x 0) (Some s)) day from;
      to = subst (λ (x : ℕ). IsStart m.zone (date_time x 0) (Some e)) (after ∙ ap (λ (x : ℕ). x + 1) day) to;
    },
    nearest,
  );
  error = tt;
}

pub no_day : (mode : RoundingMode) (m : InZone) → ((start end : InZone) → ¬ HasStarts m start end) → IsRoundedToDay mode m (Err OutOfRange)
no_day mode m h = record { value = tt; error = (refl, h) }

pub no_next : (m : InZone) (n : ℕ) → n ≡ date_at m.moment.local → (IsDate (n + 1) → ⊥) → (start end : InZone) → ¬ HasStarts m start end
no_next m n day out start end h = out (subst (λ (x : ℕ). IsDate (x + 1)) (sym day) h.next)

pub no_first : (m : InZone) (n : ℕ) → n ≡ date_at m.moment.local → IsStart m.zone (date_time n 0) None → (start end : InZone) → ¬ HasStarts m start end
no_first m n day out start end h = no_start m.zone _ start (subst (λ (x : ℕ). IsStart m.zone (date_time x 0) None) day out) h.from

pub no_second :
    (m : InZone) (n k : ℕ) → n ≡ date_at m.moment.local → k ≡ n + 1 → IsStart m.zone (date_time k 0) None → (start end : InZone) → ¬ HasStarts m start end
no_second m n k day after out start end h =
    no_start m.zone _ end (subst (λ (x : ℕ). IsStart m.zone (date_time x 0) None) (after ∙ ap (λ (x : ℕ). x + 1) day) out) h.to
