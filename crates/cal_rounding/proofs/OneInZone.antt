-- A date-time in a zone is rounded to one result.
use Rattle.std.proofs.Common.{◌≡◌, ◌⊎◌, inl, inr, ℕ, ◌<◌, sym, subst, ap, ◌∙◌, arith, unsigned_abs, Option, Some, None, Result, Ok, Err}
use Rattle.std.proofs.lemmas.Int.{ints, by_lt_z}
use Rattle.std.specs.Prelude.{ℤ, pos, ◌<ℤ◌, ◌≤ℤ◌, ◌-ℤ◌}
use Rattle.cal_datetime.specs.DateTime.{IsDateTime, last_date_time, time_at}
use Rattle.cal_datetime.specs.OffsetDateTime.{unix_seconds}
use Rattle.cal_zone.specs.Timeline.{offset_at}
use Rattle.cal_zone.specs.declared.local_time_error.LocalTimeError.{LocalTimeError}
use Rattle.cal_zone.specs.declared.local_time_error.LocalTimeError.TheVariants.{OutOfRange}
use Rattle.cal_zone.specs.declared.policy.Policy.{Policy}
use Rattle.cal_zone.specs.declared.policy.Policy.TheVariants.{Compatible}
use Rattle.cal_zoned.specs.Resolved.{IsKept}
use Rattle.cal_zoned.specs.Zoned.{InZone, instant_in}
use Rattle.cal_rounding.specs.declared.rounding_mode.RoundingMode.{RoundingMode}
use Rattle.cal_rounding.specs.InZone.{HasStarts, IsNearestStart, IsRoundedByClock, IsRoundedToDay}
use Rattle.cal_rounding.specs.Rounding.{since_midnight}
use Rattle.cal_rounding.proofs.OneResult.{rounded-one}
use Rattle.cal_rounding.proofs.Starts.{not_after, start-one}

apart : (x y : ℤ) → x <ℤ y → y ≤ℤ x → ⊥
apart x y less most = omega (arith, ints, less, most)

by_range : {P : Type 0} (z : ℤ) → (IsDateTime z → P) → ((IsDateTime z → ⊥) → P) → P
by_range z inside outside =
    by_lt_z z (pos 0) (λ low. outside (λ h. apart z (pos 0) low h.not_before))
    (λ some. by_lt_z (pos last_date_time) z (λ high. outside (λ h. apart (pos last_date_time) z high h.not_after)) (λ most. inside (record { not_before = some; not_after = most })))

pub clock-one :
    (mode : RoundingMode) (u : ℕ) (m : InZone) (a b : Result InZone LocalTimeError) → 0 < u
    → ((p : Policy) (reading : ℤ) (a b : Result InZone LocalTimeError) → IsKept p m reading a → IsKept p m reading b → a ≡ b)
    → IsRoundedByClock mode u m a → IsRoundedByClock mode u m b → a ≡ b
clock-one mode u m a b some one p q =
    let z = m.moment.local in
    let e = rounded-one mode u (pos (time_at z)) p.to q.to some p.rounded q.rounded in
    let kept = subst (λ (x : ℤ). IsDateTime (since_midnight z x) → IsKept Compatible m (since_midnight z x) b) (sym e) q.kept in
    let error = subst (λ (x : ℤ). ¬ IsDateTime (since_midnight z x) → b ≡ Err OutOfRange) (sym e) q.error in
    by_range (since_midnight z p.to) (λ inside. one Compatible (since_midnight z p.to) a b (p.kept inside) (kept inside)) (λ out. p.error out ∙ sym (error out))

value_or : InZone → Option InZone → InZone
value_or v None = v
value_or v (Some w) = w

same_value : (v w : InZone) → Some v ≡ Some w → v ≡ w
unfolding value_or
same_value v w e = ap (value_or v) e

nearest-one :
    (mode : RoundingMode) (m s e r t : InZone) → instant_in s ≤ℤ instant_in m → IsNearestStart mode m s e r → IsNearestStart mode m s e t → r ≡ t
nearest-one mode m s e r t low p q =
    by_lt_z (instant_in m) (instant_in e) (λ less. choose less p.choice q.choice) (λ most. p.past_end most ∙ sym (q.past_end most))
  where
    length : ℤ
    length = instant_in e -ℤ instant_in s

    some : instant_in m <ℤ instant_in e → 0 < unsigned_abs (instant_in e -ℤ instant_in s)
    some less = omega (arith, ints, low, less)

    instants : instant_in m <ℤ instant_in e → (instant_in r -ℤ instant_in s) ≡ (instant_in t -ℤ instant_in s)
    instants less = rounded-one mode _ (instant_in m -ℤ instant_in s) _ _ (some less) (p.before_end less) (q.before_end less)

    not_both : (x y : ℤ) → (x -ℤ instant_in s) ≡ (y -ℤ instant_in s) → x ≡ instant_in s → y ≡ instant_in e → instant_in m <ℤ instant_in e → ⊥
    not_both x y same f g less = omega (arith, ints, same, f, g, less, low)

    choose : instant_in m <ℤ instant_in e → (r ≡ s) ⊎ (r ≡ e) → (t ≡ s) ⊎ (t ≡ e) → r ≡ t
    choose less (inl a) (inl b) = a ∙ sym b
    choose less (inr a) (inr b) = a ∙ sym b
    choose less (inl a) (inr b) = absurd (not_both _ _ (instants less) (ap instant_in a) (ap instant_in b) less)
    choose less (inr a) (inl b) = absurd (not_both _ _ (sym (instants less)) (ap instant_in b) (ap instant_in a) less)

same_starts :
    (mode : RoundingMode) (m s e s' e' r t : InZone) → m.moment.offset ≡ offset_at m.zone (unix_seconds (instant_in m)) → IsDateTime m.moment.local
    → HasStarts m s e → HasStarts m s' e' → IsNearestStart mode m s e r → IsNearestStart mode m s' e' t → r ≡ t
same_starts mode m s e s' e' r t own inside h h' p q =
    let f = same_value s' s (start-one m.zone _ _ _ h'.from h.from) in
    let g = same_value e' e (start-one m.zone _ _ _ h'.to h.to) in
    nearest-one mode m s e r t (not_after m.zone m s own inside h.from) p
    (subst (λ (x : InZone). IsNearestStart mode m s x t) g (subst (λ (x : InZone). IsNearestStart mode m x e' t) f q))

pub day-one :
    (mode : RoundingMode) (m : InZone) (a b : Result InZone LocalTimeError) → m.moment.offset ≡ offset_at m.zone (unix_seconds (instant_in m))
    → IsDateTime m.moment.local → IsRoundedToDay mode m a → IsRoundedToDay mode m b → a ≡ b
day-one mode m (Ok r) (Ok t) own inside p q =
    ap Ok (same_starts mode m p.value.0 p.value.1 q.value.0 q.value.1 r t own inside p.value.2 q.value.2 p.value.3 q.value.3)
day-one mode m (Ok r) (Err f) own inside p q = absurd (q.error.1 p.value.0 p.value.1 p.value.2)
day-one mode m (Err e) (Ok t) own inside p q = absurd (p.error.1 q.value.0 q.value.1 q.value.2)
day-one mode m (Err e) (Err f) own inside p q = ap Err (p.error.0 ∙ sym q.error.0)
