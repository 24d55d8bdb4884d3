-- The first instant at which clocks have reached a reading.
use Rattle.std.proofs.Common.{◌≡◌, ℕ, suc, ◌+◌, ◌-◌, ◌<◌, ◌≤◌, length, refl, sym, ap, ◌∙◌, subst, arith, inl, inr}
use Rattle.std.proofs.lemmas.Int.{ints, clamps, by_lt_z}
use Rattle.std.proofs.lemmas.Bool.{cases_lt, cases_eq}
use Rattle.std.specs.Prelude.{Option, Some, None, SomeIff, IfNone, IfSome, ◌↔◌, ◌⊎◌, ℤ, pos, ◌<ℤ◌, ◌≤ℤ◌, ◌+ℤ◌, ◌-ℤ◌, ◌*ℤ◌}
use Rattle.std.specs.Int.{int_min, int_max, int_rem_euclid}
use Rattle.cal_time.specs.SignedDuration.{second}
use Rattle.cal_datetime.specs.OffsetDateTime.{LocalAndOffset, instant, unix_epoch, unix_seconds, epoch_day}
use Rattle.cal_datetime.specs.UnixTimeLaws.{div_euclid-one, seconds-and_past}
use Rattle.cal_zone.specs.Local.{Shows}
use Rattle.cal_zone.proofs.Moments.{moment_shows, shown_instant}
use Rattle.cal_datetime.specs.DateTime.{IsDateTime, date_time, date_at}
use Rattle.cal_zoned.specs.Zoned.{InZone, at_instant, reading_at}
use Rattle.cal_zoned.specs.Day.{IsFirstFrom, IsStart, IsDayLength}
use Rattle.cal_zoned.proofs.Instants.{instant_of, seen_itself, some_at, seconds_at, rest_range}
use Rattle.cal_zone.specs.Timeline.{Timeline, IsOrdered, at, ends, offset_at, local_at}
use Rattle.cal_zone.specs.Instants.{IsGap}
use Rattle.cal_zone.proofs.Offsets.{offset_from-count}
use Rattle.cal_zone.proofs.OneLocal.{gap_index}
use Rattle.cal_zone.proofs.Orders.{ends_rise, not_less}
use Rattle.cal_zone.proofs.Readings.{after, some_count, offset_between}

abbrev Order : Timeline → Type 0
Order zone = IsOrdered zone.first.offset zone.changes

-- how many changes are not after an instant, and its reading
record IsCount (zone : Timeline) (i : ℤ) (m : ℕ) : Type 0 where
  inside : m ≤ length zone.changes
  below : (k : ℕ) → k < m → at zone.changes k ≤ℤ i
  above : (k : ℕ) → m ≤ k → k < length zone.changes → i <ℤ at zone.changes k
  reading : local_at zone i ≡ i +ℤ after zone m

count_of : (zone : Timeline) → Order zone → (i : ℤ) → (m : ℕ) × IsCount zone i m
count_of zone order i =
    let r = some_count zone order i (length zone.changes) (omega arith) in (
      r.0,
      record {
        inside = r.1;
        below = r.2;
        above = r.3;
        reading = ap (λ x. i +ℤ x) (offset_from-count zone.first zone.changes i r.0 (λ k less inside. r.2 k less) r.3);
      },
    )

-- ---- over plain numbers
before_next : (j a x y E b c d L : ℤ) → L ≡ j +ℤ x → j <ℤ a → (a +ℤ int_max x y) ≤ℤ E → E ≤ℤ (b +ℤ int_min c d) → L <ℤ (b +ℤ c)
before_next j a x y E b c d L e h p q = omega (arith, ints, clamps)

after_next : (j a x y E b c d L : ℤ) → L ≡ j +ℤ d → b ≤ℤ j → (a +ℤ int_max x y) ≤ℤ E → E ≤ℤ (b +ℤ int_min c d) → (a +ℤ y) ≤ℤ L
after_next j a x y E b c d L e h p q = omega (arith, ints, clamps)

less_by : (j a x L : ℤ) → L ≡ j +ℤ x → j <ℤ a → L <ℤ (a +ℤ x)
less_by j a x L e h = omega (arith, ints)

most_by : (j a x L : ℤ) → L ≡ j +ℤ x → a ≤ℤ j → (a +ℤ x) ≤ℤ L
most_by j a x L e h = omega (arith, ints)

-- before a change clocks have not reached its reading by the offset before it
pub before_change : (zone : Timeline) → Order zone → (j : ℤ) (k : ℕ) → k < length zone.changes → j <ℤ at zone.changes k → local_at zone j <ℤ (at zone.changes k +ℤ after zone k)
before_change zone order j k inside less =
    let c = count_of zone order j in
    let m = c.0 in
    let w = c.1 in
    elim (cases_lt k m) as (λ _. local_at zone j <ℤ (at zone.changes k +ℤ after zone k)) [
      | inl past ↦ absurd (not_less j (at zone.changes k) less (w.below k past))
      | inr most ↦ elim (cases_eq m k) as (λ _. local_at zone j <ℤ (at zone.changes k +ℤ after zone k)) [
        | inl e ↦ less_by j (at zone.changes k) (after zone k) (local_at zone j) (subst (λ (n : ℕ). local_at zone j ≡ j +ℤ after zone n) e w.reading) less
        | inr other ↦
            let p = k - 1 in
            let e : k ≡ suc p = omega arith in
            let within : suc p < length zone.changes = omega arith in
            let next = order.apart p within in
            subst (λ (n : ℕ). local_at zone j <ℤ (at zone.changes n +ℤ after zone n)) (sym e)
            (before_next j (at zone.changes m) (after zone m) (after zone (suc m)) (ends zone.first.offset zone.changes p) (at zone.changes (suc p)) (after zone (suc p)) (after zone (suc (suc p))) (local_at zone j)
            w.reading (w.above m (omega arith) (omega arith)) (ends_rise zone order m p (omega arith) (omega arith)) next)
      ]
    ]

-- and from the change on they have reached its reading by the offset after it
pub after_change : (zone : Timeline) → Order zone → (j : ℤ) (k : ℕ) → k < length zone.changes → at zone.changes k ≤ℤ j → (at zone.changes k +ℤ after zone (suc k)) ≤ℤ local_at zone j
after_change zone order j k inside most =
    let c = count_of zone order j in
    let m = c.0 in
    let w = c.1 in
    elim (cases_lt k m) as (λ _. (at zone.changes k +ℤ after zone (suc k)) ≤ℤ local_at zone j) [
      | inr ahead ↦ absurd (not_less j (at zone.changes k) (w.above k ahead inside) most)
      | inl past ↦ elim (cases_eq m (suc k)) as (λ _. (at zone.changes k +ℤ after zone (suc k)) ≤ℤ local_at zone j) [
        | inl e ↦ most_by j (at zone.changes k) (after zone (suc k)) (local_at zone j) (subst (λ (n : ℕ). local_at zone j ≡ j +ℤ after zone n) e w.reading) most
        | inr other ↦
            let p = m - 2 in
            let e : m ≡ suc (suc p) = omega arith in
            let i = w.inside in
            let within : suc p < length zone.changes = omega (arith, i) in
            after_next j (at zone.changes k) (after zone k) (after zone (suc k)) (ends zone.first.offset zone.changes p) (at zone.changes (suc p)) (after zone (suc p)) (after zone (suc (suc p))) (local_at zone j)
            (subst (λ (n : ℕ). local_at zone j ≡ j +ℤ after zone n) e w.reading) (w.below (suc p) (omega arith)) (ends_rise zone order k p (omega arith) (omega arith)) (order.apart p within)
      ]
    ]

-- ---- an instant that shows a reading which clocks had reached before: they showed it before
earlier_number : (M i a x y : ℤ) → M ≡ i +ℤ y → a ≤ℤ i → M <ℤ (a +ℤ x) → ((M -ℤ x) <ℤ a) × ((M -ℤ x) <ℤ i)
earlier_number M i a x y e h p = (omega (arith, ints), omega (arith, ints))

since_change : (M i a x y b u E : ℤ) → M ≡ i +ℤ y → a ≤ℤ i → M <ℤ (a +ℤ x) → E ≡ b +ℤ int_max u x → E ≤ℤ (a +ℤ int_min x y) → b ≤ℤ (M -ℤ x)
since_change M i a x y b u E e h p f q = omega (arith, ints, clamps)

up_again : (M x : ℤ) → (M -ℤ x) +ℤ x ≡ M
up_again M x = omega (arith, ints)

not_both : (j i x M L : ℤ) → L ≡ j +ℤ x → M ≡ i +ℤ x → j <ℤ i → M ≤ℤ L → ⊥
not_both j i x M L e f h p = omega (arith, ints)

pub shown_before : (zone : Timeline) → Order zone → (i j : ℤ) → j <ℤ i → local_at zone i ≤ℤ local_at zone j → (h : ℤ) × (h <ℤ i) × (local_at zone h ≡ local_at zone i)
shown_before zone order i j less most =
    let c = count_of zone order i in
    let d = count_of zone order j in
    by_counts c.0 d.0 c.1 d.1
  where
    by_counts : (m n : ℕ) → IsCount zone i m → IsCount zone j n → (h : ℤ) × (h <ℤ i) × (local_at zone h ≡ local_at zone i)
    by_counts m n c d =
        elim (cases_lt n m) as (λ _. (h : ℤ) × (h <ℤ i) × (local_at zone h ≡ local_at zone i)) [
          | inl apart ↦
              let k = m - 1 in
              let e : m ≡ suc k = omega arith in
              let some : k < length zone.changes = let w = c.inside in omega (arith, w) in
              let past : at zone.changes k ≤ℤ i = c.below k (omega arith) in
              let shown : local_at zone i ≡ i +ℤ after zone (suc k) = subst (λ (p : ℕ). local_at zone i ≡ i +ℤ after zone p) e c.reading in
              let early : local_at zone i <ℤ (at zone.changes k +ℤ after zone k) = below_it (local_at zone i) (local_at zone j) _ most (before_change zone order j k some (d.above k (omega arith) some)) in
              let numbers = earlier_number (local_at zone i) i (at zone.changes k) (after zone k) (after zone (suc k)) shown past early in
              let offset : offset_at zone (local_at zone i -ℤ after zone k) ≡ after zone k =
              offset_between zone order _ _ k (omega arith)
              (λ p f. since p k f some shown past early)
              (λ _. numbers.0) refl in
              (local_at zone i -ℤ after zone k, numbers.1, ap (λ x. (local_at zone i -ℤ after zone k) +ℤ x) offset ∙ up_again (local_at zone i) (after zone k))
          | inr same ↦
              elim (cases_lt m n) as (λ _. (h : ℤ) × (h <ℤ i) × (local_at zone h ≡ local_at zone i)) [
                | inl further ↦ let w = d.inside in absurd (turned i j (at zone.changes m) less (c.above m (omega arith) (omega (arith, w))) (d.below m further))
                | inr least ↦
                    let e : n ≡ m = omega arith in
                    absurd (not_both j i (after zone m) (local_at zone i) (local_at zone j) (subst (λ (p : ℕ). local_at zone j ≡ j +ℤ after zone p) e d.reading) c.reading less most)
              ]
        ]
      where
        below_it : (a b x : ℤ) → a ≤ℤ b → b <ℤ x → a <ℤ x
        below_it a b x p q = omega (arith, ints)

        since : (p k : ℕ) → suc p ≡ k → k < length zone.changes → local_at zone i ≡ i +ℤ after zone (suc k) → at zone.changes k ≤ℤ i → local_at zone i <ℤ (at zone.changes k +ℤ after zone k)
            → at zone.changes p ≤ℤ (local_at zone i -ℤ after zone k)
        since p k f some shown past early =
            let g = order.apart p (subst (λ (x : ℕ). x < length zone.changes) (sym f) some) in
            subst (λ (x : ℕ). local_at zone i ≡ i +ℤ after zone (suc x) → at zone.changes x ≤ℤ i → local_at zone i <ℤ (at zone.changes x +ℤ after zone x) → at zone.changes p ≤ℤ (local_at zone i -ℤ after zone x)) f
            (λ s q r. since_change (local_at zone i) i (at zone.changes (suc p)) (after zone (suc p)) (after zone (suc (suc p))) (at zone.changes p) (after zone p) _ s q r refl g) shown past early

        turned : (i j a : ℤ) → j <ℤ i → i <ℤ a → a ≤ℤ j → ⊥
        turned i j a p q r = omega (arith, ints)

-- ---- in nanoseconds
at_seconds : (i : ℤ) → unix_seconds (unix_epoch +ℤ i *ℤ pos second) ≡ i
at_seconds i = seconds_at (i *ℤ pos second) ∙ div_euclid-one (i *ℤ pos second) i (omega (arith, ints)) (omega (arith, ints))

-- the reading S in seconds is reached at the second i, and not before
pub first_at : (zone : Timeline) (M S i : ℤ) → M ≡ unix_epoch +ℤ S *ℤ pos second → S ≤ℤ local_at zone i → ((j : ℤ) → j <ℤ i → local_at zone j <ℤ S)
    → IsFirstFrom zone M (unix_epoch +ℤ i *ℤ pos second)
first_at zone M S i e reached before = record {
  reached =
      subst (λ (q : ℤ). M ≤ℤ ((unix_epoch +ℤ i *ℤ pos second) +ℤ offset_at zone q *ℤ pos second)) (sym (at_seconds i))
      (from_seconds M S i (offset_at zone i) e reached);
  first = λ y less.
      let q = unix_seconds y in
      let p = rest_range (y -ℤ unix_epoch) in
      let split = seconds-and_past (y -ℤ unix_epoch) in
      let early : q <ℤ i = earlier_second y i q (int_rem_euclid (y -ℤ unix_epoch) (pos second)) split p.0 p.1 less in
      still_before M S y q (offset_at zone q) (int_rem_euclid (y -ℤ unix_epoch) (pos second)) e split p.1 (before q early);
}
  where
    from_seconds : (M S i o : ℤ) → M ≡ unix_epoch +ℤ S *ℤ pos second → S ≤ℤ (i +ℤ o) → M ≤ℤ ((unix_epoch +ℤ i *ℤ pos second) +ℤ o *ℤ pos second)
    from_seconds M S i o e h = omega (arith, ints, e, h)

    earlier_second : (y i q r : ℤ) → (y -ℤ unix_epoch) ≡ q *ℤ pos second +ℤ r → pos 0 ≤ℤ r → r <ℤ pos second → y <ℤ (unix_epoch +ℤ i *ℤ pos second) → q <ℤ i
    earlier_second y i q r e low high less = omega (arith, ints, e)

    still_before : (M S y q o r : ℤ) → M ≡ unix_epoch +ℤ S *ℤ pos second → (y -ℤ unix_epoch) ≡ q *ℤ pos second +ℤ r → r <ℤ pos second → (q +ℤ o) <ℤ S → (y +ℤ o *ℤ pos second) <ℤ M
    still_before M S y q o r e f high less = omega (arith, ints, e, f)

-- of a moment that shows a reading in whole seconds, before which no other shows it
pub first_shown : (zone : Timeline) → Order zone → (M S : ℤ) → M ≡ unix_epoch +ℤ S *ℤ pos second → (x : LocalAndOffset) → Shows zone M x
    → ((m : LocalAndOffset) → Shows zone M m → instant x ≤ℤ instant m)
    → IsFirstFrom zone M (instant x)
first_shown zone order M S e x shows least =
    let w = shown_instant zone M x shows in
    let i = w.0 in
    let seconds : unix_seconds M ≡ S = ap unix_seconds e ∙ at_seconds S in
    let same : instant x ≡ unix_epoch +ℤ i *ℤ pos second = ap instant w.2 ∙ instant_second M S i (offset_at zone i) e (w.1 ∙ seconds) in
    subst (IsFirstFrom zone M) (sym same)
    (first_at zone M S i e (at_least (local_at zone i) S (w.1 ∙ seconds))
    (λ j less. by_lt_z (local_at zone j) S (λ before. before) (λ most.
    let h = shown_before zone order i j less (from_equal (local_at zone i) S (local_at zone j) (w.1 ∙ seconds) most) in
    let other = moment_shows zone M h.0 (h.2 ∙ w.1) in
    let there : instant (record { local = M; offset = offset_at zone h.0 }) ≡ unix_epoch +ℤ h.0 *ℤ pos second = instant_second M S h.0 (offset_at zone h.0) e (h.2 ∙ w.1 ∙ seconds) in
    absurd (no_earlier (instant x) (instant (record { local = M; offset = offset_at zone h.0 })) i h.0 same there h.1 (least _ other)))))
  where
    at_least : (a b : ℤ) → a ≡ b → b ≤ℤ a
    at_least a b e = omega (arith, ints, e)

    from_equal : (a b c : ℤ) → a ≡ b → b ≤ℤ c → a ≤ℤ c
    from_equal a b c e h = omega (arith, ints, e)

    no_earlier : (z y i h : ℤ) → z ≡ unix_epoch +ℤ i *ℤ pos second → y ≡ unix_epoch +ℤ h *ℤ pos second → h <ℤ i → z ≤ℤ y → ⊥
    no_earlier z y i h e f p q = omega (arith, ints, e, f)

    instant_second : (M S i o : ℤ) → M ≡ unix_epoch +ℤ S *ℤ pos second → i +ℤ o ≡ S → instant (record { local = M; offset = o }) ≡ unix_epoch +ℤ i *ℤ pos second
    instant_second M S i o e f = instant_of M o _ (sums M S i o e f)
      where
        sums : (M S i o : ℤ) → M ≡ unix_epoch +ℤ S *ℤ pos second → i +ℤ o ≡ S → M ≡ (unix_epoch +ℤ i *ℤ pos second) +ℤ o *ℤ pos second
        sums M S i o e f = omega (arith, ints, e, f)

-- of a gap over a reading
pub first_past_gap : (zone : Timeline) → Order zone → (M S a b f : ℤ) → M ≡ unix_epoch +ℤ S *ℤ pos second → IsGap zone S a b f → IsFirstFrom zone M (unix_epoch +ℤ a *ℤ pos second)
first_past_gap zone order M S a b f e gap =
    let (k, g) = gap_index zone order S a b f gap in
    first_at zone M S a e
    (reached S a f (local_at zone a) (ap (λ x. a +ℤ x) gap.after_is) gap.ends)
    (λ j less. not_yet (local_at zone j) S a b (at zone.changes k) (after zone k) g.at_is g.before_is gap.starts
    (before_change zone order j k g.inside (subst (λ (x : ℤ). j <ℤ x) g.at_is less)))
  where
    reached : (S a f L : ℤ) → L ≡ a +ℤ f → S <ℤ (a +ℤ f) → S ≤ℤ L
    reached S a f L e h = omega (arith, ints, e)

    not_yet : (L S a b c d : ℤ) → a ≡ c → b ≡ d → (a +ℤ b) ≤ℤ S → L <ℤ (c +ℤ d) → L <ℤ S
    not_yet L S a b c d e g p q = omega (arith, ints, e, g)

-- ---- the start of a day
-- midnight is a whole second
abbrev second_of : ℕ → ℤ
second_of n = (pos n -ℤ epoch_day) *ℤ pos 86_400

whole_second : (n : ℕ) → date_time n 0 ≡ unix_epoch +ℤ second_of n *ℤ pos second
whole_second n = omega (arith, ints)

in_zone_value : (zone : Timeline) (M : ℤ) (x : LocalAndOffset) → Shows zone M x → IsDateTime M → IsDateTime (reading_at zone (instant x)) × (record { zone = zone; moment = x } ≡ at_instant zone (instant x))
in_zone_value zone M x shows h = some_at zone x (instant x) (seen_itself zone M x shows) (subst IsDateTime (sym shows.same) h)

not_after : (x m : LocalAndOffset) → m ≡ x → instant x ≤ℤ instant m
not_after x m e = subst (λ (y : LocalAndOffset). instant x ≤ℤ instant y) (sym e) (itself (instant x))
  where
    itself : (z : ℤ) → z ≤ℤ z
    itself z = omega (arith, ints)

pub start_single : (zone : Timeline) → Order zone → (n : ℕ) (M : ℤ) → M ≡ date_time n 0 → IsDateTime M → (x : LocalAndOffset) → ((m : LocalAndOffset) → (m ≡ x) ↔ Shows zone M m)
    → IsStart zone (date_time n 0) (Some (record { zone = zone; moment = x }))
start_single zone order n M e inside x set = subst (λ (y : ℤ). IsStart zone y (Some (record { zone = zone; moment = x }))) e (record {
  instant = instant x;
  first = first_shown zone order M (second_of n) (e ∙ whole_second n) x ((set x).0 refl) (λ m h. not_after x m ((set m).1 h));
  value = in_zone_value zone M x ((set x).0 refl) inside;
})

pub start_fold : (zone : Timeline) → Order zone → (n : ℕ) (M : ℤ) → M ≡ date_time n 0 → IsDateTime M → (x l : LocalAndOffset) → ((m : LocalAndOffset) → ((m ≡ x) ⊎ (m ≡ l)) ↔ Shows zone M m)
    → instant x <ℤ instant l → IsStart zone (date_time n 0) (Some (record { zone = zone; moment = x }))
start_fold zone order n M e inside x l set less = subst (λ (y : ℤ). IsStart zone y (Some (record { zone = zone; moment = x }))) e (record {
  instant = instant x;
  first = first_shown zone order M (second_of n) (e ∙ whole_second n) x ((set x).0 (inl refl))
      (λ m h. elim ((set m).1 h) as (λ _. instant x ≤ℤ instant m) [ inl a ↦ not_after x m a | inr b ↦ later (instant x) (instant l) (instant m) less (ap instant b) ]);
  value = in_zone_value zone M x ((set x).0 (inl refl)) inside;
})
  where
    later : (a b c : ℤ) → a <ℤ b → c ≡ b → a ≤ℤ c
    later a b c h f = omega (arith, ints, f)

pub start_gap : (zone : Timeline) → Order zone → (n : ℕ) (M a b f : ℤ) → M ≡ date_time n 0 → IsGap zone (unix_seconds M) a b f → (y : ℤ) → y ≡ a *ℤ pos second → (r : Option InZone)
    → SomeIff r (IsDateTime (reading_at zone (unix_epoch +ℤ y))) (at_instant zone (unix_epoch +ℤ y))
    → IsStart zone (date_time n 0) r
start_gap zone order n M a b f e gap y same r v =
    let s : unix_seconds M ≡ second_of n = ap unix_seconds (e ∙ whole_second n) ∙ at_seconds (second_of n) in
    record {
      instant = unix_epoch +ℤ y;
      first = subst (λ (z : ℤ). IsFirstFrom zone (date_time n 0) (unix_epoch +ℤ z)) (sym same)
          (first_past_gap zone order (date_time n 0) (second_of n) a b f (whole_second n) (subst (λ (x : ℤ). IsGap zone x a b f) s gap));
      value = v;
    }

-- ---- one answer
pub first_from-one : (zone : Timeline) (M y z : ℤ) → IsFirstFrom zone M y → IsFirstFrom zone M z → y ≡ z
first_from-one zone M y z a b =
    by_lt_z y z (λ less. absurd (not_less (reading_at zone y) M (b.first y less) a.reached))
    (λ most. by_lt_z z y (λ less. absurd (not_less (reading_at zone z) M (a.first z less) b.reached)) (λ least. both y z most least))
  where
    both : (y z : ℤ) → z ≤ℤ y → y ≤ℤ z → y ≡ z
    both y z p q = omega (arith, ints)

same_value : (x : InZone) (P : Type 0) (a b : Option InZone) → SomeIff a P x → SomeIff b P x → a ≡ b
same_value x P None None p q = refl
same_value x P (Some a) None p q = absurd (q p.0)
same_value x P None (Some b) p q = absurd (p q.0)
same_value x P (Some a) (Some b) p q = ap (λ (y : InZone). Some y) (p.1 ∙ sym q.1)

pub start-one : (zone : Timeline) (M : ℤ) (a b : Option InZone) → IsStart zone M a → IsStart zone M b → a ≡ b
start-one zone M a b p q =
    let e = first_from-one zone M p.instant q.instant p.first q.first in
    same_value (at_instant zone q.instant) (IsDateTime (reading_at zone q.instant)) a b
    (subst (λ (z : ℤ). SomeIff a (IsDateTime (reading_at zone z)) (at_instant zone z)) e p.value) q.value

pub if_none : (r : Option ℤ) (A : Type 0) → A → IfNone r A
if_none None A a = a
if_none (Some z) A a = tt

IsNone : Option InZone → Type 0
IsNone None = Unit {0}
IsNone (Some v) = ⊥

-- a start that is out of range is no date-time
pub no_start : (zone other : Timeline) (n m : ℕ) (v : InZone) → zone ≡ other → m ≡ n → IsStart zone (date_time m 0) None → IsStart other (date_time n 0) (Some v) → ⊥
unfolding IsNone
no_start zone other n m v same day out start =
    let own = subst (λ (t : Timeline). IsStart t (date_time n 0) None) same (subst (λ (k : ℕ). IsStart zone (date_time k 0) None) day out) in
    subst IsNone (start-one other (date_time n 0) None (Some v) own start) tt

-- ---- if clocks show the date at all, they show it at its start
pub start_shows : (zone : Timeline) → Order zone → (M z y : ℤ) → IsFirstFrom zone M z → M ≤ℤ reading_at zone y → z ≤ℤ y
start_shows zone order M z y first reached = by_lt_z y z (λ less. absurd (not_less (reading_at zone y) M (first.first y less) reached)) (λ most. most)

-- ---- the length of a day
pub of_start : (zone : Timeline) (M : ℤ) (v : InZone) → IsStart zone M (Some v) → IsFirstFrom zone M (instant v.moment)
of_start zone M v h =
    let z = h.instant in
    let e : instant v.moment ≡ z = ap (λ (x : InZone). instant x.moment) h.value.1 ∙ instant_of (reading_at zone z) (offset_at zone (unix_seconds z)) z refl in
    subst (IsFirstFrom zone M) (sym e) h.first

pub length_of : (zone : Timeline) (n m : ℕ) (v w : InZone) (d : ℤ) → m ≡ n + 1 → IsStart zone (date_time n 0) (Some v) → IsStart zone (date_time m 0) (Some w)
    → d ≡ instant w.moment -ℤ instant v.moment → IsDayLength zone n d
length_of zone n m v w d e h k l = record {
  start = instant v.moment;
  end = instant w.moment;
  from = of_start zone (date_time n 0) v h;
  to = subst (λ (x : ℕ). IsFirstFrom zone (date_time x 0) (instant w.moment)) e (of_start zone (date_time m 0) w k);
  length = l;
}

-- ---- no reading from midnight on is shown that is earlier than the one at the start
pub shown_least : (l M z : ℤ) → l ≡ M → M ≤ℤ z → l ≤ℤ z
shown_least l M z e h = omega (arith, ints, e)

at_change : (zone : Timeline) (a b f S : ℤ) → IsGap zone S a b f → reading_at zone (unix_epoch +ℤ a *ℤ pos second) ≡ (unix_epoch +ℤ a *ℤ pos second) +ℤ f *ℤ pos second
at_change zone a b f S gap =
    ap (λ (q : ℤ). (unix_epoch +ℤ a *ℤ pos second) +ℤ offset_at zone q *ℤ pos second) (at_seconds a)
    ∙ ap (λ (o : ℤ). (unix_epoch +ℤ a *ℤ pos second) +ℤ o *ℤ pos second) gap.after_is

least_past_gap : (zone : Timeline) → Order zone → (M S a b f y : ℤ) → M ≡ unix_epoch +ℤ S *ℤ pos second → IsGap zone S a b f → M ≤ℤ reading_at zone y
    → reading_at zone (unix_epoch +ℤ a *ℤ pos second) ≤ℤ reading_at zone y
least_past_gap zone order M S a b f y e gap reached =
    let (k, g) = gap_index zone order S a b f gap in
    let q = unix_seconds y in
    let p = rest_range (y -ℤ unix_epoch) in
    let split = seconds-and_past (y -ℤ unix_epoch) in
    let from = start_shows zone order M (unix_epoch +ℤ a *ℤ pos second) y (first_past_gap zone order M S a b f e gap) reached in
    let seconds : a ≤ℤ q = from_second y a q (int_rem_euclid (y -ℤ unix_epoch) (pos second)) split p.1 from in
    let past = after_change zone order q k g.inside (subst (λ (x : ℤ). x ≤ℤ q) g.at_is seconds) in
    compare y a f q (int_rem_euclid (y -ℤ unix_epoch) (pos second)) (offset_at zone q) (at zone.changes k) (after zone (suc k)) _ (at_change zone a b f S gap) split p.0 g.at_is g.after_is past
  where
    from_second : (y a q r : ℤ) → (y -ℤ unix_epoch) ≡ q *ℤ pos second +ℤ r → r <ℤ pos second → (unix_epoch +ℤ a *ℤ pos second) ≤ℤ y → a ≤ℤ q
    from_second y a q r e high h = omega (arith, ints, e)

    compare : (y a f q r o c d z : ℤ) → z ≡ (unix_epoch +ℤ a *ℤ pos second) +ℤ f *ℤ pos second → (y -ℤ unix_epoch) ≡ q *ℤ pos second +ℤ r → pos 0 ≤ℤ r → a ≡ c → f ≡ d → (c +ℤ d) ≤ℤ (q +ℤ o)
        → z ≤ℤ (y +ℤ o *ℤ pos second)
    compare y a f q r o c d z e split low g h past = omega (arith, ints, e, split, g, h)

pub gap_least : (zone : Timeline) → Order zone → (n : ℕ) (M a b f : ℤ) → M ≡ date_time n 0 → IsGap zone (unix_seconds M) a b f → (x : ℤ) → x ≡ a *ℤ pos second → (r : Option InZone)
    → SomeIff r (IsDateTime (reading_at zone (unix_epoch +ℤ x))) (at_instant zone (unix_epoch +ℤ x))
    → IfSome r (λ (v : InZone). (y : ℤ) → date_time n 0 ≤ℤ reading_at zone y → v.moment.local ≤ℤ reading_at zone y)
gap_least zone order n M a b f e gap x same None v = tt
gap_least zone order n M a b f e gap x same (Some w) v =
    let s : unix_seconds M ≡ second_of n = ap unix_seconds (e ∙ whole_second n) ∙ at_seconds (second_of n) in
    λ y reached.
    let least = least_past_gap zone order (date_time n 0) (second_of n) a b f y (whole_second n) (subst (λ (z : ℤ). IsGap zone z a b f) s gap) reached in
    shown_least w.moment.local (reading_at zone (unix_epoch +ℤ a *ℤ pos second)) (reading_at zone y)
    (ap (λ (u : InZone). u.moment.local) v.1 ∙ ap (λ (z : ℤ). reading_at zone (unix_epoch +ℤ z)) same) least

same_day : (n : ℕ) (l s : ℤ) → date_time n 0 ≤ℤ l → l ≤ℤ s → pos 0 ≤ℤ s → date_at s ≡ n → date_at l ≡ n
unfolding date_at
same_day n l s low high some day = omega (arith, ints, low, high, some, day)

-- the start of a day that clocks show is on that day
pub day_kept : (zone : Timeline) (n : ℕ) (s z : ℤ) (r : Option InZone) → IsStart zone (date_time n 0) r
    → IfSome r (λ (v : InZone). (y : ℤ) → date_time n 0 ≤ℤ reading_at zone y → v.moment.local ≤ℤ reading_at zone y)
    → s ≡ reading_at zone z → IsDateTime s → date_time n 0 ≤ℤ s → date_at s ≡ n → IfSome r (λ (v : InZone). date_at v.moment.local ≡ n)
day_kept zone n s z None start least shown inside from day = tt
day_kept zone n s z (Some v) start least shown inside from day =
    let low : date_time n 0 ≤ℤ v.moment.local = subst (λ (x : ℤ). date_time n 0 ≤ℤ x) (sym (ap (λ (u : InZone). u.moment.local) start.value.1)) start.first.reached in
    let high : v.moment.local ≤ℤ s = subst (λ (x : ℤ). v.moment.local ≤ℤ x) (sym shown) (least z (subst (λ (x : ℤ). date_time n 0 ≤ℤ x) shown from)) in
    same_day n v.moment.local s low high inside.not_before day

pub from_midnight : (n : ℕ) (s : ℤ) → pos 0 ≤ℤ s → date_at s ≡ n → date_time n 0 ≤ℤ s
unfolding date_at
from_midnight n s some day = omega (arith, ints, some, day)
