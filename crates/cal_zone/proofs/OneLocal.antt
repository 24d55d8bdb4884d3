-- A reading has one description: the clocks go forward over it at one change only.
use Rattle.std.proofs.Common.{◌≡◌, ◌∙◌, ℕ, zero, suc, ◌<◌, ◌≤◌, ◌⊎◌, length, refl, sym, ap, arith, inl, inr, subst}
use Rattle.std.proofs.lemmas.Int.{ints, clamps, by_lt_z}
use Rattle.std.proofs.lemmas.Bool.{cases_lt}
use Rattle.std.specs.Prelude.{ℤ, pos, ◌↔◌, ◌<ℤ◌, ◌≤ℤ◌, ◌+ℤ◌, ◌-ℤ◌}
use Rattle.std.specs.Int.{int_min, int_max}
use Rattle.cal_datetime.specs.OffsetDateTime.{LocalAndOffset, instant, unix_seconds}
use Rattle.cal_zone.specs.declared.gap.Gap as gaps
use Rattle.cal_zone.specs.declared.local.Local.{Local}
use Rattle.cal_zone.specs.declared.local.Local.TheVariants.{Single, Gap, Fold}
use Rattle.cal_zone.specs.declared.instants.Instants.{Instants}
use Rattle.cal_zone.specs.declared.instants.Instants.TheVariants as its
use Rattle.cal_zone.specs.Instants.{IsExplained, IsGap, Names}
use Rattle.cal_zone.specs.Local.{IsLocalOf, Shows}
use Rattle.cal_zone.specs.Timeline.{Timeline, InOrder, IsOrdered, at, begins, ends, local_at, offset_at}
use Rattle.cal_zone.proofs.Offsets.{offset_from-count}
use Rattle.cal_zone.proofs.Orders.{at_rises, ends_rise, not_less, same, trans, weaken}
use Rattle.cal_zone.proofs.Readings.{after, just_before, some_count}

-- ---- over plain numbers
no_gap : (L a b f : ℤ) → b ≡ f → (a +ℤ b) ≤ℤ L → L <ℤ (a +ℤ f) → ⊥
no_gap L a b f e s t = omega (arith, ints, e)

less_one : (a b : ℤ) → a <ℤ b → (a -ℤ pos 1) <ℤ b
less_one a b h = omega (arith, ints)

one_less : (a b c : ℤ) → a ≤ℤ b → b <ℤ c → a ≤ℤ (c -ℤ pos 1)
one_less a b c p q = omega (arith, ints)

both_ways : (a b : ℤ) → a ≤ℤ b → b ≤ℤ a → b ≡ a
both_ways a b p q = omega (arith, ints)

-- a reading before the end of one gap and in another one after it
not_in_both : (L p x y E q u v : ℤ) → L <ℤ (p +ℤ y) → (p +ℤ int_max x y) ≤ℤ E → E ≤ℤ (q +ℤ int_min u v) → (q +ℤ u) ≤ℤ L → ⊥
not_in_both L p x y E q u v h i j k = omega (arith, ints, clamps)

-- ---- a gap over a reading is that of the change with an index
pub record IsGapOf (zone : Timeline) (L a b f : ℤ) (k : ℕ) : Type 0 where
  pub inside : k < length zone.changes
  pub at_is : a ≡ at zone.changes k
  pub before_is : b ≡ after zone k
  pub after_is : f ≡ after zone (suc k)
  pub starts : (a +ℤ b) ≤ℤ L
  pub ends : L <ℤ (a +ℤ f)

index_of : (zone : Timeline) → IsOrdered zone.first.offset zone.changes → (L a b f : ℤ) → IsGap zone L a b f → (m : ℕ) → m ≤ length zone.changes
    → ((k : ℕ) → k < m → at zone.changes k ≤ℤ a) → ((k : ℕ) → m ≤ k → k < length zone.changes → a <ℤ at zone.changes k) → (k : ℕ) × IsGapOf zone L a b f k
index_of zone order L a b f gap zero within below above =
    let here : offset_at zone a ≡ after zone 0 = offset_from-count zone.first zone.changes a 0 (λ k less inside. below k less) above in
    let past : offset_at zone (a -ℤ pos 1) ≡ after zone 0 = offset_from-count zone.first zone.changes (a -ℤ pos 1) 0 (λ k less inside. absurd (omega (arith, less)))
    (λ k more inside. less_one a (at zone.changes k) (above k more inside)) in
    absurd (no_gap L a b f (sym gap.before_is ∙ past ∙ sym here ∙ gap.after_is) gap.starts gap.ends)
index_of zone order L a b f gap (suc m) within below above =
    let here : offset_at zone a ≡ after zone (suc m) = offset_from-count zone.first zone.changes a (suc m) (λ k less inside. below k less) above in
    by_lt_z (at zone.changes m) a
    (λ less.
    let past : offset_at zone (a -ℤ pos 1) ≡ after zone (suc m) = offset_from-count zone.first zone.changes (a -ℤ pos 1) (suc m)
    (λ k low inside. one_less (at zone.changes k) (at zone.changes m) a (at_rises zone order k m (omega (arith, low)) (omega (arith, within))) less)
    (λ k more inside. less_one a (at zone.changes k) (above k more inside)) in
    absurd (no_gap L a b f (sym gap.before_is ∙ past ∙ sym here ∙ gap.after_is) gap.starts gap.ends))
    (λ not_less.
    let same : a ≡ at zone.changes m = both_ways (at zone.changes m) a (below m (omega arith)) not_less in
    let before : offset_at zone (a -ℤ pos 1) ≡ after zone m = subst (λ (i : ℤ). offset_at zone (i -ℤ pos 1) ≡ after zone m) (sym same) (just_before zone order m (omega (arith, within))) in (
      m,
      record {
        inside = omega (arith, within);
        at_is = same;
        before_is = sym gap.before_is ∙ before;
        after_is = sym gap.after_is ∙ here;
        starts = gap.starts;
        ends = gap.ends;
      },
    ))

pub gap_index : (zone : Timeline) → IsOrdered zone.first.offset zone.changes → (L a b f : ℤ) → IsGap zone L a b f → (k : ℕ) × IsGapOf zone L a b f k
gap_index zone order L a b f gap =
    let count = some_count zone order a (length zone.changes) (omega arith) in
    index_of zone order L a b f gap count.0 count.1 count.2 count.3

-- no reading is in the gaps of two changes
not_later : (zone : Timeline) → IsOrdered zone.first.offset zone.changes → (L a b f c d g : ℤ) (j k : ℕ) → IsGapOf zone L a b f j → IsGapOf zone L c d g k → j < k → ⊥
not_later zone order L a b f c d g j zero first second less = absurd (omega (arith, less))
not_later zone order L a b f c d g j (suc k) first second less =
    let first_ends : L <ℤ (at zone.changes j +ℤ after zone (suc j)) = subst (λ (i : ℤ). L <ℤ (i +ℤ after zone (suc j))) first.at_is (subst (λ (i : ℤ). L <ℤ (a +ℤ i)) first.after_is first.ends) in
    let second_starts : (at zone.changes (suc k) +ℤ after zone (suc k)) ≤ℤ L = subst (λ (i : ℤ). (i +ℤ after zone (suc k)) ≤ℤ L) second.at_is (subst (λ (i : ℤ). (c +ℤ i) ≤ℤ L) second.before_is second.starts) in
    let between : ends zone.first.offset zone.changes j ≤ℤ begins zone.first.offset zone.changes (suc k) =
    trans (ends zone.first.offset zone.changes j) (ends zone.first.offset zone.changes k) (begins zone.first.offset zone.changes (suc k))
    (ends_rise zone order j k (omega (arith, less)) (omega (arith, second.inside))) (order.apart k second.inside) in
    not_in_both L (at zone.changes j) (after zone j) (after zone (suc j)) (begins zone.first.offset zone.changes (suc k)) (at zone.changes (suc k)) (after zone (suc k)) (after zone (suc (suc k)))
    first_ends between (same (begins zone.first.offset zone.changes (suc k))) second_starts

at_same : (zone : Timeline) (L a b f c d g : ℤ) (j k : ℕ) → j ≡ k → IsGapOf zone L a b f j → IsGapOf zone L c d g k → (a ≡ c) × (b ≡ d) × (f ≡ g)
at_same zone L a b f c d g j k e first second =
    let second = subst (IsGapOf zone L c d g) (sym e) second in
    (first.at_is ∙ sym second.at_is, first.before_is ∙ sym second.before_is, first.after_is ∙ sym second.after_is)

gap-one : (zone : Timeline) → IsOrdered zone.first.offset zone.changes → (L a b f c d g : ℤ) → IsGap zone L a b f → IsGap zone L c d g → (a ≡ c) × (b ≡ d) × (f ≡ g)
gap-one zone order L a b f c d g one other =
    let (j, first) = gap_index zone order L a b f one in
    let (k, second) = gap_index zone order L c d g other in
    elim (cases_lt j k) as (λ _. (a ≡ c) × (b ≡ d) × (f ≡ g)) [
      | inl less ↦ absurd (not_later zone order L a b f c d g j k first second less)
      | inr more ↦ elim (cases_lt k j) as (λ _. (a ≡ c) × (b ≡ d) × (f ≡ g)) [
        | inl less ↦ absurd (not_later zone order L c d g a b f k j second first less)
        | inr least ↦ at_same zone L a b f c d g j k (omega (arith, more, least)) first second
      ]
    ]

-- ---- descriptions
not_itself : (A : Type 0) (f : A → ℤ) (a b : A) → a ≡ b → f a <ℤ f b → ⊥
not_itself A f a b e h = not_less (f a) (f b) h (subst (λ (m : A). f m ≤ℤ f a) e (same (f a)))

no_fold : (A : Type 0) (f : A → ℤ) (Shown : A → Type 0) (x e l : A) → ((m : A) → (m ≡ x) ↔ Shown m) → ((m : A) → ((m ≡ e) ⊎ (m ≡ l)) ↔ Shown m) → f e <ℤ f l → ⊥
no_fold A f Shown x e l p q less =
    let first : e ≡ x = (p e).1 ((q e).0 (inl refl)) in
    let second : l ≡ x = (p l).1 ((q l).0 (inr refl)) in
    not_itself A f e l (first ∙ sym second) less

folds : (A : Type 0) (f : A → ℤ) (e l e' l' : A) → f e <ℤ f l → f e' <ℤ f l' → (e ≡ e') ⊎ (e ≡ l') → (l ≡ e') ⊎ (l ≡ l') → (e ≡ e') × (l ≡ l')
folds A f e l e' l' h k (inl p) (inl q) = absurd (not_itself A f e l (p ∙ sym q) h)
folds A f e l e' l' h k (inl p) (inr q) = (p, q)
folds A f e l e' l' h k (inr p) (inl q) = absurd (not_less (f e) (f l) h (weaken (f l) (f e) (subst (λ (m : A). f l <ℤ f m) (sym p) (subst (λ (m : A). f m <ℤ f l') (sym q) k))))
folds A f e l e' l' h k (inr p) (inr q) = absurd (not_itself A f e l (p ∙ sym q) h)

same_gap : (g h : gaps.Gap) → g.reading ≡ h.reading → g.at ≡ h.at → g.before ≡ h.before → g.after ≡ h.after → g ≡ h
same_gap g h p q r s = λ i. record { reading = p i; at = q i; before = r i; after = s i }

pub local-one : (zone : Timeline) → InOrder zone → (reading : ℤ) (a b : Local) → IsLocalOf zone reading a → IsLocalOf zone reading b → a ≡ b
local-one zone order reading (Single x) (Single y) a b = ap (λ (m : LocalAndOffset). Single m) ((b.set x).1 ((a.set x).0 refl))
local-one zone order reading (Single x) (Gap g) a b = absurd ((b.set x).1 ((a.set x).0 refl))
local-one zone order reading (Single x) (Fold e l) a b = absurd (no_fold LocalAndOffset instant (Shows zone reading) x e l a.set b.set b.explained)
local-one zone order reading (Gap g) (Single y) a b = absurd ((a.set y).1 ((b.set y).0 refl))
local-one zone order reading (Gap g) (Gap h) a b =
    let same = gap-one zone order (unix_seconds reading) g.at g.before g.after h.at h.before h.after a.explained.1 b.explained.1 in
    ap (λ (x : gaps.Gap). Gap x) (same_gap g h (a.explained.0 ∙ sym b.explained.0) same.0 same.1 same.2)
local-one zone order reading (Gap g) (Fold e l) a b = absurd ((a.set e).1 ((b.set e).0 (inl refl)))
local-one zone order reading (Fold e l) (Single y) a b = absurd (no_fold LocalAndOffset instant (Shows zone reading) y e l b.set a.set a.explained)
local-one zone order reading (Fold e l) (Gap g) a b = absurd ((b.set e).1 ((a.set e).0 (inl refl)))
local-one zone order reading (Fold e l) (Fold e' l') a b =
    let same = folds LocalAndOffset instant e l e' l' a.explained b.explained ((b.set e).1 ((a.set e).0 (inl refl))) ((b.set l).1 ((a.set l).0 (inr refl))) in
    let p = same.0 in
    let q = same.1 in
    cc

pub instants-one : (z : Timeline) → InOrder z → (l : ℤ) (a b : Instants) → ((i : ℤ) → Names a i ↔ (local_at z i ≡ l)) → ((i : ℤ) → Names b i ↔ (local_at z i ≡ l))
    → IsExplained z l a → IsExplained z l b → a ≡ b
instants-one z order l (its.Single i) (its.Single j) p q e f = ap (λ (x : ℤ). its.Single x) ((q i).1 ((p i).0 refl))
instants-one z order l (its.Single i) (its.Gap a b c) p q e f = absurd ((q i).1 ((p i).0 refl))
instants-one z order l (its.Single i) (its.Fold j k) p q e f = absurd (no_fold ℤ (λ x. x) (λ x. local_at z x ≡ l) i j k p q f)
instants-one z order l (its.Gap a b c) (its.Single i) p q e f = absurd ((p i).1 ((q i).0 refl))
instants-one z order l (its.Gap a b c) (its.Gap d g h) p q e f =
    let same = gap-one z order l a b c d g h e f in
    let at = same.0 in
    let before = same.1 in
    let after = same.2 in cc
instants-one z order l (its.Gap a b c) (its.Fold j k) p q e f = absurd ((p j).1 ((q j).0 (inl refl)))
instants-one z order l (its.Fold j k) (its.Single i) p q e f = absurd (no_fold ℤ (λ x. x) (λ x. local_at z x ≡ l) i j k q p e)
instants-one z order l (its.Fold j k) (its.Gap a b c) p q e f = absurd ((q j).1 ((p j).0 (inl refl)))
instants-one z order l (its.Fold i j) (its.Fold g h) p q e f =
    let same = folds ℤ (λ x. x) i j g h e f ((q i).1 ((p i).0 (inl refl))) ((q j).1 ((p j).0 (inr refl))) in
    let first = same.0 in
    let second = same.1 in cc
