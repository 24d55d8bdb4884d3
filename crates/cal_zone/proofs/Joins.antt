-- Changes in order, and then more of them, are in order, where the first of these goes on from the last of those.
use Rattle.std.proofs.Common.{◌≡◌, ℕ, zero, suc, ◌+◌, ◌-◌, ◌<◌, ◌≤◌, List, [], ◌∷◌, ◌++◌, length, refl, sym, ap, ◌∙◌, subst, arith, inl, inr, length-append, add-one, to_z, of_z, w32, w64}
use Rattle.std.proofs.lemmas.Bool.{cases_lt, cases_eq}
use Rattle.std.proofs.lemmas.List.{get_or_append_left, get_or-append-add, get_or-append_right}
use Rattle.std.proofs.lemmas.Int.{ints, to_z-of_z}
use Rattle.std.specs.Prelude.{ℤ, ◌<ℤ◌, ◌≤ℤ◌, ◌+ℤ◌, ◌↔◌, int_le, true}
use Rattle.std.specs.Int.{int_min, int_max}
use Rattle.std.specs.List.{slice_index_or}
use Rattle.cal_zone.specs.declared.change.Change.{Change}
use Rattle.cal_zone.specs.ChangeError.{AreSound, Follows}
use Rattle.cal_zone.specs.Timeline.{IsOrdered, IsOffset, IsMoment, at, after_changes, no_change, IsNext}
use Rattle.cal_zone.specs.Zone.{Joins}
use Rattle.cal_zone.proofs.Offsets.{after_changes-at, after_changes-count, after_changes-offset, is_past}

-- elements and offsets of lists one after the other
pub item_right : (xs ys : List Change) (j : ℕ) → slice_index_or (xs ++ ys) (length xs + j) no_change ≡ slice_index_or ys j no_change
item_right xs ys j = get_or-append-add xs ys j no_change

pub item_left : (xs ys : List Change) (k : ℕ) → k < length xs → slice_index_or (xs ++ ys) k no_change ≡ slice_index_or xs k no_change
item_left xs ys k h = get_or_append_left xs ys no_change k h

pub offset_left : (first : ℤ) (xs ys : List Change) (k : ℕ) → k ≤ length xs → after_changes first (xs ++ ys) k ≡ after_changes first xs k
offset_left first xs ys zero h = refl
offset_left first [] ys (suc k) h = absurd (omega arith)
offset_left first (x ∷ xs) ys (suc k) h = offset_left x.kind.offset xs ys k (omega arith)

pub offset_right : (first : ℤ) (xs ys : List Change) (j : ℕ) → after_changes first (xs ++ ys) (length xs + j) ≡ after_changes (after_changes first xs (length xs)) ys j
offset_right first [] ys j = let e : zero + j ≡ j = omega arith in ap (after_changes first ys) e
offset_right first (x ∷ xs) ys j =
    let e : suc (length xs) + j ≡ suc (length xs + j) = omega arith in
    ap (after_changes first (x ∷ (xs ++ ys))) e ∙ offset_right x.kind.offset xs ys j

pub same_next : (a a' b b' x x' y y' z z' : ℤ) → a ≡ a' → b ≡ b' → x ≡ x' → y ≡ y' → z ≡ z' → IsNext a' b' x' y' z' → IsNext a b x y z
same_next a a' b b' x x' y y' z z' e f g h i is =
    subst (λ (v : ℤ). IsNext v b x y z) (sym e) (subst (λ (v : ℤ). IsNext a' v x y z) (sym f) (subst (λ (v : ℤ). IsNext a' b' v y z) (sym g)
    (subst (λ (v : ℤ). IsNext a' b' x' v z) (sym h) (subst (λ (v : ℤ). IsNext a' b' x' y' v) (sym i) is))))

pub next_of : (first : ℤ) (xs : List Change) → IsOrdered first xs → (k : ℕ) → suc k < length xs → Follows first xs k
next_of first xs order k h = record { rising = order.rising k h; apart = order.apart k h }

each : (P : Change → Type 0) (xs ys : List Change) → ((k : ℕ) → k < length xs → P (slice_index_or xs k no_change)) → ((k : ℕ) → k < length ys → P (slice_index_or ys k no_change))
    → (k : ℕ) → k < length (xs ++ ys) → P (slice_index_or (xs ++ ys) k no_change)
each P xs ys left right k h =
    elim (cases_lt k (length xs)) as (λ _. P (slice_index_or (xs ++ ys) k no_change)) [
      | inl low ↦ subst P (sym (item_left xs ys k low)) (left k low)
      | inr high ↦
          subst P (sym (get_or-append_right xs ys (length xs) k no_change refl high)) (right (k - length xs) (let size = length-append xs ys in omega arith))
    ]

pub joined : (first : ℤ) (xs ys : List Change) → IsOrdered first xs → IsOrdered (after_changes first xs (length xs)) ys → Joins first xs ys → IsOrdered first (xs ++ ys)
joined first xs ys left right joint = record {
  offset = left.offset;
  offsets = each (λ c. IsOffset c.kind.offset) xs ys left.offsets right.offsets;
  moments = each (λ c. IsMoment c.at) xs ys left.moments right.moments;
  rising = λ k h. (next k h).rising;
  apart = λ k h. (next k h).apart;
}
  where
    in_left : (k : ℕ) → suc k < length xs → Follows first (xs ++ ys) k
    in_left k h = same_next _ _ _ _ _ _ _ _ _ _
        (ap (λ (c : Change). c.at) (item_left xs ys k (omega arith))) (ap (λ (c : Change). c.at) (item_left xs ys (suc k) h))
        (offset_left first xs ys k (omega arith)) (offset_left first xs ys (suc k) (omega arith)) (offset_left first xs ys (suc (suc k)) (omega arith))
        (next_of first xs left k h)

    in_right : (k j : ℕ) → length xs + j ≡ k → suc j < length ys → Follows first (xs ++ ys) k
    in_right k j e h =
        let o = after_changes first xs (length xs) in
        let e1 : suc k ≡ length xs + suc j = omega arith in
        let e2 : suc (suc k) ≡ length xs + suc (suc j) = omega arith in
        same_next _ _ _ _ _ _ _ _ _ _
        (ap (at (xs ++ ys)) (sym e) ∙ ap (λ (c : Change). c.at) (item_right xs ys j)) (ap (at (xs ++ ys)) e1 ∙ ap (λ (c : Change). c.at) (item_right xs ys (suc j)))
        (ap (after_changes first (xs ++ ys)) (sym e) ∙ offset_right first xs ys j) (ap (after_changes first (xs ++ ys)) e1 ∙ offset_right first xs ys (suc j))
        (ap (after_changes first (xs ++ ys)) e2 ∙ offset_right first xs ys (suc (suc j)))
        (next_of o ys right j h)

    between : (k : ℕ) → suc k ≡ length xs → 0 < length ys → Follows first (xs ++ ys) k
    between k e h =
        let o = after_changes first xs (length xs) in
        let e0 : k ≡ length xs - 1 = omega arith in
        let e1 : suc k ≡ length xs + 0 = omega arith in
        let e2 : suc (suc k) ≡ length xs + 1 = omega arith in
        same_next _ _ _ _ _ _ _ _ _ _
        (ap (λ (c : Change). c.at) (item_left xs ys k (omega arith)) ∙ ap (at xs) e0) (ap (at (xs ++ ys)) e1 ∙ ap (λ (c : Change). c.at) (item_right xs ys 0))
        (offset_left first xs ys k (omega arith) ∙ ap (after_changes first xs) e0)
        (offset_left first xs ys (suc k) (omega arith) ∙ ap (after_changes first xs) e ∙ after_changes-count first xs (length xs) (omega arith) (omega arith))
        (ap (after_changes first (xs ++ ys)) e2 ∙ offset_right first xs ys 1 ∙ after_changes-at o ys 0 h)
        (joint (omega arith) h)

    next : (k : ℕ) → suc k < length (xs ++ ys) → Follows first (xs ++ ys) k
    next k h =
        let e = length-append xs ys in
        elim (cases_lt (suc k) (length xs)) as (λ _. Follows first (xs ++ ys) k) [
          | inl low ↦ in_left k low
          | inr high ↦ elim (cases_eq (suc k) (length xs)) as (λ _. Follows first (xs ++ ys) k) [
            | inl last ↦ between k last (omega arith)
            | inr past ↦ in_right k (k - length xs) (omega arith) (omega arith)
          ]
        ]

-- what a test of numbers says
pub next_test : (e' b' a b x y z : ℤ) → e' ≡ (a +ℤ int_max x y) → b' ≡ (b +ℤ int_min y z) → a <ℤ b → (int_le e' b' ≡ true) ↔ IsNext a b x y z
next_test e' b' a b x y z e f h = (
  (λ t. record { rising = h; apart = subst (λ (v : ℤ). v ≤ℤ (b +ℤ int_min y z)) e (subst (λ (v : ℤ). e' ≤ℤ v) f (yes_le e' b' t)) }),
  (λ is. is_past e' b' (subst (λ (v : ℤ). v ≤ℤ b') (sym e) (subst (λ (v : ℤ). (a +ℤ int_max x y) ≤ℤ v) (sym f) is.apart))),
)
  where
    yes_le : (p q : ℤ) → int_le p q ≡ true → p ≤ℤ q
    yes_le p q t = grind (arith, ints)

-- a sum as the code shows it
pub sum_shown : (n f m : ℤ) → to_z w64 (of_z w64 f) ≡ m → IsMoment n → IsOffset m → to_z w64 (of_z w64 (to_z w64 (of_z w64 n) +ℤ to_z w64 (of_z w64 f))) ≡ (n +ℤ m)
sum_shown n f m e h g =
    let a : to_z w64 (of_z w64 n) ≡ n = omega (arith, ints, h.0, h.1) in
    ap (λ (x : ℤ). to_z w64 (of_z w64 (x +ℤ to_z w64 (of_z w64 f)))) a ∙ ap (λ (x : ℤ). to_z w64 (of_z w64 (n +ℤ x))) e ∙ to_z-of_z w64 (n +ℤ m) (omega (arith, ints, h.0, h.1, g.0, g.1))

-- An instant and an offset as the code shows them.
pub moment_is : (x y : ℤ) → x ≡ y → IsMoment y → to_z w64 (of_z w64 x) ≡ y
moment_is x y e h = to_z-of_z w64 x (omega (arith, ints, e, h.0, h.1)) ∙ e

pub moment_shown : (x y : ℤ) → x ≡ y → IsMoment y → IsMoment (to_z w64 (of_z w64 x))
moment_shown x y e h = subst IsMoment (sym (moment_is x y e h)) h

pub offset_is : (x y : ℤ) → x ≡ y → IsOffset y → to_z w32 (of_z w32 x) ≡ y
offset_is x y e h = to_z-of_z w32 x (omega (arith, ints, e, h.0, h.1)) ∙ e

pub offset_shown : (x y : ℤ) → x ≡ y → IsOffset y → IsOffset (to_z w32 (of_z w32 x))
offset_shown x y e h = subst IsOffset (sym (offset_is x y e h)) h

-- A change and the next one, as the code finds them.
pub follows-next : (first : ℤ) (cs : List Change) (k : ℕ) (a b x y z : ℤ) → IsOffset first → AreSound cs (length cs) → suc k < length cs → a ≡ at cs k → b ≡ at cs (k + 1)
    → x ≡ after_changes first cs k → y ≡ (slice_index_or cs k no_change).kind.offset → z ≡ (slice_index_or cs (k + 1) no_change).kind.offset
    → IsNext (to_z w64 (of_z w64 a)) (to_z w64 (of_z w64 b)) (to_z w32 (of_z w32 x)) (to_z w32 (of_z w32 y)) (to_z w32 (of_z w32 z)) ↔ Follows first cs k
follows-next first cs k a b x y z own sound inside a_is b_is x_is y_is z_is =
    let this = sound k (omega arith) in
    let next = sound (suc k) inside in
    let e = moment_is a _ a_is this.moment in
    let f = moment_is b _ (b_is ∙ ap (at cs) (add-one k)) next.moment in
    let g = offset_is x _ x_is (after_changes-offset first cs k own (λ j h. (sound j h).offset)) in
    let h = offset_is y _ y_is this.offset ∙ sym (after_changes-at first cs k (omega arith)) in
    let i = offset_is z _ (z_is ∙ ap (λ n. (slice_index_or cs n no_change).kind.offset) (add-one k)) next.offset ∙ sym (after_changes-at first cs (suc k) inside) in
    ((λ is. same_next _ _ _ _ _ _ _ _ _ _ (sym e) (sym f) (sym g) (sym h) (sym i) is), (λ is. same_next _ _ _ _ _ _ _ _ _ _ e f g h i is))
