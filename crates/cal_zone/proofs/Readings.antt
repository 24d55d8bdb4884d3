-- Which instants show a reading, by how many changes lie wholly before it.
use Rattle.std.proofs.Common.{◌≡◌, ◌≢◌, add-one, ℕ, zero, suc, ◌+◌, ◌-◌, ◌<◌, ◌≤◌, ◌⊎◌, ◌↔◌, length, refl, sym, ap, ◌∙◌, arith, inl, inr, subst}
use Rattle.std.proofs.lemmas.Int.{ints, clamps, by_lt_z}
use Rattle.std.proofs.lemmas.Bool.{cases_lt, cases_eq}
use Rattle.std.specs.Prelude.{ℤ, Option, Some, None, SomeIff, IfNone, IfSome, int_le, true, pos, ◌<ℤ◌, ◌≤ℤ◌, ◌+ℤ◌, ◌-ℤ◌}
use Rattle.std.specs.Int.{int_min, int_max}
use Rattle.cal_zone.specs.Timeline.{Timeline, IsOrdered, at, ends, after_changes, offset_at, local_at, IsMoment, IsOffset}
use Rattle.cal_zone.specs.Instants.{IsGap}
use Rattle.cal_zone.specs.Split.{IsBracket, IsSplit}
use Rattle.cal_zone.proofs.Orders.{at_rises, ends_rise, not_less, same, trans}
use Rattle.cal_zone.proofs.Splits.{rising_split}
use Rattle.cal_zone.proofs.Offsets.{offset_from-count, after_changes-offset}

-- the offset after the first n changes
abbrev pub after : Timeline → ℕ → ℤ
after zone n = after_changes zone.first.offset zone.changes n

-- The offset after n changes, at an instant between the last of them and the next one.
pub offset_between : (zone : Timeline) → IsOrdered zone.first.offset zone.changes → (i o : ℤ) (n : ℕ) → n ≤ length zone.changes
    → ((k : ℕ) → suc k ≡ n → at zone.changes k ≤ℤ i) → (n < length zone.changes → i <ℤ at zone.changes n)
    → o ≡ after zone n → offset_at zone i ≡ o
offset_between zone order i o n inside below above after =
    let bracket : IsBracket (at zone.changes) (length zone.changes) i n n = record { ordered = omega arith; inside = inside; below = below; above = above } in
    let split = rising_split (at zone.changes) (length zone.changes) i n (at_rises zone order) bracket in
    offset_from-count zone.first zone.changes i n (λ k less _. split.below k less) split.above ∙ sym after

-- as many changes are not after an instant
pub some_count : (zone : Timeline) → IsOrdered zone.first.offset zone.changes → (i : ℤ) (n : ℕ) → n ≤ length zone.changes
    → (m : ℕ) × (m ≤ n) × ((k : ℕ) → k < m → at zone.changes k ≤ℤ i) × ((k : ℕ) → m ≤ k → k < n → i <ℤ at zone.changes k)
some_count zone order i zero h = (0, omega arith, (λ k less. absurd (omega arith)), (λ k more less. absurd (omega arith)))
some_count zone order i (suc n) h =
    by_lt_z i (at zone.changes n)
    (λ ahead. let r = some_count zone order i n (omega arith) in (
      r.0,
      omega (arith, r.1),
      r.2,
      λ k more less. elim (cases_lt k n) as (λ _. i <ℤ at zone.changes k) [
        | inl within ↦ r.3 k more within
        | inr past ↦ let e : k ≡ n = omega arith in rw e ahead
      ],
    ))
    (λ past. (
      suc n,
      omega arith,
      (λ k less. let rise = at_rises zone order k n (omega arith) h in trans (at zone.changes k) (at zone.changes n) i rise past),
      λ k more less. absurd (omega arith),
    ))

-- ---- over plain numbers: L the reading, i the instant, a the instant of a change, x and y the offsets before and after it
not_passed : (L i a x y : ℤ) → (i +ℤ x) ≡ L → i <ℤ a → (a +ℤ int_max x y) ≤ℤ L → ⊥
not_passed L i a x y e h p = omega (arith, ints, clamps)

passed_next : (L i a x y E : ℤ) → (i +ℤ y) ≡ L → a ≤ℤ i → E ≤ℤ (a +ℤ int_min x y) → L <ℤ E → ⊥
passed_next L i a x y E e h p q = omega (arith, ints, clamps)

past_before : (L a x y : ℤ) → (a +ℤ int_max x y) ≤ℤ L → a ≤ℤ (L -ℤ y)
past_before L a x y h = omega (arith, ints, clamps)

ahead_next : (L a x y E : ℤ) → L <ℤ E → E ≤ℤ (a +ℤ int_min x y) → (L -ℤ x) <ℤ a
ahead_next L a x y E h p = omega (arith, ints, clamps)

-- the code's test that a change is past
pub past_test : (p q t L m x y : ℤ) → p ≡ t → {a : ℤ} → t ≡ a → q ≡ (L -ℤ m) → m ≡ int_max x y
    → (int_le p q ≡ true → (a +ℤ int_max x y) ≤ℤ L) × ((a +ℤ int_max x y) ≤ℤ L → int_le p q ≡ true)
past_test p q t L m x y e {a} f g h = (λ test. grind (arith, ints), λ past. grind (arith, ints))

-- what is known of a count n of the changes that lie wholly before a reading
abbrev pub Passed : Timeline → ℤ → ℕ → Type 0
Passed zone L n = IsSplit (ends zone.first.offset zone.changes) (length zone.changes) L n n

-- an instant with the offset after n changes that shows the reading
pub shows_before : (zone : Timeline) → IsOrdered zone.first.offset zone.changes → (L : ℤ) (n : ℕ) → Passed zone L n
    → ((n < length zone.changes) → (L -ℤ after zone n) <ℤ at zone.changes n)
    → offset_at zone (L -ℤ after zone n) ≡ after zone n
shows_before zone order L n split ahead =
    offset_between zone order _ _ n split.inside
    (λ k e. subst (λ (m : ℕ). at zone.changes k ≤ℤ (L -ℤ after zone m)) e (past_before L (at zone.changes k) (after zone k) (after zone (suc k)) (split.below k (omega arith))))
    ahead refl

-- and one with the offset after the next change
pub shows_after : (zone : Timeline) → IsOrdered zone.first.offset zone.changes → (L : ℤ) (n : ℕ) → Passed zone L n → n < length zone.changes
    → at zone.changes n ≤ℤ (L -ℤ after zone (suc n))
    → offset_at zone (L -ℤ after zone (suc n)) ≡ after zone (suc n)
shows_after zone order L n split some past =
    offset_between zone order _ _ (suc n) (omega arith)
    (λ k e. let same : k ≡ n = omega arith in rw same past)
    (λ inside. ahead_next L (at zone.changes (suc n)) (after zone (suc n)) (after zone (suc (suc n))) (ends zone.first.offset zone.changes n) (split.above n (omega arith) some) (order.apart n inside))
    refl

-- an instant that shows the reading has one of the two
pub record IsBefore (zone : Timeline) (L i : ℤ) (n : ℕ) : Type 0 where
  pub value : i ≡ (L -ℤ after zone n)
  pub ahead : n < length zone.changes → i <ℤ at zone.changes n

pub record IsAfter (zone : Timeline) (L i : ℤ) (n : ℕ) : Type 0 where
  pub some : n < length zone.changes
  pub value : i ≡ (L -ℤ after zone (suc n))
  pub past : at zone.changes n ≤ℤ i

pub back : (L i x : ℤ) → (i +ℤ x) ≡ L → i ≡ (L -ℤ x)
back L i x e = omega (arith, ints)

pub one_of_two : (zone : Timeline) → IsOrdered zone.first.offset zone.changes → (L i : ℤ) (n : ℕ) → Passed zone L n → local_at zone i ≡ L → IsBefore zone L i n ⊎ IsAfter zone L i n
one_of_two zone order L i n split shows =
    let r = some_count zone order i (length zone.changes) (omega arith) in
    by_count r.0 r.1 r.2 r.3 (offset_from-count zone.first zone.changes i r.0 (λ k less inside. r.2 k less) r.3)
  where
    too_far : (p : ℕ) → n ≤ p → suc p < length zone.changes → at zone.changes (suc p) ≤ℤ i → (i +ℤ after zone (suc (suc p))) ≡ L → ⊥
    too_far p more inside past shown =
        passed_next L i (at zone.changes (suc p)) (after zone (suc p)) (after zone (suc (suc p))) (ends zone.first.offset zone.changes p) shown past (order.apart p inside) (split.above p more (omega arith))

    by_count : (m : ℕ) → m ≤ length zone.changes → ((k : ℕ) → k < m → at zone.changes k ≤ℤ i)
        → ((k : ℕ) → m ≤ k → k < length zone.changes → i <ℤ at zone.changes k)
        → offset_at zone i ≡ after zone m
        → IsBefore zone L i n ⊎ IsAfter zone L i n
    by_count m inside below above offset =
        let shown : (i +ℤ after zone m) ≡ L = ap (λ x. i +ℤ x) (sym offset) ∙ shows in
        let within = split.inside in
        elim (cases_lt m n) [
          | inl less ↦ absurd (not_passed L i (at zone.changes m) (after zone m) (after zone (suc m)) shown (above m (omega arith) (omega arith)) (split.below m less))
          | inr more ↦ elim (cases_eq m n) [
            | inl e ↦
                let P : ℕ → Type 0 = λ n. IsBefore zone L i n in
                inl (subst P e (record { value = back L i (after zone m) shown; ahead = above m (omega arith) }))
            | inr other ↦ elim (cases_eq m (suc n)) [
              | inl e ↦
                  let P : ℕ → Type 0 = λ m. (i +ℤ after zone m) ≡ L in
                  inr (record { some = omega arith; value = back L i (after zone (suc n)) (subst P e shown); past = below n (omega arith) })
              | inr further ↦
                  let e : m ≡ suc (suc (m - 2)) = omega arith in
                  let P : ℕ → Type 0 = λ m. (i +ℤ after zone m) ≡ L in
                  absurd (too_far (m - 2) (omega arith) (omega arith) (below (suc (m - 2)) (omega arith)) (subst P e shown))
            ]
          ]
        ]

-- ---- the set of the instants, arm by arm
pub forth : (L i x : ℤ) → i ≡ (L -ℤ x) → (i +ℤ x) ≡ L
forth L i x e = omega (arith, ints)

shown_by : (zone : Timeline) (L i x : ℤ) → i ≡ (L -ℤ x) → offset_at zone (L -ℤ x) ≡ x → local_at zone i ≡ L
shown_by zone L i x e f =
    let same : offset_at zone i ≡ x = ap (offset_at zone) e ∙ f in
    ap (λ y. i +ℤ y) same ∙ forth L i x e

-- past the last change
pub once_at_end : (zone : Timeline) → IsOrdered zone.first.offset zone.changes → (L : ℤ) (n : ℕ) → Passed zone L n → length zone.changes ≤ n
    → (e : ℤ) → e ≡ (L -ℤ after zone n) → (i : ℤ) → (i ≡ e) ↔ (local_at zone i ≡ L)
once_at_end zone order L n split all e is i = (
  (λ same. shown_by zone L i (after zone n) (same ∙ is) (shows_before zone order L n split (λ some. absurd (omega arith)))),
  (λ shows. elim (one_of_two zone order L i n split shows) [
    | inl before ↦ before.value ∙ sym is
    | inr after ↦ absurd (let some = after.some in omega arith)
  ]),
)

-- next to a change: e and l are the instants by the offsets before and after it
pub record IsNear (zone : Timeline) (L : ℤ) (n : ℕ) (a e l : ℤ) : Type 0 where
  pub order : IsOrdered zone.first.offset zone.changes
  pub split : Passed zone L n
  pub some : n < length zone.changes
  pub at_is : a ≡ at zone.changes n
  pub earlier_is : e ≡ (L -ℤ after zone n)
  pub later_is : l ≡ (L -ℤ after zone (suc n))

earlier_shows : (zone : Timeline) (L : ℤ) (n : ℕ) (a e l : ℤ) → IsNear zone L n a e l → e <ℤ a → (i : ℤ) → i ≡ e → local_at zone i ≡ L
earlier_shows zone L n a e l near less i same =
    let h : (L -ℤ after zone n) <ℤ at zone.changes n = let P : ℤ → ℤ → Type 0 = λ x y. x <ℤ y in subst (λ (x : ℤ). x <ℤ at zone.changes n) near.earlier_is (subst (λ (y : ℤ). e <ℤ y) near.at_is less) in
    shown_by zone L i (after zone n) (same ∙ near.earlier_is) (shows_before zone near.order L n near.split (λ _. h))

later_shows : (zone : Timeline) (L : ℤ) (n : ℕ) (a e l : ℤ) → IsNear zone L n a e l → a ≤ℤ l → (i : ℤ) → i ≡ l → local_at zone i ≡ L
later_shows zone L n a e l near more i same =
    let h : at zone.changes n ≤ℤ (L -ℤ after zone (suc n)) = subst (λ (y : ℤ). at zone.changes n ≤ℤ y) near.later_is (subst (λ (x : ℤ). x ≤ℤ l) near.at_is more) in
    shown_by zone L i (after zone (suc n)) (same ∙ near.later_is) (shows_after zone near.order L n near.split near.some h)

-- an instant that shows it is the earlier one, which is before the change, or the later one, which is not
which : (zone : Timeline) (L : ℤ) (n : ℕ) (a e l : ℤ) → IsNear zone L n a e l → (i : ℤ) → local_at zone i ≡ L
    → ((i ≡ e) × (e <ℤ a)) ⊎ ((i ≡ l) × (a ≤ℤ l))
which zone L n a e l near i shows =
    elim (one_of_two zone near.order L i n near.split shows) [
      | inl before ↦
          let same : i ≡ e = before.value ∙ sym near.earlier_is in
          inl (same, subst (λ (x : ℤ). x <ℤ a) same (subst (λ (y : ℤ). i <ℤ y) (sym near.at_is) (before.ahead near.some)))
      | inr after ↦
          let same : i ≡ l = after.value ∙ sym near.later_is in
          inr (same, subst (λ (x : ℤ). a ≤ℤ x) same (subst (λ (y : ℤ). y ≤ℤ i) (sym near.at_is) after.past))
    ]

pub twice : (zone : Timeline) (L : ℤ) (n : ℕ) (a e l : ℤ) → IsNear zone L n a e l → e <ℤ a → a ≤ℤ l
    → (i : ℤ) → ((i ≡ e) ⊎ (i ≡ l)) ↔ (local_at zone i ≡ L)
twice zone L n a e l near less more i = (
  (λ one. elim one [ inl same ↦ earlier_shows zone L n a e l near less i same | inr same ↦ later_shows zone L n a e l near more i same ]),
  (λ shows. elim (which zone L n a e l near i shows) [ inl w ↦ inl w.0 | inr w ↦ inr w.0 ]),
)

pub once_before : (zone : Timeline) (L : ℤ) (n : ℕ) (a e l : ℤ) → IsNear zone L n a e l → e <ℤ a → l <ℤ a
    → (i : ℤ) → (i ≡ e) ↔ (local_at zone i ≡ L)
once_before zone L n a e l near less none i = (
  (λ same. earlier_shows zone L n a e l near less i same),
  (λ shows. elim (which zone L n a e l near i shows) [ inl w ↦ w.0 | inr w ↦ absurd (not_less l a none w.1) ]),
)

pub once_after : (zone : Timeline) (L : ℤ) (n : ℕ) (a e l : ℤ) → IsNear zone L n a e l → a ≤ℤ e → a ≤ℤ l
    → (i : ℤ) → (i ≡ l) ↔ (local_at zone i ≡ L)
once_after zone L n a e l near none more i = (
  (λ same. later_shows zone L n a e l near more i same),
  (λ shows. elim (which zone L n a e l near i shows) [ inl w ↦ absurd (not_less e a w.1 none) | inr w ↦ w.0 ]),
)

pub never : (zone : Timeline) (L : ℤ) (n : ℕ) (a e l : ℤ) → IsNear zone L n a e l → a ≤ℤ e → l <ℤ a
    → (i : ℤ) → ⊥ ↔ (local_at zone i ≡ L)
never zone L n a e l near none less i = (
  (λ no. absurd no),
  (λ shows. elim (which zone L n a e l near i shows) [ inl w ↦ not_less e a w.1 none | inr w ↦ not_less l a less w.1 ]),
)

-- a change in between: the offset just before it, and at it
pub just_before : (zone : Timeline) → IsOrdered zone.first.offset zone.changes → (n : ℕ) → n < length zone.changes → offset_at zone (at zone.changes n -ℤ pos 1) ≡ after zone n
just_before zone order n some =
    offset_between zone order _ _ n (omega arith)
    (λ k e. one_less (at zone.changes k) (at zone.changes n) (subst (λ (m : ℕ). at zone.changes k <ℤ at zone.changes m) e (order.rising k (omega arith))))
    (λ _. less_one (at zone.changes n)) refl
  where
    one_less : (a b : ℤ) → a <ℤ b → a ≤ℤ (b -ℤ pos 1)
    one_less a b h = omega (arith, ints)

    less_one : (a : ℤ) → (a -ℤ pos 1) <ℤ a
    less_one a = omega (arith, ints)

pub just_at : (zone : Timeline) → IsOrdered zone.first.offset zone.changes → (n : ℕ) → n < length zone.changes → offset_at zone (at zone.changes n) ≡ after zone (suc n)
just_at zone order n some =
    offset_between zone order _ _ (suc n) (omega arith) (λ k e. let f : k ≡ n = omega arith in rw f (same (at zone.changes n))) (λ inside. order.rising n inside) refl

-- as the code finds them: M is the reading that was passed on, b and f are the offsets that were looked up
pub passed : (zone : Timeline) (L M : ℤ) (n : ℕ) → M ≡ L → IsOrdered zone.first.offset zone.changes
    → IsBracket (ends zone.first.offset zone.changes) (length zone.changes) M n n → Passed zone L n
passed zone L M n same order b =
    subst (λ (x : ℤ). Passed zone x n) same (rising_split (ends zone.first.offset zone.changes) (length zone.changes) M n (ends_rise zone order) b)

pub near : (zone : Timeline) (L M : ℤ) (n : ℕ) (a e l b f : ℤ) → IsOrdered zone.first.offset zone.changes → M ≡ L → IsBracket (ends zone.first.offset zone.changes) (length zone.changes) M n n
    → n ≢ length zone.changes → a ≡ at zone.changes n → b ≡ after zone n → f ≡ after zone (n + 1) → e ≡ (L -ℤ b) → l ≡ (L -ℤ f) → IsNear zone L n a e l
near zone L M n a e l b f order same bracket other at_is b_is f_is e_is l_is =
    let split = passed zone L M n same order bracket in
    record {
      order = order;
      split = split;
      some = let i = split.inside in omega arith;
      at_is = at_is;
      earlier_is = e_is ∙ ap (λ x. L -ℤ x) b_is;
      later_is = l_is ∙ ap (λ x. L -ℤ x) (f_is ∙ ap (after zone) (add-one n));
    }

pub explained : (zone : Timeline) (L : ℤ) (n : ℕ) (a e l b f : ℤ) → IsNear zone L n a e l → b ≡ after zone n → f ≡ after zone (n + 1)
    → a ≤ℤ e → l <ℤ a → IsGap zone L a b f
explained zone L n a e l b f near b_is f_is none less =
    let next : f ≡ after zone (suc n) = f_is ∙ ap (after zone) (add-one n) in
    let offset : (k : ℕ) → IsOffset (after zone k) = λ k. after_changes-offset zone.first.offset zone.changes k near.order.offset near.order.offsets in
    record {
      moment = subst IsMoment (sym near.at_is) (near.order.moments n near.some);
      before_is = ap (λ x. offset_at zone (x -ℤ pos 1)) near.at_is ∙ just_before zone near.order n near.some ∙ sym b_is;
      after_is = ap (offset_at zone) near.at_is ∙ just_at zone near.order n near.some ∙ sym next;
      starts = from (near.earlier_is ∙ ap (λ x. L -ℤ x) (sym b_is)) none;
      ends = upto (near.later_is ∙ ap (λ x. L -ℤ x) (sym next)) less;
      offsets = (subst IsOffset (sym b_is) (offset n), subst IsOffset (sym next) (offset (suc n)));
    }
  where
    from : e ≡ (L -ℤ b) → a ≤ℤ e → (a +ℤ b) ≤ℤ L
    from p q = omega (arith, ints)

    upto : l ≡ (L -ℤ f) → l <ℤ a → L <ℤ (a +ℤ f)
    upto p q = omega (arith, ints)

-- the offset at an instant
pub offset_in : (zone : Timeline) → IsOrdered zone.first.offset zone.changes → (i : ℤ) → IsOffset (offset_at zone i)
offset_in zone order i =
    let r = some_count zone order i (length zone.changes) (omega arith) in
    subst IsOffset (sym (offset_from-count zone.first zone.changes i r.0 (λ k less inside. r.2 k less) r.3))
    (after_changes-offset zone.first.offset zone.changes r.0 order.offset order.offsets)

pub if_none : (r : Option ℤ) (P Q : Type 0) (x : ℤ) → SomeIff r P x → (¬ P → Q) → IfNone r Q
if_none None P Q x out h = h out
if_none (Some y) P Q x given h = tt

pub none_in : (r : Option ℤ) (P Q : Type 0) (x : ℤ) → SomeIff r P x → (Q → P) → IfNone r (¬ Q)
none_in r P Q x given h = if_none r P (¬ Q) x given (λ out q. out (h q))

pub some_in : (r : Option ℤ) (P : Type 0) (x y : ℤ) → x ≡ y → SomeIff r P x → IfSome r (λ (z : ℤ). z ≡ y)
some_in None P x y e out = tt
some_in (Some z) P x y e given = given.1 ∙ e
