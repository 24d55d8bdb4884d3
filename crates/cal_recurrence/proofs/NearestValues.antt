-- The nearest value past another one that passes a test, and a search that goes on where a value is
-- left out.
use Rattle.std.proofs.Common.{◌≡◌, ℕ, ◌<◌, ◌≤◌, ℤ, ◌<ℤ◌, ap, ◌∙◌, arith, Bool, true, false, ◌&&◌, not, Option, Some, None, inl, inr, refl}
use Rattle.std.specs.Prelude.{nat_le}
use Rattle.std.specs.Ordering.{nat_cmp, int_cmp}
use Rattle.std.proofs.lemmas.Bool.{and_left, and_right, cases_Bool}
use Rattle.std.proofs.lemmas.Bool.Decides.{nat_tests}
use Rattle.std.proofs.lemmas.Int.{ints}
use Rattle.cal_recurrence.specs.Nearest.{is_past, IsFirstPast, IsNearest}

pub alike : {X : Type 0} (past : X → X → Bool) (s t : X → Bool) (v : X) (r : Option X) → ((k : X) → t k ≡ s k) → IsNearest past s v r → IsNearest past t v r
alike past s t v None same none = λ k beyond. same k ∙ none k beyond
alike past s t v (Some x) same h = record {
  beyond = h.beyond;
  passes = same x ∙ h.passes;
  none_between = λ k beyond before. same k ∙ h.none_between k beyond before;
}

-- ---- the next value that isn't left out
-- The test s is the test c without the exceptions x.
abbrev pub Leaves : {X : Type 0} (s c x : X → Bool) → Type 0
Leaves {X} s c x = (k : X) → s k ≡ (c k && not (x k))

-- Of two different values, one is past the other.
pub record IsOneOrder {X : Type 0} (past : X → X → Bool) : Type 0 where
  pub trans : (x y z : X) → past x y ≡ true → past y z ≡ true → past x z ≡ true
  pub total : (x y : X) → past x y ≡ false → past y x ≡ false → x ≡ y

-- A search past v has come to the value f: no value that passes is past v and not past f.
pub record IsSearched {X : Type 0} (past : X → X → Bool) (s : X → Bool) (v f : X) : Type 0 where
  pub beyond : (k : X) → past k f ≡ true → past k v ≡ true
  pub none : (k : X) → past k v ≡ true → past k f ≡ false → s k ≡ false

none_here : {X : Type 0} (past : X → X → Bool) (s c x : X → Bool) (v f k : X) → Leaves s c x → IsSearched past s v f → past k v ≡ true → (past k f ≡ true → c k ≡ false) → s k ≡ false
none_here past s c x v f k same at beyond next =
    elim (cases_Bool (past k f)) as (λ _. s k ≡ false) [
      | inl on ↦ same k ∙ and_left (c k) (not (x k)) (next on)
      | inr off ↦ at.none k beyond off
    ]

pub ended : {X : Type 0} (past : X → X → Bool) (s c x : X → Bool) (v f : X) → Leaves s c x → IsSearched past s v f → IsNearest past c f None → IsNearest past s v None
ended past s c x v f same at next = λ k beyond. none_here past s c x v f k same at beyond (next k)

pub kept : {X : Type 0} (past : X → X → Bool) (s c x : X → Bool) (v f n : X) → Leaves s c x → IsSearched past s v f → IsFirstPast past c f n → x n ≡ false → IsFirstPast past s v n
kept past s c x v f n same at next within = record {
  beyond = at.beyond n next.beyond;
  passes = same n ∙ rw (next.passes, within) refl;
  none_between = λ k beyond before. none_here past s c x v f k same at beyond (λ on. next.none_between k on before);
}

pub skipped : {X : Type 0} (past : X → X → Bool) (s c x : X → Bool) (v f n : X) → IsOneOrder past → Leaves s c x → IsSearched past s v f → IsFirstPast past c f n → x n ≡ true → IsSearched past s v n
skipped past s c x v f n order same at next out = record {
  beyond = λ k on. at.beyond k (order.trans k n f on next.beyond);
  none = λ k beyond off. elim (cases_Bool (past n k)) as (λ _. s k ≡ false) [
    | inl before ↦ none_here past s c x v f k same at beyond (λ on. next.none_between k on before)
    | inr behind ↦ let is : k ≡ n = order.total k n off behind in ap s is ∙ same n ∙ and_right (c n) (not (x n)) (ap not out)
  ];
}

-- ---- days and readings
-- A number fails if it is past the last one, or if it fails the test.
pub up_to : (n last : ℕ) (b : Bool) → (n ≤ last → b ≡ false) → (nat_le n last && b) ≡ false
up_to n last b off = elim (cases_Bool (nat_le n last)) as (λ _. (nat_le n last && b) ≡ false) [
  | inl early ↦ rw early (off (grind (arith, nat_tests)))
  | inr late ↦ rw late refl
]

pub within : (n last : ℕ) → n ≤ last → nat_le n last ≡ true
within n last h = grind (arith, nat_tests)

pub after : (n k : ℕ) → n < k → is_past nat_cmp true k n ≡ true
after n k h = grind (arith, nat_tests)

pub is-after : (n k : ℕ) → is_past nat_cmp true k n ≡ true → n < k
is-after n k h = grind (arith, nat_tests)

pub before : (n k : ℕ) → k < n → is_past nat_cmp false k n ≡ true
before n k h = grind (arith, nat_tests)

pub is-before : (n k : ℕ) → is_past nat_cmp false k n ≡ true → k < n
is-before n k h = grind (arith, nat_tests)

pub later : (y z : ℤ) → y <ℤ z → is_past int_cmp true z y ≡ true
later y z h = grind (arith, ints)

pub is-later : (y z : ℤ) → is_past int_cmp true z y ≡ true → y <ℤ z
is-later y z h = grind (arith, ints)

pub days_after : IsOneOrder (is_past nat_cmp true)
days_after = record { trans = λ x y z e f. grind (arith, nat_tests); total = λ x y e f. grind (arith, nat_tests) }

pub days_before : IsOneOrder (is_past nat_cmp false)
days_before = record { trans = λ x y z e f. grind (arith, nat_tests); total = λ x y e f. grind (arith, nat_tests) }

pub readings_after : IsOneOrder (is_past int_cmp true)
readings_after = record { trans = λ x y z e f. grind (arith, ints); total = λ x y e f. grind (arith, ints) }
