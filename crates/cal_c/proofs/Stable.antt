-- Numbers are equal if they aren't unequal, and so are structs of numbers. So a result that a condition
-- decides is one, though the condition may be any statement.
use Rattle.std.proofs.Common.{◌≡◌, ◌∙◌, ℕ, sym, ap, subst, arith}
use Rattle.std.proofs.lemmas.Int.{ints, by_lt_z}
use Rattle.std.specs.Prelude.{ℤ, pos}
use Rattle.cal_c.specs.Values.{need◌else◌then◌}

abbrev pub Stable : Type 0 → Type 0
Stable A = ((A → ⊥) → ⊥) → A

pub stable_z : (x y : ℤ) → Stable (x ≡ y)
stable_z x y never =
    by_lt_z x y (λ less. absurd (never (λ e. omega (arith, ints, e, less))))
    (λ most. by_lt_z y x (λ more. absurd (never (λ e. omega (arith, ints, e, more)))) (λ least. omega (arith, ints)))

pub stable_n : (x y : ℕ) → Stable (x ≡ y)
stable_n x y never = let e = stable_z (pos x) (pos y) (λ no. never (λ same. no (ap pos same))) in omega (arith, ints, e)

pub of_field : {A B : Type 0} (f : A → B) (x y : A) → ((x ≡ y → ⊥) → ⊥) → (f x ≡ f y → ⊥) → ⊥
of_field f x y never other = never (λ same. other (ap f same))

-- a condition holds or not
pub either : {A : Type 0} (Is : Type 0) → Stable A → (Is → A) → ((Is → ⊥) → A) → A
either Is stable holds fails = stable (λ never. never (fails (λ is. never (holds is))))

pub need-one_if : {R Is A B : Type 0} (r s e : R) → Stable (r ≡ s) → (Is → A → B → r ≡ s) → need Is else r ≡ e then A → need Is else s ≡ e then B → r ≡ s
need-one_if {Is = Is} r s e stable one h k = either Is stable (λ is. one is (h.value is) (k.value is)) (λ out. h.error out ∙ sym (k.error out))

pub need-one : {R Is A B : Type 0} (r s e : R) → Stable (r ≡ s) → (A → B → r ≡ s) → need Is else r ≡ e then A → need Is else s ≡ e then B → r ≡ s
need-one r s e stable one h k = need-one_if r s e stable (λ is. one) h k

-- a value that is given by its number
pub by_number-one : {V R : Type 0} (number : V → ℕ) (of : ℕ → V) → ((v : V) → of (number v) ≡ v) → (k : ℕ) (Is : V → R → Type 0) (r s : R) → ((v : V) → Is v r → Is v s → r ≡ s)
    → (v : V) × (number v ≡ k) × Is v r → (v : V) × (number v ≡ k) × Is v s → r ≡ s
by_number-one {V = V} number of known k Is r s one (u, e, h) (v, f, i) = one v (subst (λ (x : V). Is x r) (sym (known u) ∙ ap of (e ∙ sym f) ∙ known v) h) i
