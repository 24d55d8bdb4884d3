-- The errors of parsers: from a clause for each component to one clause for all, and from a form to
-- its text.
use Rattle.std.proofs.Common.{◌≡◌, ◌⊎◌, ◌↔◌, Some, None, List, ℕ, Result, Ok, Err, IfErr, sym, ap, subst, ◌∙◌, inl, inr}
use Rattle.std.proofs.lemmas.Option.{none-some, same_Some}
use Rattle.cal_time.specs.ComponentError.{FailsWith}
use Rattle.cal_time.specs.declared.error.ComponentRange.{ComponentRange}
use Rattle.cal_text.specs.Parsing.{HasError, component_of}
use Rattle.cal_text.specs.declared.error.ParseError.{ParseError}
use Rattle.cal_text.proofs.Results.{one, not_ok}

-- ---- one of several components
abbrev For : ComponentRange → Type 0 → ComponentRange → Type 0
For a A why = (why ≡ a) × A

-- An error of the result for one of these reasons is one of these errors, and each of them is an
-- error of the result.
pub record AreErrors {V : Type 0} (r : Result V ComponentRange) (Reason IsError : ComponentRange → Type 0) : Type 0 where
  pub found : (why : ComponentRange) → FailsWith why r → Reason why → IsError why
  pub back : (why : ComponentRange) → IsError why → FailsWith why r

pub last : {V : Type 0} (r : Result V ComponentRange) (a : ComponentRange) (A : Type 0) → FailsWith a r ↔ A → AreErrors r (λ why. why ≡ a) (For a A)
last r a A is = record {
  found = λ why h e. (e, is.0 (subst (λ w. FailsWith w r) e h));
  back = λ why error. subst (λ w. FailsWith w r) (sym error.0) (is.1 error.1);
}

pub more : {V : Type 0} {R P : ComponentRange → Type 0} (r : Result V ComponentRange) (a : ComponentRange) (A : Type 0) → FailsWith a r ↔ A
    → AreErrors r R P → AreErrors r (λ why. (why ≡ a) ⊎ R why) (λ why. For a A why ⊎ P why)
more {V} {R} {P} r a A is others = record {
  found = λ why h reason. elim reason as (λ _. For a A why ⊎ P why) [ inl e ↦ inl ((last r a A is).found why h e) | inr e ↦ inr (others.found why h e) ];
  back = λ why error. elim error as (λ _. FailsWith why r) [ inl x ↦ (last r a A is).back why x | inr x ↦ others.back why x ];
}

pub all : {V : Type 0} {R P : ComponentRange → Type 0} (r : Result V ComponentRange) → AreErrors r R P → IfErr r R → (why : ComponentRange) → FailsWith why r ↔ P why
all (Ok v) errors reason why = (λ h. absurd h, λ error. errors.back why error)
all {V} {R} (Err e) errors reason why = (λ h. errors.found why h (subst R h reason), λ error. errors.back why error)

-- ---- two parts: the errors of the first, and those of the second if the first has a value
pub sooner : {X P Q Value : Type 0} → ¬ Value → X ↔ P → X ↔ (P ⊎ (Value × Q))
sooner {X} none is = (λ x. inl (is.0 x), λ h. elim h as (λ _. X) [ inl p ↦ is.1 p | inr q ↦ absurd (none q.0) ])

pub later : {X P Q Value : Type 0} → (X → Value) → ⊥ ↔ P → X ↔ Q → X ↔ (P ⊎ (Value × Q))
later {X} value never is = (λ x. inr (value x, is.0 x), λ h. elim h as (λ _. X) [ inl p ↦ absurd (never.1 p) | inr q ↦ is.1 q.1 ])

-- ---- a text has at most one form, so it has the errors of this form only
abbrev pub IsOnly : {F : Type 0} → (List ℕ → F → Type 0) → List ℕ → F → Type 0
IsOnly {F} Has text form = (other : F) → Has text other → ◌≡◌ {A = Result F ℕ} (Ok form) (Ok other)

only : {F : Type 0} (Has : List ℕ → F → Type 0) (Of : F → ComponentRange → Type 0) (text : List ℕ) (form : F) (why : ComponentRange)
    → IsOnly Has text form → HasError Has Of text why → Of form why
only Has Of text form why every h = subst (λ f. Of f why) (sym (one form h.0 (every h.0 h.1))) h.2

pub not_refused : {F : Type 0} (Has : List ℕ → F → Type 0) (Of : F → ComponentRange → Type 0) (text : List ℕ) (form : F)
    → IsOnly Has text form → ((why : ComponentRange) → ⊥ ↔ Of form why) → (why : ComponentRange) → ⊥ ↔ HasError Has Of text why
not_refused Has Of text form every component why = (λ e. absurd e, λ h. (component why).1 (only Has Of text form why every h))

pub refused_for : {F : Type 0} (Has : List ℕ → F → Type 0) (Of : F → ComponentRange → Type 0) (text : List ℕ) (form : F) (found : ComponentRange)
    → IsOnly Has text form → Has text form → ((why : ComponentRange) → (found ≡ why) ↔ Of form why)
    → (why : ComponentRange) → (Some found ≡ Some why) ↔ HasError Has Of text why
refused_for Has Of text form found every has component why =
    (λ e. (form, has, (component why).0 (same_Some found why e)), λ h. ap Some ((component why).1 (only Has Of text form why every h)))

pub no_form : {F : Type 0} (Has : List ℕ → F → Type 0) (Of : F → ComponentRange → Type 0) (text : List ℕ) (e : ParseError) → component_of e ≡ None
    → (position : ℕ) → ((form : F) → Has text form → ◌≡◌ {A = Result F ℕ} (Err position) (Ok form))
    → (why : ComponentRange) → (component_of e ≡ Some why) ↔ HasError Has Of text why
no_form Has Of text e none position every why = (λ h. absurd (none-some _ (sym none ∙ h)), λ h. absurd (not_ok _ _ (every h.0 h.1)))
