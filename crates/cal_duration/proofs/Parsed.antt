-- The answer of a parser: the value of the form of a text, its error, or the position at which the
-- text stops matching.
use Rattle.std.proofs.Common.{◌≡◌, ◌<◌, ◌-◌, ◌↔◌, inl, inr, ℕ, List, length, Result, Ok, Err, IfOk, IfErr, Some, None, ap, sym, subst, ◌∙◌, refl, arith}
use Rattle.std.proofs.lemmas.Bool.{cases_lt}
use Rattle.std.proofs.lemmas.Option.{none-some, same_Some}
use Rattle.cal_text.specs.Position.{HasSome, IsPosition}
use Rattle.cal_text.proofs.Positions.{Stopped}
use Rattle.cal_text.proofs.Results.{one}
use Rattle.cal_duration.specs.declared.error.DurationComponent.{DurationComponent}
use Rattle.cal_duration.specs.declared.error.ParseDurationError.{ParseDurationError}
use Rattle.cal_duration.specs.declared.error.ParseDurationError.TheVariants.{UnexpectedByte, UnexpectedEnd, OutOfRange}
use Rattle.cal_duration.specs.Parsing.{FailsWithComponent, FailsWithSyntax, HasError, IsErrorAtStop, component_of}
use Rattle.cal_duration.specs.Values.{First}

-- What a parser ensures of its result.
pub record IsAnswer {F V : Type 0} (Has : List ℕ → F → Type 0) (Of : F → V → Type 0) (IsError : F → DurationComponent → Type 0) (text : List ℕ) (r : Result V ParseDurationError) : Type 0 where
  pub every : (v : V) → (f : F) × Has text f × Of f v → r ≡ Ok v
  pub value : IfOk r (λ v. (f : F) × Has text f × Of f v)
  pub syntax_error : FailsWithSyntax r ↔ ((f : F) → ¬ Has text f)
  pub position : IfErr r (IsErrorAtStop (HasSome Has) text)
  pub out_of_range : (why : DurationComponent) → FailsWithComponent why r ↔ HasError Has IsError text why

-- A form has one value or one error.
pub record HasOne {F V : Type 0} (Has : List ℕ → F → Type 0) (Of : F → V → Type 0) (IsError : F → DurationComponent → Type 0) : Type 0 where
  pub form : (bytes : List ℕ) (f g : F) → Has bytes f → Has bytes g → f ≡ g
  pub value : (f : F) (v w : V) → Of f v → Of f w → v ≡ w
  pub error : (f : F) (a b : DurationComponent) → IsError f a → IsError f b → a ≡ b
  pub either : (f : F) (v : V) (why : DurationComponent) → Of f v → IsError f why → ⊥

pub made : {F V : Type 0} (Has : List ℕ → F → Type 0) (Of : F → V → Type 0) (IsError : F → DurationComponent → Type 0) → HasOne Has Of IsError → (text : List ℕ) (form : F) (v : V)
    → Has text form → Of form v → IsAnswer Has Of IsError text (Ok v)
made Has Of IsError only text form v has is = record {
  every = λ w h. ap Ok (only.value form v w is (subst (λ f. Of f w) (only.form text h.0 form h.1 has) h.2));
  value = (form, has, is);
  syntax_error = (λ h. absurd h, λ none. absurd (none form has));
  position = tt;
  out_of_range = λ why. (λ h. absurd h, λ h. absurd (only.either form v why is (subst (λ f. IsError f why) (only.form text h.0 form h.1 has) h.2)));
}

pub refused : {F V : Type 0} (Has : List ℕ → F → Type 0) (Of : F → V → Type 0) (IsError : F → DurationComponent → Type 0) → HasOne Has Of IsError → (text : List ℕ) (form : F) (e : DurationComponent)
    → Has text form → IsError form e → IsAnswer {V = V} Has Of IsError text (Err (OutOfRange e))
refused Has Of IsError only text form e has is = record {
  every = λ w h. absurd (only.either form w e (subst (λ f. Of f w) (only.form text h.0 form h.1 has) h.2) is);
  value = tt;
  syntax_error = (λ h. absurd (none-some _ (sym h)), λ none. absurd (none form has));
  position = tt;
  out_of_range = λ why. (
    λ h. (form, has, subst (IsError form) (same_Some e why h) is),
    λ h. ap Some (only.error form e why is (subst (λ f. IsError f why) (only.form text h.0 form h.1 has) h.2)),
  );
}

named : (IsText : List ℕ → Type 0) (text : List ℕ) (p : ℕ) (e : ParseDurationError) → IsPosition IsText text p
    → (p < length text → e ≡ UnexpectedByte p) → (p ≡ length text → e ≡ UnexpectedEnd (length text)) → IsErrorAtStop IsText text e
named IsText text p e at byte end = elim (cases_lt p (length text)) as (λ _. IsErrorAtStop IsText text e) [
  | inl less ↦ rw (byte less) (at, less)
  | inr most ↦
      let whole : p ≡ length text = omega (arith, most, at.within) in
      rw (end whole) (subst (IsPosition IsText text) whole at, refl)
]

pub unmatched : {F V : Type 0} (Has : List ℕ → F → Type 0) (Of : F → V → Type 0) (IsError : F → DurationComponent → Type 0) (text rest : List ℕ) (e : ParseDurationError) → Stopped Has text rest
    → let p = length text - length rest in
    (p < length text → e ≡ UnexpectedByte p) → (p ≡ length text → e ≡ UnexpectedEnd (length text)) → component_of e ≡ None → IsAnswer {V = V} Has Of IsError text (Err e)
unmatched Has Of IsError text rest e stop byte end form = record {
  every = λ v h. absurd (stop.none h.0 h.1);
  value = tt;
  syntax_error = (λ h. stop.none, λ none. form);
  position = named (HasSome Has) text _ e stop.position byte end;
  out_of_range = λ why. (λ h. absurd (none-some _ (sym form ∙ h)), λ h. absurd (stop.none h.0 h.1));
}

-- ---- the first part that is out of range
pub first_one : (c : DurationComponent) (A : Type 0) (Others : DurationComponent → Type 0) → ((a b : DurationComponent) → Others a → Others b → a ≡ b)
    → (a b : DurationComponent) → First c A Others a → First c A Others b → a ≡ b
first_one c A Others one a b (inl x) (inl y) = x.0 ∙ sym y.0
first_one c A Others one a b (inl x) (inr y) = absurd (x.1 y.0)
first_one c A Others one a b (inr x) (inl y) = absurd (y.1 x.0)
first_one c A Others one a b (inr x) (inr y) = one a b x.1 y.1

pub first_none : (c : DurationComponent) (A : Type 0) (Others : DurationComponent → Type 0) (why : DurationComponent) → A → (Others why → ⊥) → First c A Others why → ⊥
first_none c A Others why here others (inl x) = x.1 here
first_none c A Others why here others (inr x) = others x.1
