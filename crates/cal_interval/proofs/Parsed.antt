-- The answer of a parser: the value of the form of a text, its error, or the position at which the
-- text stops matching.
use Rattle.std.proofs.Common.{◌≡◌, ◌<◌, ◌-◌, ◌↔◌, inl, inr, ℕ, List, length, Result, Ok, Err, IfOk, IfErr, Some, None, ap, sym, subst, ◌∙◌, refl, arith}
use Rattle.std.specs.Prelude.{IsErrAnd, Option}
use Rattle.cal_text.proofs.Parts.{same_pair}
use Rattle.cal_interval.specs.Values.{IsRepeatedOf, IsRepeatedError}
use Rattle.std.proofs.lemmas.Bool.{cases_lt}
use Rattle.std.proofs.lemmas.Option.{none-some, same_Some}
use Rattle.cal_text.specs.Position.{HasSome, IsPosition}
use Rattle.cal_text.proofs.Positions.{Stopped}
use Rattle.cal_text.proofs.Results.{one, not_ok}
use Rattle.cal_interval.specs.declared.error.IntervalComponent.{IntervalComponent}
use Rattle.cal_interval.specs.declared.error.ParseIntervalError.{ParseIntervalError}
use Rattle.cal_interval.specs.declared.error.ParseIntervalError.TheVariants.{UnexpectedByte, UnexpectedEnd, OutOfRange}
use Rattle.cal_interval.specs.Parsing.{FailsWithComponent, FailsWithSyntax, HasError, IsErrorAtStop, component_of}

-- What a parser ensures of its result.
pub record IsAnswer {F V : Type 0} (Has : List ℕ → F → Type 0) (Of : F → V → Type 0) (IsError : F → IntervalComponent → Type 0) (text : List ℕ) (r : Result V ParseIntervalError) : Type 0 where
  pub every : (v : V) → (f : F) × Has text f × Of f v → r ≡ Ok v
  pub value : IfOk r (λ v. (f : F) × Has text f × Of f v)
  pub syntax_error : FailsWithSyntax r ↔ ((f : F) → ¬ Has text f)
  pub position : IfErr r (IsErrorAtStop (HasSome Has) text)
  pub out_of_range : (why : IntervalComponent) → FailsWithComponent why r ↔ HasError Has IsError text why

-- What is known of the value of a form.
pub record IsMade {F V : Type 0} (Of : F → V → Type 0) (IsError : F → IntervalComponent → Type 0) (form : F) (r : Result V IntervalComponent) : Type 0 where
  pub every : (v : V) → Of form v → r ≡ Ok v
  pub value : IfOk r (Of form)
  pub error : (why : IntervalComponent) → IsErrAnd r (λ e. e ≡ why) ↔ IsError form why

abbrev HasOne : {F : Type 0} → (List ℕ → F → Type 0) → Type 0
HasOne {F} Has = (bytes : List ℕ) (f g : F) → Has bytes f → Has bytes g → f ≡ g

pub made : {F V : Type 0} (Has : List ℕ → F → Type 0) (Of : F → V → Type 0) (IsError : F → IntervalComponent → Type 0) (text : List ℕ) (form : F) (v : V) → HasOne Has → Has text form
    → IsMade Of IsError form (Ok v) → IsAnswer Has Of IsError text (Ok v)
made Has Of IsError text form v only has is = record {
  every = λ w h. ap Ok (one v w (is.every w (subst (λ f. Of f w) (only text h.0 form h.1 has) h.2)));
  value = (form, has, is.value);
  syntax_error = (λ h. absurd h, λ none. absurd (none form has));
  position = tt;
  out_of_range = λ why. (λ h. absurd h, λ h. (is.error why).1 (subst (λ f. IsError f why) (only text h.0 form h.1 has) h.2));
}

pub refused : {F V : Type 0} (Has : List ℕ → F → Type 0) (Of : F → V → Type 0) (IsError : F → IntervalComponent → Type 0) (text : List ℕ) (form : F) (e : IntervalComponent) → HasOne Has → Has text form
    → IsMade {V = V} Of IsError form (Err e) → IsAnswer {V = V} Has Of IsError text (Err (OutOfRange e))
refused Has Of IsError text form e only has is = record {
  every = λ w h. absurd (not_ok e w (is.every w (subst (λ f. Of f w) (only text h.0 form h.1 has) h.2)));
  value = tt;
  syntax_error = (λ h. absurd (none-some _ (sym h)), λ none. absurd (none form has));
  position = tt;
  out_of_range = λ why. (
    λ h. (form, has, (is.error why).0 (same_Some e why h)),
    λ h. ap Some ((is.error why).1 (subst (λ f. IsError f why) (only text h.0 form h.1 has) h.2)),
  );
}

named : (IsText : List ℕ → Type 0) (text : List ℕ) (p : ℕ) (e : ParseIntervalError) → IsPosition IsText text p
    → (p < length text → e ≡ UnexpectedByte p) → (p ≡ length text → e ≡ UnexpectedEnd (length text)) → IsErrorAtStop IsText text e
named IsText text p e at byte end = elim (cases_lt p (length text)) as (λ _. IsErrorAtStop IsText text e) [
  | inl less ↦ rw (byte less) (at, less)
  | inr most ↦
      let whole : p ≡ length text = omega (arith, most, at.within) in
      rw (end whole) (subst (IsPosition IsText text) whole at, refl)
]

pub unmatched : {F V : Type 0} (Has : List ℕ → F → Type 0) (Of : F → V → Type 0) (IsError : F → IntervalComponent → Type 0) (text rest : List ℕ) (e : ParseIntervalError) → Stopped Has text rest
    → let p = length text - length rest in
    (p < length text → e ≡ UnexpectedByte p) → (p ≡ length text → e ≡ UnexpectedEnd (length text)) → component_of e ≡ None → IsAnswer {V = V} Has Of IsError text (Err e)
unmatched Has Of IsError text rest e stop byte end form = record {
  every = λ v h. absurd (stop.none h.0 h.1);
  value = tt;
  syntax_error = (λ h. stop.none, λ none. form);
  position = named (HasSome Has) text _ e stop.position byte end;
  out_of_range = λ why. (λ h. absurd (none-some _ (sym form ∙ h)), λ h. absurd (stop.none h.0 h.1));
}

-- ---- a number of occurrences, and an interval
pub repeated_made : {M V : Type 0} (Of : M → V → Type 0) (IsError : M → IntervalComponent → Type 0) (c : Option ℕ) (m : M) (v : V) → IsMade Of IsError m (Ok v)
    → IsMade (IsRepeatedOf Of) (IsRepeatedError IsError) (c, m) (Ok (c, v))
repeated_made {V} Of IsError c m v h = record {
  every = λ w is. ap Ok (same_pair (Option ℕ) V (c, v) w (sym is.0) (one v w.1 (h.every w.1 is.1)));
  value = (refl, h.value);
  error = h.error;
}

pub repeated_refused : {M V : Type 0} (Of : M → V → Type 0) (IsError : M → IntervalComponent → Type 0) (c : Option ℕ) (m : M) (e : IntervalComponent) → IsMade {V = V} Of IsError m (Err e)
    → IsMade {V = Option ℕ × V} (IsRepeatedOf Of) (IsRepeatedError IsError) (c, m) (Err e)
repeated_refused Of IsError c m e h = record { every = λ w is. absurd (not_ok e w.1 (h.every w.1 is.1)); value = tt; error = h.error }
