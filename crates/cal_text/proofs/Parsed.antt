-- The answer of a parser to a text that has one form at most: the value of this form or its error,
-- or the position at which the text stops matching.
use Rattle.std.proofs.Common.{◌≡◌, ◌<◌, ◌-◌, ◌↔◌, ℕ, List, length, Result, Ok, Err, IfOk, IfErr, None, ap, sym, subst}
use Rattle.std.proofs.lemmas.Option.{none-some}
use Rattle.cal_time.specs.ComponentError.{FailsWith}
use Rattle.cal_time.specs.declared.error.ComponentRange.{ComponentRange}
use Rattle.cal_text.specs.Parsing.{HasError, FailsWithComponent, FailsWithSyntax, component_of}
use Rattle.cal_text.specs.Position.{HasSome, IsErrorAtStop}
use Rattle.cal_text.specs.declared.error.ParseError.{ParseError}
use Rattle.cal_text.specs.declared.error.ParseError.TheVariants.{UnexpectedByte, UnexpectedEnd, OutOfRange}
use Rattle.cal_text.proofs.Errors.{not_refused, refused_for, no_form}
use Rattle.cal_text.proofs.Positions.{Stopped, named}
use Rattle.cal_text.proofs.Results.{one, not_ok}

-- What a parser ensures of its result.
pub record IsAnswer {F V : Type 0} (Has : List ℕ → F → Type 0) (Of : F → V → Type 0) (IsError : F → ComponentRange → Type 0) (text : List ℕ) (r : Result V ParseError) : Type 0 where
  pub every : (v : V) → (f : F) × Has text f × Of f v → r ≡ Ok v
  pub value : IfOk r (λ v. (f : F) × Has text f × Of f v)
  pub syntax_error : FailsWithSyntax r ↔ ((f : F) → ¬ Has text f)
  pub position : IfErr r (IsErrorAtStop (HasSome Has) text)
  pub out_of_range : (why : ComponentRange) → FailsWithComponent why r ↔ HasError Has IsError text why

-- What is known of the value of a form.
pub record IsMade {F V : Type 0} (Of : F → V → Type 0) (IsError : F → ComponentRange → Type 0) (form : F) (r : Result V ComponentRange) : Type 0 where
  pub every : (v : V) → Of form v → r ≡ Ok v
  pub value : IfOk r (Of form)
  pub error : (why : ComponentRange) → FailsWith why r ↔ IsError form why

abbrev HasOne : {F : Type 0} → (List ℕ → F → Type 0) → Type 0
HasOne {F} Has = (bytes : List ℕ) (f g : F) → Has bytes f → Has bytes g → f ≡ g

-- a value of the text is one of its form
of_form : {F V : Type 0} (Has : List ℕ → F → Type 0) (Of : F → V → Type 0) (text : List ℕ) (form : F) (v : V) → HasOne Has → Has text form → (f : F) × Has text f × Of f v → Of form v
of_form Has Of text form v only has h = subst (λ f. Of f v) (only text h.0 form h.1 has) h.2

pub made : {F V : Type 0} (Has : List ℕ → F → Type 0) (Of : F → V → Type 0) (IsError : F → ComponentRange → Type 0) (text : List ℕ) (form : F) (v : V) → HasOne Has → Has text form
    → IsMade Of IsError form (Ok v) → IsAnswer Has Of IsError text (Ok v)
made Has Of IsError text form v only has is = record {
  every = λ w h. ap Ok (one v w (is.every w (of_form Has Of text form w only has h)));
  value = (form, has, is.value);
  syntax_error = (λ h. absurd h, λ none. absurd (none form has));
  position = tt;
  out_of_range = not_refused Has IsError text form (λ f h. ap Ok (only text form f has h)) is.error;
}

pub refused : {F V : Type 0} (Has : List ℕ → F → Type 0) (Of : F → V → Type 0) (IsError : F → ComponentRange → Type 0) (text : List ℕ) (form : F) (e : ComponentRange) → HasOne Has → Has text form
    → IsMade {V = V} Of IsError form (Err e) → IsAnswer {V = V} Has Of IsError text (Err (OutOfRange e))
refused Has Of IsError text form e only has is = record {
  every = λ w h. absurd (not_ok e w (is.every w (of_form Has Of text form w only has h)));
  value = tt;
  syntax_error = (λ h. absurd (none-some _ (sym h)), λ none. absurd (none form has));
  position = tt;
  out_of_range = refused_for Has IsError text form e (λ f h. ap Ok (only text form f has h)) has is.error;
}

pub unmatched : {F V : Type 0} (Has : List ℕ → F → Type 0) (Of : F → V → Type 0) (IsError : F → ComponentRange → Type 0) (text rest : List ℕ) (e : ParseError) → Stopped Has text rest
    → let p = length text - length rest in
    (p < length text → e ≡ UnexpectedByte p) → (p ≡ length text → e ≡ UnexpectedEnd (length text)) → component_of e ≡ None → IsAnswer {V = V} Has Of IsError text (Err e)
unmatched Has Of IsError text rest e stop byte end form = record {
  every = λ v h. absurd (stop.none h.0 h.1);
  value = tt;
  syntax_error = (λ h. stop.none, λ none. form);
  position = named (HasSome Has) text _ e stop.position byte end;
  out_of_range = no_form Has IsError text e form 0 (λ f h. absurd (stop.none f h));
}
