-- Options and their results.
use Rattle.std.proofs.Common.{◌≡◌, ap, sym, ◌∙◌, Ok, Err}
use Rattle.std.specs.Prelude.{Option, Some, None, Result}

value-or : {A : Type 0} → A → Option A → A
value-or d None = d
value-or d (Some x) = x

pub same-value : {A : Type 0} (x y : A) → Some x ≡ Some y → x ≡ y
unfolding value-or
same-value x y e = ap (value-or x) e

pub no-value : {A : Type 0} (x : A) → None ≡ Some x → ⊥
no-value x e = cc

abbrev pub result-or : {A E : Type 0} → A → Result A E → A
result-or d (Ok x) = x
result-or d (Err e) = d

pub same-result : {A E : Type 0} (r : Result A E) (x y : A) → r ≡ Ok x → r ≡ Ok y → x ≡ y
same-result r x y e f = ap (result-or x) (sym e ∙ f)

pub no-result : {A E : Type 0} (e : E) (x : A) → Err e ≡ Ok x → ⊥
no-result e x h = cc
