-- Contracts of parsers that allow only one result, or only one except for the position of a wrong
-- byte.
use Rattle.std.proofs.Common.{◌≡◌, ◌↔◌, ◌∙◌, ℕ, List, Option, None, Some, refl, sym, ap, arith, Result, Ok, Err}
use Rattle.std.specs.Prelude.{IfOk, IfErr}
use Rattle.cal_time.specs.declared.error.ComponentRange.{ComponentRange}
use Rattle.cal_text.specs.declared.error.ParseError.{ParseError}
use Rattle.std.proofs.lemmas.Option.{none-some}
use Rattle.cal_text.specs.declared.error.ParseError.TheVariants.{UnexpectedByte, UnexpectedEnd, OutOfRange}
use Rattle.cal_text.specs.Position.{IsErrorAtStop}
use Rattle.cal_text.proofs.Positions.{one_position}
use Rattle.cal_text.specs.Parsing.{component_of, FailsWithComponent, FailsWithSyntax}

-- Two results that are equal, except for the position of a wrong byte.
abbrev AreAlikeButForPosition : {V : Type 0} → Result V ParseError → Result V ParseError → Type 0
AreAlikeButForPosition (Ok v) (Ok w) = v ≡ w
AreAlikeButForPosition (Ok v) (Err f) = ⊥
AreAlikeButForPosition (Err e) (Ok w) = ⊥
AreAlikeButForPosition (Err e) (Err f) = component_of e ≡ component_of f

same_component : {NoForm : Type 0} {IsFault : ComponentRange → Type 0} (a b o : Option ComponentRange) → (a ≡ None) ↔ NoForm → (b ≡ None) ↔ NoForm
    → ((why : ComponentRange) → (a ≡ Some why) ↔ IsFault why) → ((why : ComponentRange) → (b ≡ Some why) ↔ IsFault why) → a ≡ o → a ≡ b
same_component a b None form other component fault e = e ∙ sym (other.1 (form.0 e))
same_component a b (Some why) form other component fault e = e ∙ sym ((fault why).1 ((component why).0 e))

alike : {V NoForm : Type 0} (Has : V → Type 0) {IsFault : ComponentRange → Type 0} (r s : Result V ParseError)
    → IfOk r Has → IfOk s Has → ((v : V) → Has v → r ≡ Ok v) → ((v : V) → Has v → s ≡ Ok v)
    → FailsWithSyntax r ↔ NoForm → FailsWithSyntax s ↔ NoForm → ((why : ComponentRange) → FailsWithComponent why r ↔ IsFault why)
    → ((why : ComponentRange) → FailsWithComponent why s ↔ IsFault why) → AreAlikeButForPosition r s
alike Has (Ok v) s has other here there form forms component fault = rw (there v has) refl
alike Has (Err e) (Ok w) has other here there form forms component fault = cc (here w other)
alike Has (Err e) (Err f) has other here there form forms component fault =
    same_component (component_of e) (component_of f) (component_of e) form forms component fault refl

-- Such a result is equal if it names the position.
same_answer : {V : Type 0} (IsText : List ℕ → Type 0) (text : List ℕ) (r s : Result V ParseError) → IfErr r (IsErrorAtStop IsText text)
    → IfErr s (IsErrorAtStop IsText text) → AreAlikeButForPosition r s → r ≡ s
same_answer IsText text (Ok v) (Ok w) a b e = ap Ok e
same_answer IsText text (Ok v) (Err f) a b e = absurd e
same_answer IsText text (Err e) (Ok w) a b same = absurd same
same_answer IsText text (Err (UnexpectedByte p)) (Err (UnexpectedByte q)) a b e = ap (λ n. Err (UnexpectedByte n)) (one_position IsText text p q a.0 b.0)
same_answer IsText text (Err (UnexpectedByte p)) (Err (UnexpectedEnd q)) a b e = absurd (omega (arith, one_position IsText text p q a.0 b.0, a.1, b.1))
same_answer IsText text (Err (UnexpectedByte p)) (Err (OutOfRange why)) a b e = absurd (none-some _ e)
same_answer IsText text (Err (UnexpectedEnd p)) (Err (UnexpectedByte q)) a b e = absurd (omega (arith, one_position IsText text p q a.0 b.0, a.1, b.1))
same_answer IsText text (Err (UnexpectedEnd p)) (Err (UnexpectedEnd q)) a b e = ap (λ n. Err (UnexpectedEnd n)) (a.1 ∙ sym b.1)
same_answer IsText text (Err (UnexpectedEnd p)) (Err (OutOfRange why)) a b e = absurd (none-some _ e)
same_answer IsText text (Err (OutOfRange why)) (Err (UnexpectedByte q)) a b e = absurd (none-some _ (sym e))
same_answer IsText text (Err (OutOfRange why)) (Err (UnexpectedEnd q)) a b e = absurd (none-some _ (sym e))
same_answer IsText text (Err (OutOfRange v)) (Err (OutOfRange w)) a b e = let same : v ≡ w = cc in ap (λ why. Err (OutOfRange why)) same

-- the clauses of a reader leave one answer
pub one_answer : {V NoForm : Type 0} (Has : V → Type 0) (IsFault : ComponentRange → Type 0) (IsText : List ℕ → Type 0) (text : List ℕ) (r s : Result V ParseError)
    → IfOk r Has → IfOk s Has → ((v : V) → Has v → r ≡ Ok v) → ((v : V) → Has v → s ≡ Ok v)
    → FailsWithSyntax r ↔ NoForm → FailsWithSyntax s ↔ NoForm → ((why : ComponentRange) → FailsWithComponent why r ↔ IsFault why)
    → ((why : ComponentRange) → FailsWithComponent why s ↔ IsFault why) → IfErr r (IsErrorAtStop IsText text) → IfErr s (IsErrorAtStop IsText text) → r ≡ s
one_answer Has IsFault IsText text r s has other here there form forms component fault stop stops =
    same_answer IsText text r s stop stops (alike Has r s has other here there form forms component fault)
