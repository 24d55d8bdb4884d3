-- The contracts of formats with names allow only one result.
use Rattle.std.proofs.Common.{◌≡◌, ◌∙◌, ℕ, ◌+◌, ◌<◌, List, [], ◌∷◌, length, ap, sym, refl, subst, inl, inr, arith, Result, Ok, Err}
use Rattle.std.specs.Prelude.{IfErr, IsOk, ◌↔◌}
use Rattle.std.proofs.lemmas.Bool.{cases_lt, false≢true}
use Rattle.cal_text.specs.Shape.{unmatched_bytes}
use Rattle.cal_format.specs.declared.error.ParseError.{ParseError}
use Rattle.cal_format.specs.declared.error.ParseError.TheVariants.{UnexpectedByte, UnexpectedEnd, OutOfRange, Contradiction}
use Rattle.cal_format.specs.declared.item.Item.{Item}
use Rattle.cal_format.specs.declared.item.Item.TheVariants as item
use Rattle.cal_format.specs.declared.moment.Moment.{Moment}
use Rattle.cal_names.specs.declared.names.Names.{Names}
use Rattle.cal_named_format.specs.declared.error.NamesError.{NamesError}
use Rattle.cal_named_format.specs.declared.error.NamesError.TheVariants.{AmbiguousNames, AmbiguousNumber}
use Rattle.cal_named_format.specs.Ambiguity.{Ambiguous, IsFirst, IsFirstPair, IsItemError, IsNamesError, ReadBack}
use Rattle.cal_named_format.specs.Named.{table_of, shape_in, text_in, HasFormIn}
use Rattle.cal_named_format.specs.Rejection.{HasNumbersIn, IsRejectionIn}
use Rattle.cal_named_format.specs.Values.{ParsesIn}
use Rattle.cal_named_format.proofs.Ambiguities.{item-error, no-error}
use Rattle.cal_named_format.proofs.Ended.{AreTables}
use Rattle.cal_named_format.proofs.Named.{Reads, has-form-in, one-numbers-in}
use Rattle.cal_datetime_tests.proofs.OneFormatAnswer.{IsFormError, error-of, one-answer-of}

-- ---- parsers
form-error-in : (t : Names) (items : List Item) (text : List ℕ) (e : ParseError) → IsRejectionIn t items text e → IsFormError (HasFormIn t items) (λ numbers. HasNumbersIn t items numbers) items text e
form-error-in t items text (UnexpectedByte p) h = h
form-error-in t items text (UnexpectedEnd p) h = h
form-error-in t items text (OutOfRange why) h = h
form-error-in t items text (Contradiction c) h = h

pub one-answer-in : {V : Type 0} (IsHeld : V → Type 0) (moment_of : V → Moment) (t : Names) (items : List Item) (text : List ℕ) (r s : Result V ParseError) → AreTables t → ReadBack t items
    → ParsesIn IsHeld moment_of t items text r → ParsesIn IsHeld moment_of t items text s → r ≡ s
one-answer-in IsHeld moment_of t items text r s tables back first other =
    let reads : Reads t items = record { tables = tables; reads = back } in
    let IsError = IsFormError (HasFormIn t items) (λ numbers. HasNumbersIn t items numbers) items text in
    one-answer-of (λ v. IsHeld v × (text ≡ text_in t items (moment_of v))) (HasFormIn t items) (λ numbers. HasNumbersIn t items numbers) items text r s
    (record {
      one = λ ns ms bytes a b. one-numbers-in t items ns ms reads a.fit b.fit (sym a.text_is ∙ b.text_is);
      formed = λ ns bytes h. ap (unmatched_bytes (shape_in t items)) h.text_is ∙ has-form-in t items ns reads h.fit;
    })
    first.value other.value (λ v h. first.every v h.0 h.1) (λ v h. other.every v h.0 h.1)
    (error-of (IsRejectionIn t items text) IsError r (form-error-in t items text) first.error) (error-of (IsRejectionIn t items text) IsError s (form-error-in t items text) other.error)

-- ---- errors of names
first-one : (P : ℕ → Type 0) (m n : ℕ) → IsFirst P m → IsFirst P n → m ≡ n
first-one P m n a b = elim (cases_lt m n) as (λ _. m ≡ n) [
  | inl less ↦ absurd (b.before m less a.is)
  | inr least ↦ elim (cases_lt n m) as (λ _. m ≡ n) [ inl more ↦ absurd (a.before n more b.is) | inr most ↦ omega (arith, least, most) ]
]

pair-one : (P : ℕ → ℕ → Type 0) (i j k l : ℕ) → IsFirstPair P i j → IsFirstPair P k l → i ≡ k
pair-one P i j k l a b = elim (cases_lt i k) as (λ _. i ≡ k) [
  | inl less ↦ absurd (b.before i j less a.other.is)
  | inr least ↦ elim (cases_lt k i) as (λ _. i ≡ k) [ inl more ↦ absurd (a.before k l more b.other.is) | inr most ↦ omega (arith, least, most) ]
]

item-error-one : (t : Names) (i : Item) (items : List Item) (at : ℕ) (e f : NamesError) → IsItemError t i items at e → IsItemError t i items at f → e ≡ f
item-error-one t (item.Name k) items at (AmbiguousNames n i j) (AmbiguousNames m p q) a b =
    let P = Ambiguous (table_of t k) t items in
    let here = a.0 ∙ sym b.0 in
    let first = pair-one P i j p q a.1 b.1 in
    let second = first-one (P p) j q (subst (λ x. IsFirst (P x) j) first a.1.other) b.1.other in
    λ x. AmbiguousNames (here x) (first x) (second x)
item-error-one t (item.Name k) items at (AmbiguousNames n i j) (AmbiguousNumber m b) a h = absurd h
item-error-one t (item.Name k) items at (AmbiguousNumber n c) f a h = absurd a
item-error-one t _ items at (AmbiguousNumber n c) (AmbiguousNumber m d) a b =
    let here = a.0 ∙ sym b.0 in
    let byte = first-one _ c d a.1 b.1 in
    λ x. AmbiguousNumber (here x) (byte x)
item-error-one t _ items at (AmbiguousNumber n c) (AmbiguousNames m p q) a b = absurd b
item-error-one t _ items at (AmbiguousNames n i j) f a b = absurd a

names-error-one : (t : Names) (items : List Item) (at : ℕ) (e f : NamesError) → IsNamesError t items at e → IsNamesError t items at f → e ≡ f
names-error-one t [] at e f a b = absurd a
names-error-one t (i ∷ items) at e f (inl a) (inl b) = item-error-one t i items at e f a b
names-error-one t (i ∷ items) at e f (inl a) (inr b) = absurd (item-error t i items at e a b.0)
names-error-one t (i ∷ items) at e f (inr a) (inl b) = absurd (item-error t i items at f b a.0)
names-error-one t (i ∷ items) at e f (inr a) (inr b) = names-error-one t items (at + 1) e f a.1 b.1

pub one-check : (t : Names) (items : List Item) (r s : Result (Unit {0}) NamesError) → (IsOk r ↔ ReadBack t items) → (IsOk s ↔ ReadBack t items) → IfErr r (IsNamesError t items 0) → IfErr s (IsNamesError t items 0) → r ≡ s
one-check t items (Ok u) (Ok v) a b error errors = refl
one-check t items (Ok u) (Err f) a b error errors = absurd (no-error t items 0 f errors (a.0 refl))
one-check t items (Err e) (Ok v) a b error errors = absurd (no-error t items 0 e error (b.0 refl))
one-check t items (Err e) (Err f) a b error errors = ap Err (names-error-one t items 0 e f error errors)
