-- A parser that stopped has shown a position, and a text stops matching a form at one position
-- only.
use Rattle.std.proofs.Common.{◌≡◌, ℕ, suc, ◌+◌, ◌-◌, ◌<◌, ◌≤◌, List, ◌++◌, length, refl, take, drop, sym, ap, subst, ◌∙◌, arith, inl, inr}
use Rattle.std.proofs.lemmas.Bool.{cases_lt}
use Rattle.std.proofs.lemmas.List.{length-drop, take-append-drop, append_assoc, take-take}
use Rattle.cal_text.specs.Position.{Begins, IsPosition, IsErrorAtStop, HasSome}
use Rattle.cal_text.specs.Shape.{Shape, unmatched_bytes}
use Rattle.cal_text.specs.declared.error.ParseError.{ParseError}
use Rattle.cal_text.specs.declared.error.ParseError.TheVariants.{UnexpectedByte, UnexpectedEnd, OutOfRange}
use Rattle.cal_text.proofs.Stops.{gone_over, completed, unmatched_bytes-most}

-- The form and the shape have the same texts, and each text has one value.
pub record IsShapeOf {V : Type 0} (Has : List ℕ → V → Type 0) (f : Shape) : Type 0 where
  pub each : (bytes : List ℕ) → HasSome Has bytes → unmatched_bytes f bytes ≡ 0
  pub only : (bytes : List ℕ) → unmatched_bytes f bytes ≡ 0 → HasSome Has bytes
  pub one : (bytes : List ℕ) (v w : V) → Has bytes v → Has bytes w → v ≡ w

-- the same of shapes that are large enough for the text
pub record AreShapesOf {V : Type 0} (Has : List ℕ → V → Type 0) (f : ℕ → Shape) : Type 0 where
  pub each : (k : ℕ) (bytes : List ℕ) → length bytes ≤ k → HasSome Has bytes → unmatched_bytes (f k) bytes ≡ 0
  pub only : (k : ℕ) (bytes : List ℕ) → unmatched_bytes (f k) bytes ≡ 0 → HasSome Has bytes
  pub one : (bytes : List ℕ) (v w : V) → Has bytes v → Has bytes w → v ≡ w

constant : {V : Type 0} (Has : List ℕ → V → Type 0) (f : Shape) → IsShapeOf Has f → AreShapesOf Has (λ k. f)
constant Has f p = record { each = λ k bytes few has. p.each bytes has; only = λ k bytes e. p.only bytes e; one = p.one }

position : {V : Type 0} (Has : List ℕ → V → Type 0) (f : ℕ → Shape) (text : List ℕ) (p r : ℕ) → AreShapesOf Has f
    → ((k : ℕ) → length text ≤ k → unmatched_bytes (f k) text ≡ suc r) → p + r ≡ length text → IsPosition (HasSome Has) text p
position Has f text p r shape e whole =
    let long : length text ≤ length text = omega arith in
    let rest : length (drop p text) ≡ r = omega (arith, length-drop p text) in
    let here : unmatched_bytes (f (length text)) (take p text ++ drop p text) ≡ suc (length (drop p text)) =
    ap (unmatched_bytes (f (length text))) (take-append-drop p text) ∙ e (length text) long ∙ ap (λ n. suc n) (sym rest) in
    let next = completed (f (length text)) (take p text) (drop p text) here in
    record {
      within = omega arith;
      begins = record { more = next.0; text = shape.only (length text) (take p text ++ next.0) next.1 };
      no_further = λ more further. beyond further.more more further.text;
    }
  where
    beyond : (others : List ℕ) → p < length text → HasSome Has (take (p + 1) text ++ others) → ⊥
    beyond others more has =
        let k = length text + length (take (p + 1) text ++ others) in
        let text_few : length text ≤ length text + length (take (p + 1) text ++ others) = omega arith in
        let few : length (take (p + 1) text ++ others) ≤ length text + length (take (p + 1) text ++ others) = omega arith in
        let over = gone_over (f k) (take (p + 1) text) others (drop (p + 1) text) (shape.each k (take (p + 1) text ++ others) few has) in
        omega (arith, e k text_few, whole, more, over, ap (unmatched_bytes (f k)) (take-append-drop (p + 1) text), length-drop (p + 1) text)

-- ---- one position
pub begins_less : (IsText : List ℕ → Type 0) (text : List ℕ) (p q : ℕ) → p ≤ q → Begins IsText (take q text) → Begins IsText (take p text)
begins_less IsText text p q less h =
    let same : take p (take q text) ++ drop p (take q text) ≡ take q text = take-append-drop p (take q text) in
    record {
      more = drop p (take q text) ++ h.more;
      text = subst IsText (ap (λ bytes. bytes ++ h.more) (sym same) ∙ append_assoc (take p (take q text)) (drop p (take q text)) h.more
          ∙ ap (λ bytes. bytes ++ (drop p (take q text) ++ h.more)) (take-take p q text less)) h.text;
    }

pub one_position : (IsText : List ℕ → Type 0) (text : List ℕ) (p q : ℕ) → IsPosition IsText text p → IsPosition IsText text q → p ≡ q
one_position IsText text p q a b =
    elim (cases_lt p q) as (λ _. p ≡ q) [
      | inl less ↦ absurd (a.no_further (omega (arith, less, b.within)) (begins_less IsText text (p + 1) q (omega arith) b.begins))
      | inr least ↦ elim (cases_lt q p) as (λ _. p ≡ q) [
        | inl more ↦ absurd (b.no_further (omega (arith, more, a.within)) (begins_less IsText text (q + 1) p (omega arith) a.begins))
        | inr most ↦ omega arith
      ]
    ]

-- ---- a parser that stopped: the text has no value, and it stops matching the form at the rest
pub record Stopped {V : Type 0} (Has : List ℕ → V → Type 0) (text rest : List ℕ) : Type 0 where
  pub none : (v : V) → ¬ Has text v
  pub within : length rest ≤ length text
  pub position : IsPosition (HasSome Has) text (length text - length rest)

pub stopped_large : {V : Type 0} (Has : List ℕ → V → Type 0) (f : ℕ → Shape) → AreShapesOf Has f → (text rest : List ℕ)
    → ((k : ℕ) → length text ≤ k → unmatched_bytes (f k) text ≡ suc (length rest)) → Stopped Has text rest
stopped_large Has f shape text rest scans =
    let long : length text ≤ length text = omega arith in
    let within : length rest ≤ length text = omega (arith, scans (length text) long, unmatched_bytes-most (f (length text)) text) in
    record {
      none = λ v has. absurd (omega (arith, scans (length text) long, shape.each (length text) text long (v, has)));
      within = within;
      position = position Has f text (length text - length rest) (length rest) shape scans (omega arith);
    }

pub stopped : {V : Type 0} (Has : List ℕ → V → Type 0) (f : Shape) → IsShapeOf Has f → (text rest : List ℕ) → unmatched_bytes f text ≡ suc (length rest) → Stopped Has text rest
stopped Has f shape text rest scans = stopped_large Has (λ k. f) (constant Has f shape) text rest (λ k few. scans)

-- ---- an error names the position that it is made of
pub named : (IsText : List ℕ → Type 0) (text : List ℕ) (p : ℕ) (e : ParseError) → IsPosition IsText text p
    → (p < length text → e ≡ UnexpectedByte p) → (p ≡ length text → e ≡ UnexpectedEnd (length text)) → IsErrorAtStop IsText text e
named IsText text p e at byte end = elim (cases_lt p (length text)) as (λ _. IsErrorAtStop IsText text e) [
  | inl less ↦ rw (byte less) (at, less)
  | inr most ↦
      let whole : p ≡ length text = omega (arith, most, at.within) in
      rw (end whole) (subst (IsPosition IsText text) whole at, refl)
]

-- The same error for another form, if the text stops matching both forms at the same position.
pub carried : (IsText IsOther : List ℕ → Type 0) (text : List ℕ) (e : ParseError) → ((p : ℕ) → IsPosition IsText text p → IsPosition IsOther text p)
    → IsErrorAtStop IsText text e → IsErrorAtStop IsOther text e
carried IsText IsOther text (UnexpectedByte p) same h = (same p h.0, h.1)
carried IsText IsOther text (UnexpectedEnd p) same h = (same p h.0, h.1)
carried IsText IsOther text (OutOfRange why) same h = tt
