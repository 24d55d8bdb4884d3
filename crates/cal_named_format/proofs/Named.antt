-- A text with names has one list of numbers, and its form.
use Rattle.std.proofs.Common.{◌≡◌, ℕ, suc, ◌+◌, ◌-◌, ◌<◌, ◌≤◌, List, [], ◌∷◌, ◌++◌, length, take, refl, sym, ap, subst, ◌∙◌, arith, inl, inr, length-append, append-nil, Ok, Err}
use Rattle.std.specs.Prelude.{IsTrue, Option, None, Some, IfSome, Result, IfOk, IfErr}
use Rattle.std.proofs.lemmas.Bool.{cases_lt}
use Rattle.std.proofs.lemmas.List.{take_all}
use Rattle.cal_text.specs.Position.{IsPosition}
use Rattle.cal_text.specs.Shape.{Shape, End, Scans, unmatched_bytes}
use Rattle.cal_text.proofs.Positions.{IsShapeOf, stopped}
use Rattle.cal_text.proofs.Stops.{unmatched_bytes-done}
use Rattle.cal_format.specs.declared.error.ParseError.{ParseError}
use Rattle.cal_format.specs.declared.error.ParseError.TheVariants.{UnexpectedByte, UnexpectedEnd, OutOfRange, Contradiction}
use Rattle.cal_format.specs.declared.item.Item.{Item}
use Rattle.cal_format.specs.declared.item.Item.TheVariants as item
use Rattle.cal_format.specs.declared.item.Name.{Name}
use Rattle.cal_format.specs.declared.item.Name.TheVariants as name
use Rattle.cal_format.specs.declared.moment.Moment.{Moment}
use Rattle.cal_format.specs.Form.{ItemShape, numbered_item, numbered_text, numbers_of, item_number, IsNameNumber, IsNumber, AreNumbers}
use Rattle.cal_format.specs.Moment.{IsMoment}
use Rattle.cal_format.specs.Reading.{are_apart}
use Rattle.cal_format.specs.Rejection.{IsNumberRejection}
use Rattle.cal_format.specs.Scanning.{IsHeld, AreHeld}
use Rattle.cal_format.specs.Text.{item_text, text_of}
use Rattle.cal_format.specs.Values.{IsPrinted}
use Rattle.cal_format.proofs.Apart.{first_of, others_of}
use Rattle.cal_format.proofs.Own.{has-own}
use Rattle.cal_format.proofs.Shapes.{item-each}
use Rattle.cal_format.proofs.Uniques.{same-length, exact-split, item-number, one-numbers}
use Rattle.cal_names.specs.declared.names.Names.{Names}
use Rattle.cal_named_format.specs.Named.{table_of, count_of, first_number, name_in, item_text_in, text_in, numbered_item_in, numbered_text_in, item_shape_in, shape_in, HasFormIn}
use Rattle.cal_named_format.specs.Ambiguity.{EndsBefore, ReadBack}
use Rattle.cal_named_format.specs.Rejection.{HasNumbersIn, IsPrintedIn, IsRejectionIn}
use Rattle.cal_named_format.proofs.Ended.{AreTables, at-name, distinct, IsEndedIn, item-ended}
use Rattle.cal_names.proofs.NameShapes.{found-shape}

-- ---- the form
item-each-in : (t : Names) (i : Item) (n : ℕ) (f : Shape) (rest : List ℕ) → AreTables t → IsNumber i n → IsEndedIn t i n rest → unmatched_bytes (item_shape_in t i f) (numbered_item_in t i n ++ rest) ≡ unmatched_bytes f rest
item-each-in t (item.Name k) n f rest tables fit ended = found-shape (table_of t k) (n - first_number k) (name_in t k n) rest f (at-name t k n tables fit) ended
item-each-in t (item.Literal b) n f rest tables fit ended = item-each (item.Literal b) n f rest fit ended
item-each-in t (item.Number c p) n f rest tables fit ended = item-each (item.Number c p) n f rest fit ended
item-each-in t (item.Signed c p) n f rest tables fit ended = item-each (item.Signed c p) n f rest fit ended
item-each-in t item.Fraction n f rest tables fit ended = item-each item.Fraction n f rest fit ended
item-each-in t item.Decimals n f rest tables fit ended = item-each item.Decimals n f rest fit ended
item-each-in t item.OffsetSign n f rest tables fit ended = item-each item.OffsetSign n f rest fit ended
item-each-in t item.OffsetMinus n f rest tables fit ended = item-each item.OffsetMinus n f rest fit ended
item-each-in t item.TimestampSign n f rest tables fit ended = item-each item.TimestampSign n f rest fit ended
item-each-in t item.TimestampMinus n f rest tables fit ended = item-each item.TimestampMinus n f rest fit ended
item-each-in t item.Abbreviation n f rest tables fit ended = item-each item.Abbreviation n f rest fit ended

-- What makes the texts of a format with these names read back.
pub record Reads (t : Names) (items : List Item) : Type 0 where
  pub tables : AreTables t
  pub reads : ReadBack t items

others : (t : Names) (i : Item) (items : List Item) → Reads t (i ∷ items) → Reads t items
others t i items h = record { tables = h.tables; reads = h.reads.1 }

pub has-form-in : (t : Names) (items : List Item) (numbers : List ℕ) → Reads t items → AreNumbers items numbers → unmatched_bytes (shape_in t items) (numbered_text_in t items numbers) ≡ 0
has-form-in t [] numbers h fit = unmatched_bytes-done
has-form-in t (i ∷ items) [] h fit = absurd fit
has-form-in t (i ∷ items) (n ∷ numbers) h fit =
    let after = numbered_text_in t items numbers in
    let form = has-form-in t items numbers (others t i items h) fit.1 in
    item-each-in t i n (shape_in t items) after h.tables fit.0 (item-ended t i items n after h.tables h.reads.0 fit.0 form) ∙ form

-- ---- one list of numbers
same-number : (k : Name) (n m : ℕ) → IsNameNumber k n → IsNameNumber k m → n - first_number k ≡ m - first_number k → n ≡ m
same-number name.Period n m h g e = omega (arith, e)
same-number name.LowerPeriod n m h g e = omega (arith, e)
same-number _ n m h g e = omega (arith, e, h.0, g.0)

item-number-in : (t : Names) (i : Item) (items : List Item) (n m : ℕ) → AreTables t → EndsBefore t i items → IsNumber i n → IsNumber i m → numbered_item_in t i n ≡ numbered_item_in t i m → n ≡ m
item-number-in t (item.Name k) items n m tables ends h g e =
    same-number k n m h g (distinct (table_of t k) t items ends (n - first_number k) (m - first_number k) (name_in t k n) (at-name t k n tables h) (at-name t k m tables g ∙ ap Some (sym e)))
item-number-in t (item.Literal b) items n m tables ends h g e = item-number (item.Literal b) n m h g e
item-number-in t (item.Number c p) items n m tables ends h g e = item-number (item.Number c p) n m h g e
item-number-in t (item.Signed c p) items n m tables ends h g e = item-number (item.Signed c p) n m h g e
item-number-in t item.Fraction items n m tables ends h g e = item-number item.Fraction n m h g e
item-number-in t item.Decimals items n m tables ends h g e = item-number item.Decimals n m h g e
item-number-in t item.OffsetSign items n m tables ends h g e = item-number item.OffsetSign n m h g e
item-number-in t item.OffsetMinus items n m tables ends h g e = item-number item.OffsetMinus n m h g e
item-number-in t item.TimestampSign items n m tables ends h g e = item-number item.TimestampSign n m h g e
item-number-in t item.TimestampMinus items n m tables ends h g e = item-number item.TimestampMinus n m h g e
item-number-in t item.Abbreviation items n m tables ends h g e = item-number item.Abbreviation n m h g e

pub one-numbers-in : (t : Names) (items : List Item) (ns ms : List ℕ) → Reads t items → AreNumbers items ns → AreNumbers items ms → numbered_text_in t items ns ≡ numbered_text_in t items ms → ns ≡ ms
one-numbers-in t [] [] [] h f g e = refl
one-numbers-in t [] (n ∷ ns) ms h f g e = absurd f
one-numbers-in t [] [] (m ∷ ms) h f g e = absurd g
one-numbers-in t (i ∷ items) [] ms h f g e = absurd f
one-numbers-in t (i ∷ items) (n ∷ ns) [] h f g e = absurd g
one-numbers-in t (i ∷ items) (n ∷ ns) (m ∷ ms) h f g e =
    let r = numbered_text_in t items ns in
    let s = numbered_text_in t items ms in
    let own : unmatched_bytes (item_shape_in t i End) (numbered_item_in t i n ++ r) ≡ unmatched_bytes End r = item-each-in t i n End r h.tables f.0 (item-ended t i items n r h.tables h.reads.0 f.0 (has-form-in t items ns (others t i items h) f.1)) in
    let other : unmatched_bytes (item_shape_in t i End) (numbered_item_in t i m ++ s) ≡ unmatched_bytes End s = item-each-in t i m End s h.tables g.0 (item-ended t i items m s h.tables h.reads.0 g.0 (has-form-in t items ms (others t i items h) g.1)) in
    let same = same-length r s (sym own ∙ ap (unmatched_bytes (item_shape_in t i End)) e ∙ other) in
    let found = exact-split (numbered_item_in t i n) (numbered_item_in t i m) r s (omega (arith, same, ap length e, length-append (numbered_item_in t i n) r, length-append (numbered_item_in t i m) s)) e in
    let first = item-number-in t i items n m h.tables h.reads.0 f.0 g.0 found.0 in
    let rest = one-numbers-in t items ns ms (others t i items h) f.1 g.1 found.1 in
    λ j. first j ∷ rest j

-- ---- the numbers of a moment
item-own : (i : Item) (v : Moment) → IsMoment v → IsHeld v i → item_text [] v i ≡ numbered_item i (item_number v i)
item-own i v h held =
    let own = has-own (i ∷ []) v (text_of (i ∷ []) v) h (held, tt) refl in
    sym (append-nil (item_text [] v i)) ∙ own.text_is ∙ append-nil (numbered_item i (item_number v i))

item-own-in : (t : Names) (i : Item) (v : Moment) → IsMoment v → IsHeld v i → item_text_in t v i ≡ numbered_item_in t i (item_number v i)
item-own-in t (item.Name k) v h held = refl
item-own-in t (item.Literal b) v h held = item-own (item.Literal b) v h held
item-own-in t (item.Number c p) v h held = item-own (item.Number c p) v h held
item-own-in t (item.Signed c p) v h held = item-own (item.Signed c p) v h held
item-own-in t item.Fraction v h held = item-own item.Fraction v h held
item-own-in t item.Decimals v h held = item-own item.Decimals v h held
item-own-in t item.OffsetSign v h held = item-own item.OffsetSign v h held
item-own-in t item.OffsetMinus v h held = item-own item.OffsetMinus v h held
item-own-in t item.TimestampSign v h held = item-own item.TimestampSign v h held
item-own-in t item.TimestampMinus v h held = item-own item.TimestampMinus v h held
item-own-in t item.Abbreviation v h held = item-own item.Abbreviation v h held

items-own-in : (t : Names) (items : List Item) (v : Moment) → IsMoment v → AreHeld v items → text_in t items v ≡ numbered_text_in t items (numbers_of items v)
items-own-in t [] v h held = refl
items-own-in t (i ∷ items) v h held =
    let first = item-own-in t i v h held.0 in
    let rest = items-own-in t items v h held.1 in
    λ j. first j ++ rest j

pub own-numbers : (t : Names) (items : List Item) (v : Moment) (numbers text : List ℕ) → Reads t items → IsMoment v → AreHeld v items → HasNumbersIn t items numbers text → text ≡ text_in t items v → numbers ≡ numbers_of items v
own-numbers t items v numbers text reads h held has e =
    one-numbers-in t items numbers (numbers_of items v) reads has.fit (has-own items v (text_of items v) h held refl).fit (sym has.text_is ∙ e ∙ items-own-in t items v h held)

pub own-form : (t : Names) (items : List Item) (v : Moment) (text : List ℕ) → Reads t items → IsMoment v → AreHeld v items → text ≡ text_in t items v → unmatched_bytes (shape_in t items) text ≡ 0
own-form t items v text reads h held e =
    ap (unmatched_bytes (shape_in t items)) (e ∙ items-own-in t items v h held) ∙ has-form-in t items (numbers_of items v) reads (has-own items v (text_of items v) h held refl).fit

pub printed-in : (t : Names) (items : List Item) (v : Moment) (numbers text : List ℕ) → IsTrue (are_apart items) → HasNumbersIn t items numbers text → IsPrinted items v (numbered_text items numbers) → IsPrintedIn t items v text
printed-in t items v numbers text apart has is =
    let own = has-own items v (numbered_text items numbers) is.in_range is.numbers is.text_is in
    let same = one-numbers items numbers (numbers_of items v) (numbered_text items numbers) apart (record { fit = has.fit; text_is = refl }) own in
    record {
      in_range = is.in_range;
      numbers = is.numbers;
      parts = is.parts;
      offset_parts = is.offset_parts;
      text_is = has.text_is ∙ ap (numbered_text_in t items) same ∙ sym (items-own-in t items v is.in_range is.numbers);
    }

-- ---- errors
pub rejected-number : (t : Names) (items : List Item) (numbers text : List ℕ) (e : ParseError) → HasNumbersIn t items numbers text → IsNumberRejection items numbers e → IsRejectionIn t items text e
rejected-number t items numbers text (UnexpectedByte p) has h = absurd h
rejected-number t items numbers text (UnexpectedEnd p) has h = absurd h
rejected-number t items numbers text (OutOfRange why) has h = (numbers, has, h)
rejected-number t items numbers text (Contradiction c) has h = (numbers, has, h)

abbrev HasShape : Shape → List ℕ → Unit {0} → Type 0
HasShape f bytes u = unmatched_bytes f bytes ≡ 0

pub record IsStopIn (t : Names) (items : List Item) (text rest : List ℕ) : Type 0 where
  pub within : length rest ≤ length text
  pub position : IsPosition (HasFormIn t items) text (length text - length rest)

pub is-stop-in : (t : Names) (items : List Item) (text rest : List ℕ) → unmatched_bytes (shape_in t items) text ≡ suc (length rest) → IsStopIn t items text rest
is-stop-in t items text rest scans =
    let shape : IsShapeOf (HasShape (shape_in t items)) (shape_in t items) = record { each = λ bytes (u, h). h; only = λ bytes e. (tt, e); one = λ bytes v w a b. refl } in
    let s = stopped (HasShape (shape_in t items)) (shape_in t items) shape text rest scans in
    let p = s.position in
    record {
      within = s.within;
      position = record {
        within = p.within;
        begins = record { more = p.begins.more; text = p.begins.text.1 };
        no_further = λ more b. p.no_further more (record { more = b.more; text = (tt, b.text) });
      };
    }

pub rejected-at : (t : Names) (items : List Item) (text rest : List ℕ) (p : ℕ) (e : ParseError) → unmatched_bytes (shape_in t items) text ≡ suc (length rest) → IsPosition (HasFormIn t items) text p
    → (p < length text → e ≡ UnexpectedByte p) → (p ≡ length text → e ≡ UnexpectedEnd p) → IsRejectionIn t items text e
rejected-at t items text rest p e scans at byte end = elim (cases_lt p (length text)) as (λ _. IsRejectionIn t items text e) [
  | inl less ↦ rw (byte less) (at, less)
  | inr most ↦ (let whole : p ≡ length text = omega (arith, most, at.within) in rw (end whole) (at, whole, λ form. absurd (omega (arith, scans, form))))
]

-- ---- steps of a scan
pub has-first-in : (t : Names) (items : List Item) (n : ℕ) (numbers rest old mid : List ℕ) → 1 ≤ length items → IsNumber (first_of items) n → old ≡ numbered_item_in t (first_of items) n ++ mid
    → HasNumbersIn t (others_of items) rest mid → numbers ≡ n ∷ rest → HasNumbersIn t items numbers old
has-first-in t [] n numbers rest old mid some fit e h is = absurd (omega arith)
has-first-in t (i ∷ items) n numbers rest old mid some fit e h is =
    let same : take (length (i ∷ items) - 1) items ≡ items = take_all (length (i ∷ items) - 1) items (omega arith) in
    let own : HasNumbersIn t items rest mid = subst (λ l. HasNumbersIn t l rest mid) same h in
    let whole : HasNumbersIn t (i ∷ items) (n ∷ rest) old = record { fit = (fit, own.fit); text_is = e ∙ ap (λ l. numbered_item_in t i n ++ l) own.text_is } in
    subst (λ l. HasNumbersIn t (i ∷ items) l old) (sym is) whole

pub ok-mapped : {V E : Type 0} (P Q : V → Type 0) (r : Result V E) → ((v : V) → P v → Q v) → IfOk r P → IfOk r Q
ok-mapped P Q (Ok v) f h = f v h
ok-mapped P Q (Err e) f h = tt

pub err-mapped : {V E : Type 0} (P Q : E → Type 0) (r : Result V E) → ((e : E) → P e → Q e) → IfErr r P → IfErr r Q
err-mapped P Q (Ok v) f h = tt
err-mapped P Q (Err e) f h = f e h

pub some-names : (k : Name) → 1 ≤ count_of k
some-names name.Month = omega arith
some-names name.MonthAlone = omega arith
some-names _ = omega arith

pub number-fits : (k : Name) (i : ℕ) → i < count_of k → IsNameNumber k (i + first_number k)
number-fits name.Period i h = omega (arith, h)
number-fits name.LowerPeriod i h = omega (arith, h)
number-fits _ i h = (omega arith, omega (arith, h))

-- Moments with the same text in English have the same text.
pub alike-in : (t : Names) (items : List Item) (v m : Moment) → IsTrue (are_apart items) → IsMoment v → IsMoment m → AreHeld v items → AreHeld m items → text_of items v ≡ text_of items m → text_in t items v ≡ text_in t items m
alike-in t items v m apart hv hm held_v held_m e =
    let same = one-numbers items (numbers_of items v) (numbers_of items m) (text_of items v) apart (has-own items v (text_of items v) hv held_v refl) (has-own items m (text_of items v) hm held_m e) in
    items-own-in t items v hv held_v ∙ ap (numbered_text_in t items) same ∙ sym (items-own-in t items m hm held_m)

-- ---- items that are no names
pub other-shape : (t : Names) (i : Item) → ((k : Name) → i ≡ item.Name k → ⊥) → (f : Shape) → item_shape_in t i f ≡ ItemShape i f
other-shape t (item.Name k) h f = absurd (h k refl)
other-shape t _ h f = refl

pub other-text : (t : Names) (v : Moment) (i : Item) → ((k : Name) → i ≡ item.Name k → ⊥) → item_text [] v i ≡ item_text_in t v i
other-text t v (item.Name k) h = absurd (h k refl)
other-text t v _ h = refl

pub other-numbered : (t : Names) (i : Item) → ((k : Name) → i ≡ item.Name k → ⊥) → (n : ℕ) → numbered_item_in t i n ≡ numbered_item i n
other-numbered t (item.Name k) h n = absurd (h k refl)
other-numbered t _ h n = refl

pub scanned-other : (t : Names) (i : Item) → ((k : Name) → i ≡ item.Name k → ⊥) → (old new : List ℕ) (r : Option ℕ) → Scans (ItemShape i) old new r → Scans (item_shape_in t i) old new r
scanned-other t i h old new None s = λ f. ap (λ g. unmatched_bytes g old) (other-shape t i h f) ∙ s f
scanned-other t i h old new (Some n) s = λ f. ap (λ g. unmatched_bytes g old) (other-shape t i h f) ∙ s f

pub valued-other : (t : Names) (i : Item) → ((k : Name) → i ≡ item.Name k → ⊥) → (old new : List ℕ) (r : Option ℕ) → IfSome r (λ n. old ≡ numbered_item i n ++ new) → IfSome r (λ n. old ≡ numbered_item_in t i n ++ new)
valued-other t i h old new None s = tt
valued-other t i h old new (Some n) s = s ∙ ap (λ l. l ++ new) (sym (other-numbered t i h n))
