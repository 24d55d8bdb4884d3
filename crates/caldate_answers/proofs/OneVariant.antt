-- A variant has one list of numbers, so a lenient format has one reason to reject a string.
use Rattle.std.proofs.Common.{◌≡◌, ◌∙◌, ap, subst, sym, refl, inl, inr, arith, ℕ, zero, suc, ◌+◌, ◌≤◌, Bool, true, false, List, [], ◌∷◌, ◌++◌, append_assoc, get_or, drop, length, replicate, Option, Some, None}
use Rattle.std.specs.Prelude.{IsTrue, not}
use Rattle.std.specs.Str.Parse.{AllDigits, digits_value_after}
use Rattle.std.proofs.lemmas.Str.Parse.{digit_from_value}
use Rattle.cal_format.specs.Description.{is_space, spaces}
use Rattle.cal_format.specs.Form.{IsNameNumber, IsNumber, ItemShape, numbered_item, numbered_name, numbers_of}
use Rattle.cal_format.specs.Lenient.{CanRead, HasKnown, IsLenientlyEnded, IsLenientRejection, IsNumberEnded, IsOut, IsRead, IsWhiteEnded, are_leniently_apart, ends_leniently, items_of}
use Rattle.cal_format.specs.Moment.{width}
use Rattle.cal_format.specs.Rejection.{IsNumberRejection}
use Rattle.cal_format.specs.Values.{Holds, number_in}
use Rattle.cal_format.specs.Variants.{HasVariants, IsLiteralVariant, IsNumberText, IsNumberVariant, IsVariant, is_exact, is_free, is_name, is_white, letters}
use Rattle.cal_format.specs.declared.error.ParseError.{ParseError}
use Rattle.cal_format.specs.declared.error.ParseError.TheVariants.{UnexpectedByte, UnexpectedEnd, OutOfRange, Contradiction}
use Rattle.cal_format.specs.declared.item.Component.{Component}
use Rattle.cal_format.specs.declared.item.Component.TheVariants.{YearOfCentury}
use Rattle.cal_format.specs.declared.item.Item.{Item}
use Rattle.cal_format.specs.declared.item.Item.TheVariants as item
use Rattle.cal_format.specs.declared.item.Name.{Name}
use Rattle.cal_format.specs.declared.item.Padding.{Padding}
use Rattle.cal_format.specs.declared.lenient.LenientFormat.{LenientFormat}
use Rattle.cal_format.specs.declared.moment.Moment.{Moment}
use Rattle.cal_format.proofs.Apart.{both_tests}
use Rattle.cal_format.proofs.Known.{one-century, pair-low, read-known, variants-fit}
use Rattle.cal_format.proofs.Shapes.{item-each}
use Rattle.cal_format.proofs.Uniques.{exact-split}
use Rattle.cal_format.proofs.Variant.{items-ended, variant-letters}
use Rattle.cal_format.proofs.VariantScans.{exact-ended, letters-are, one-name, one-run, same-scan, spaces-are}
use Rattle.cal_text.specs.Shape.{unmatched_bytes}
use Rattle.cal_time.specs.declared.error.ComponentRange.{ComponentRange}
use Rattle.caldate_answers.specs.FormatErrors.{IsComponentError, format_reason_of}
use Rattle.caldate_answers.proofs.Rejected.{IsOne, number_reason, own_rejection}

-- ---- items without variants
exact_one : (i : Item) (n m : ℕ) (front own rest others : List ℕ) → IsTrue (is_exact i) → IsNumber i n → IsNumber i m → front ≡ numbered_item i n → own ≡ numbered_item i m
    → IsLenientlyEnded i rest → IsLenientlyEnded i others → front ++ rest ≡ own ++ others → (n ≡ m) × (rest ≡ others)
exact_one i n m front own rest others exact fit fits is are ended ends e =
    let first = ap (λ l. l ++ rest) is in
    same-scan i n m (front ++ rest) rest others fit fits (exact-ended i others exact ends)
    (λ f. ap (λ l. unmatched_bytes (ItemShape i f) l) first ∙ item-each i n f rest fit (exact-ended i rest exact ended)) first (e ∙ ap (λ l. l ++ others) are)

-- ---- white space
literal_one : (space after : Bool) (b : ℕ) (front own rest others : List ℕ) → IsLiteralVariant space after b front → IsLiteralVariant space after b own
    → IsWhiteEnded space rest → IsWhiteEnded space others → front ++ rest ≡ own ++ others → rest ≡ others
literal_one false after b front own rest others h k ended ends e = (exact-split front own rest others (ap length (h ∙ sym k)) e).1
literal_one true true b front own rest others h k ended ends e = (exact-split front own rest others (ap length (h ∙ sym k)) e).1
literal_one true false b front own rest others h k ended ends e =
    (exact-split front own rest others (sym (spaces-are front rest h.all ended.0 ended.1) ∙ ap spaces e ∙ spaces-are own others k.all ends.0 ends.1) e).1

-- ---- names
name_one : (k : Name) (n m : ℕ) (front own rest others : List ℕ) → IsNameNumber k n × IsTrue (is_name (numbered_name k n) front) → IsNameNumber k m × IsTrue (is_name (numbered_name k m) own)
    → IsOut 26 65 rest × IsOut 26 97 rest → IsOut 26 65 others × IsOut 26 97 others → front ++ rest ≡ own ++ others → (n ≡ m) × (rest ≡ others)
name_one k n m front own rest others h g ended ends e =
    let long = sym (letters-are front rest (variant-letters k n front h.1).0 ended.0 ended.1) ∙ ap letters e ∙ letters-are own others (variant-letters k m own g.1).0 ends.0 ends.1 in
    let same = exact-split front own rest others long e in
    (one-name k n m own h.0 g.0 (subst (λ l. IsTrue (is_name (numbered_name k n) l)) same.0 h.1) g.1, same.1)

-- ---- numbers
-- The spaces before a digit are as many as they are.
fill_one : (f g : ℕ) (ds es rest others : List ℕ) → AllDigits 10 ds → 1 ≤ length ds → AllDigits 10 es → 1 ≤ length es
    → replicate f 32 ++ (ds ++ rest) ≡ replicate g 32 ++ (es ++ others) → (f ≡ g) × (ds ++ rest ≡ es ++ others)
fill_one zero zero ds es rest others a some b more e = (refl, e)
fill_one (suc f) (suc g) ds es rest others a some b more e =
    let next = fill_one f g ds es rest others a some b more (ap (drop 1) e) in
    (ap suc next.0, next.1)
fill_one zero (suc g) [] es rest others a some b more e = absurd (omega (arith, some))
fill_one zero (suc g) (d ∷ ds) es rest others a some b more e =
    let space : d ≡ 32 = ap (λ l. get_or l 0 0) e in absurd (omega (arith, space, (digit_from_value d a.0).0))
fill_one (suc f) zero ds [] rest others a some b more e = absurd (omega (arith, more))
fill_one (suc f) zero ds (d ∷ es) rest others a some b more e =
    let space : 32 ≡ d = ap (λ l. get_or l 0 0) e in absurd (omega (arith, space, (digit_from_value d b.0).0))

number_one : (spaces : Bool) (w n m : ℕ) (front own rest others : List ℕ) → IsNumberVariant spaces w n front → IsNumberVariant spaces w m own → IsOut 10 48 rest → IsOut 10 48 others
    → front ++ rest ≡ own ++ others → (n ≡ m) × (rest ≡ others)
number_one spaces w n m front own rest others h k out away e =
    let whole = sym (append_assoc (replicate h.fill 32) h.digits rest) ∙ ap (λ l. l ++ rest) (sym h.text_is) ∙ e ∙ ap (λ l. l ++ others) k.text_is ∙ append_assoc (replicate k.fill 32) k.digits others in
    let filled = fill_one h.fill k.fill h.digits k.digits rest others h.all h.some k.all k.some whole in
    let run = one-run w h.digits k.digits rest others h.all k.all (omega (arith, h.fit)) (omega (arith, k.fit)) (inr out) away filled.1 in
    (sym h.value ∙ ap (digits_value_after 10 0) run.0 ∙ k.value, run.1)

number_text_one : (free after : Bool) (c : Component) (p : Padding) (n m : ℕ) (front own rest others : List ℕ) → is_free c ≡ free → IsNumberText free after c p n front → IsNumberText free after c p m own
    → IsNumberEnded free p rest → IsNumberEnded free p others → front ++ rest ≡ own ++ others → (n ≡ m) × (rest ≡ others)
number_text_one true after c p n m front own rest others is h k ended ends e = number_one _ (width c) n m front own rest others h k ended ends e
number_text_one false after c p n m front own rest others is h k ended ends e =
    exact_one (item.Number c p) n m front own rest others (ap not is) h.0 k.0 h.1 k.1
    (subst (λ b. IsNumberEnded b p rest) (sym is) ended) (subst (λ b. IsNumberEnded b p others) (sym is) ends) e

-- ---- all items
item_one : (after : Bool) (i : Item) (n m : ℕ) (front own rest others : List ℕ) → IsVariant after i n front → IsVariant after i m own → IsLenientlyEnded i rest → IsLenientlyEnded i others
    → front ++ rest ≡ own ++ others → (n ≡ m) × (rest ≡ others)
item_one after (item.Literal b) n m front own rest others h k ended ends e = (h.0 ∙ sym k.0, literal_one (is_space b) after b front own rest others h.1 k.1 ended ends e)
item_one after (item.Number c p) n m front own rest others h k ended ends e = number_text_one (is_free c) after c p n m front own rest others refl h k ended ends e
item_one after (item.Name t) n m front own rest others h k ended ends e = name_one t n m front own rest others h k ended ends e
item_one after (item.Signed c p) n m front own rest others h k ended ends e = exact_one (item.Signed c p) n m front own rest others refl h.0 k.0 h.1 k.1 ended ends e
item_one after item.Fraction n m front own rest others h k ended ends e = exact_one item.Fraction n m front own rest others refl h.0 k.0 h.1 k.1 ended ends e
item_one after item.Decimals n m front own rest others h k ended ends e = exact_one item.Decimals n m front own rest others refl h.0 k.0 h.1 k.1 ended ends e
item_one after item.OffsetSign n m front own rest others h k ended ends e = exact_one item.OffsetSign n m front own rest others refl h.0 k.0 h.1 k.1 ended ends e
item_one after item.OffsetMinus n m front own rest others h k ended ends e = exact_one item.OffsetMinus n m front own rest others refl h.0 k.0 h.1 k.1 ended ends e
item_one after item.TimestampSign n m front own rest others h k ended ends e = exact_one item.TimestampSign n m front own rest others refl h.0 k.0 h.1 k.1 ended ends e
item_one after item.TimestampMinus n m front own rest others h k ended ends e = exact_one item.TimestampMinus n m front own rest others refl h.0 k.0 h.1 k.1 ended ends e
item_one after item.Abbreviation n m front own rest others h k ended ends e = exact_one item.Abbreviation n m front own rest others refl h.0 k.0 h.1 k.1 ended ends e

one_variants : (after : Bool) (items : List Item) (ns ms text : List ℕ) → IsTrue (are_leniently_apart items) → HasVariants after items ns text → HasVariants after items ms text → ns ≡ ms
one_variants after [] [] [] text apart h k = refl
one_variants after [] (n ∷ ns) ms text apart h k = absurd h
one_variants after [] [] (m ∷ ms) text apart h k = absurd k
one_variants after (i ∷ items) [] ms text apart h k = absurd h
one_variants after (i ∷ items) (n ∷ ns) [] text apart h k = absurd k
one_variants after (i ∷ items) (n ∷ ns) (m ∷ ms) text apart h k =
    let both = both_tests (ends_leniently i items) (are_leniently_apart items) apart in
    let one = item_one after i n m h.front k.front h.rest k.rest h.first k.first (items-ended i items ns h.rest both.0 h.next) (items-ended i items ms k.rest both.0 k.next) (sym h.text_is ∙ k.text_is) in
    let others = one_variants (is_white i) items ns ms h.rest both.1 h.next (subst (HasVariants (is_white i) items ms) (sym one.1) k.next) in
    λ j. one.0 j ∷ others j

one_known : (pivot : Option ℕ) (items : List Item) (ns ms text : List ℕ) → IsTrue (are_leniently_apart items) → HasKnown pivot items ns text → HasKnown pivot items ms text → ns ≡ ms
one_known None items ns ms text apart h k = one_variants false items ns ms text apart h k
one_known (Some pivot) items [] ms text apart h k = absurd h
one_known (Some pivot) items (c ∷ ns) [] text apart h k = absurd k
one_known (Some pivot) items (c ∷ ns) (d ∷ ms) text apart h k =
    let same = one_variants false items ns ms text apart h.0 k.0 in
    let low = pair-low items ns (variants-fit false items ns text h.0) in
    let pair = ap (λ l. number_in items l YearOfCentury) same in
    let first = one-century pivot c d (number_in items ns YearOfCentury) low h.1 h.2 (omega (arith, pair, k.1)) (omega (arith, pair, k.2)) in
    λ j. first j ∷ same j

-- ---- one reason
abbrev IsNumbered : LenientFormat → List ℕ → ParseError → Type 0
IsNumbered f text e = (ns : List ℕ) × HasKnown f.pivot f.format ns text × IsNumberRejection (items_of f) ns e

same_numbered : (f : LenientFormat) (text : List ℕ) (e g : ParseError) → CanRead f → IsNumbered f text e → IsNumbered f text g → format_reason_of e ≡ format_reason_of g
same_numbered f text e g can h k =
    number_reason (items_of f) k.0 e g (subst (λ l. IsNumberRejection (items_of f) l e) (one_known f.pivot f.format h.0 k.0 text can.apart h.1 k.1) h.2) k.2

pub one_lenient_rejection : (f : LenientFormat) (text : List ℕ) → CanRead f → IsOne (IsLenientRejection f text)
one_lenient_rejection f text can (UnexpectedByte p) (UnexpectedByte q) h k = refl
one_lenient_rejection f text can (UnexpectedByte p) (UnexpectedEnd q) h k = refl
one_lenient_rejection f text can (UnexpectedByte p) (OutOfRange d) h k = absurd (h.1 k.0 k.1)
one_lenient_rejection f text can (UnexpectedByte p) (Contradiction b) h k = absurd (h.1 k.0 k.1)
one_lenient_rejection f text can (UnexpectedEnd p) (UnexpectedByte q) h k = refl
one_lenient_rejection f text can (UnexpectedEnd p) (UnexpectedEnd q) h k = refl
one_lenient_rejection f text can (UnexpectedEnd p) (OutOfRange d) h k = absurd (h.1 k.0 k.1)
one_lenient_rejection f text can (UnexpectedEnd p) (Contradiction b) h k = absurd (h.1 k.0 k.1)
one_lenient_rejection f text can (OutOfRange c) (UnexpectedByte q) h k = absurd (k.1 h.0 h.1)
one_lenient_rejection f text can (OutOfRange c) (UnexpectedEnd q) h k = absurd (k.1 h.0 h.1)
one_lenient_rejection f text can (OutOfRange c) (OutOfRange d) h k = same_numbered f text (OutOfRange c) (OutOfRange d) can h k
one_lenient_rejection f text can (OutOfRange c) (Contradiction b) h k = same_numbered f text (OutOfRange c) (Contradiction b) can h k
one_lenient_rejection f text can (Contradiction a) (UnexpectedByte q) h k = absurd (k.1 h.0 h.1)
one_lenient_rejection f text can (Contradiction a) (UnexpectedEnd q) h k = absurd (k.1 h.0 h.1)
one_lenient_rejection f text can (Contradiction a) (OutOfRange d) h k = same_numbered f text (Contradiction a) (OutOfRange d) can h k
one_lenient_rejection f text can (Contradiction a) (Contradiction b) h k = same_numbered f text (Contradiction a) (Contradiction b) can h k

-- A moment that is read has no error.
read_numbered : (f : LenientFormat) (v : Moment) (text : List ℕ) (e : ParseError) → CanRead f → Holds (items_of f) v → IsRead f v text → IsNumbered f text e → ⊥
read_numbered f v text e can holds read h =
    let own = read-known f.pivot f.format v text can.pivot read.window read.variant in
    own_rejection (items_of f) h.0 v e holds (one_known f.pivot f.format h.0 (numbers_of (items_of f) v) text can.apart h.1 own) h.2

pub lenient_unrejected : (f : LenientFormat) (v : Moment) (text : List ℕ) (c : ComponentRange) → CanRead f → Holds (items_of f) v → IsRead f v text → IsComponentError (IsLenientRejection f text) c → ⊥
lenient_unrejected f v text c can holds read (inl h) = read_numbered f v text (OutOfRange c) can holds read h
lenient_unrejected f v text c can holds read (inr (name, h, same)) = read_numbered f v text (Contradiction name) can holds read h

-- ---- a string with an error of a component is a variant
numbered_variant : (pivot : Option ℕ) (items : List Item) (ns text : List ℕ) → HasKnown pivot items ns text → (numbers : List ℕ) × HasVariants false items numbers text
numbered_variant None items ns text h = (ns, h)
numbered_variant (Some pivot) items [] text h = absurd h
numbered_variant (Some pivot) items (c ∷ ns) text h = (ns, h.0)

pub error_variant : (f : LenientFormat) (text : List ℕ) (c : ComponentRange) → IsComponentError (IsLenientRejection f text) c → (numbers : List ℕ) × HasVariants false f.format numbers text
error_variant f text c (inl h) = numbered_variant f.pivot f.format h.0 text h.1
error_variant f text c (inr (name, h, same)) = numbered_variant f.pivot f.format h.0 text h.1
