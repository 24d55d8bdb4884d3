-- Where the variants of items at the front of some bytes end.
use Rattle.std.proofs.Common.{◌≡◌, ◌⊎◌, inl, inr, ℕ, zero, suc, ◌+◌, ◌-◌, ◌<◌, ◌≤◌, Bool, true, false, List, [], ◌∷◌, ◌++◌, length, length-drop, take, drop, get_or, replicate, refl, sym, ap, subst, ◌∙◌, arith, lit≤, lit<}
use Rattle.std.specs.Prelude.{IsTrue, ◌&&◌, ◌||◌, not, if◌then◌else◌}
use Rattle.std.specs.Str.Parse.{AllDigits}
use Rattle.std.proofs.lemmas.Bool.{cases_lt, false≢true}
use Rattle.std.proofs.lemmas.Bool.Decides.{nat_tests}
use Rattle.std.proofs.lemmas.List.{take_all}
use Rattle.cal_format.specs.Description.{is_space}
use Rattle.cal_format.specs.Lenient.{are_leniently_apart, ends_leniently, IsLenientlyEnded, IsNumberEnded, IsOut, IsWhiteEnded}
use Rattle.cal_format.specs.Variants.{all_letters, all_spaces, is_free, is_letter as is_name_letter, is_white, pads_with_spaces, IsLiteralVariant, IsNumberText, IsVariant, HasVariants}
use Rattle.cal_format.specs.declared.item.Component.{Component}
use Rattle.cal_format.specs.declared.item.Item.{Item}
use Rattle.cal_format.specs.declared.item.Item.TheVariants as item
use Rattle.cal_format.specs.declared.item.Name.{Name}
use Rattle.cal_format.specs.declared.item.Padding.{Padding}
use Rattle.cal_format.proofs.Apart.{both_tests}
use Rattle.cal_format.proofs.Variant.{digit-value-in, items-ended, variant-letters}
use Rattle.caldate_answers.specs.Offsets.{is_digit, is_letter}
use Rattle.caldate_answers.specs.VariantFronts.{CutsAt, begins_with, is_in, run_length}
use Rattle.caldate_answers.specs.declared.scan.variant_bound.ByteClass.{ByteClass}
use Rattle.caldate_answers.specs.declared.scan.variant_bound.ByteClass.TheVariants.{Digit, Letter, Space}

-- ---- bytes of one class
abbrev AllIn : ByteClass → List ℕ → Type 0
AllIn class [] = Unit {0}
AllIn class (x ∷ xs) = IsTrue (is_in class x) × AllIn class xs

-- The text doesn't begin with a byte of the class.
abbrev NotIn : ByteClass → List ℕ → Type 0
NotIn class [] = Unit {0}
NotIn class (x ∷ xs) = is_in class x ≡ false

abbrev first_of : List ℕ → ℕ
first_of [] = 0
first_of (x ∷ xs) = x

abbrev others_of : List ℕ → List ℕ
others_of [] = []
others_of (x ∷ xs) = xs

run-yes : (class : ByteClass) (x : ℕ) (xs : List ℕ) → IsTrue (is_in class x) → run_length class (x ∷ xs) ≡ suc (run_length class xs)
run-yes class x xs e = ap (λ t. if t then suc (run_length class xs) else 0) e

run-no : (class : ByteClass) (x : ℕ) (xs : List ℕ) → is_in class x ≡ false → run_length class (x ∷ xs) ≡ 0
run-no class x xs e = ap (λ t. if t then suc (run_length class xs) else 0) e

-- If n of the bytes begin text of the class and text that doesn't continue it, the first text is all
-- bytes of the class at the front, or has at least n.
run-cut : (class : ByteClass) (front rest bytes more : List ℕ) (n : ℕ) → AllIn class front → NotIn class rest → n ≤ length bytes → take n bytes ++ more ≡ front ++ rest
    → (n ≤ run_length class bytes) ⊎ (length front ≡ run_length class bytes)
run-cut class front rest bytes more zero all out fits e = inl (omega arith)
run-cut class front rest [] more (suc n) all out fits e = absurd (omega (arith, fits))
run-cut class [] rest (x ∷ xs) more (suc n) all out fits e = inr (sym (run-no class x xs (subst (NotIn class) (sym e) out)))
run-cut class (y ∷ ys) rest (x ∷ xs) more (suc n) all out fits e =
    let more_is = run-yes class x xs (subst (λ b. IsTrue (is_in class b)) (sym (ap first_of e)) all.0) in
    elim (run-cut class ys rest xs more n all.1 out (omega (arith, fits)) (ap others_of e)) as (λ _. (suc n ≤ run_length class (x ∷ xs)) ⊎ (suc (length ys) ≡ run_length class (x ∷ xs))) [
      | inl few ↦ inl (omega (arith, few, more_is))
      | inr same ↦ inr (ap suc same ∙ sym more_is)
    ]

run-some : (class : ByteClass) (front rest bytes more : List ℕ) (n : ℕ) → AllIn class front → 1 ≤ length front → 0 < n → n ≤ length bytes → take n bytes ++ more ≡ front ++ rest
    → 0 < run_length class bytes
run-some class front rest bytes more zero all full some fits e = absurd (omega (arith, some))
run-some class front rest [] more (suc n) all full some fits e = absurd (omega (arith, fits))
run-some class [] rest (x ∷ xs) more (suc n) all full some fits e = absurd (omega (arith, full))
run-some class (y ∷ ys) rest (x ∷ xs) more (suc n) all full some fits e =
    omega (arith, run-yes class x xs (subst (λ b. IsTrue (is_in class b)) (sym (ap first_of e)) all.0))

cuts : (class : ByteClass) (after : Bool) (i : Item) (bytes : List ℕ) → ((k : ℕ) (front : List ℕ) → IsVariant after i k front → AllIn class front × (1 ≤ length front))
    → ((rest : List ℕ) → IsLenientlyEnded i rest → NotIn class rest) → CutsAt after i bytes (run_length class bytes)
cuts class after i bytes inside outside k n front rest more is ended some fits e =
    let all = inside k front is in
    (run-some class front rest bytes more n all.0 all.1 some fits e, run-cut class front rest bytes more n all.0 (outside rest ended) fits e)

-- ---- numbers
digit-not : (x : ℕ) → (x < 48) ⊎ (48 + 10 ≤ x) → is_digit x ≡ false
digit-not x (inl h) = grind (arith, nat_tests)
digit-not x (inr h) = grind (arith, nat_tests)

digits-out : (rest : List ℕ) → IsOut 10 48 rest → NotIn Digit rest
digits-out [] h = tt
digits-out (x ∷ xs) h = digit-not x h

digits-in : (digits : List ℕ) → AllDigits 10 digits → AllIn Digit digits
digits-in [] h = tt
digits-in (x ∷ xs) h = (digit-value-in x h.0, digits-in xs h.1)

no-fill : (after spaces : Bool) → (after || not spaces) ≡ true → (spaces && not after) ≡ false
no-fill true true e = refl
no-fill true false e = refl
no-fill false true e = absurd (false≢true e)
no-fill false false e = refl

number-in : (free after : Bool) (c : Component) (p : Padding) (k : ℕ) (front : List ℕ) → free ≡ true → (after || not (pads_with_spaces p)) ≡ true → IsNumberText free after c p k front
    → AllIn Digit front × (1 ≤ length front)
number-in true after c p k front f e h =
    let none = h.unfilled (no-fill after (pads_with_spaces p) e) in
    let same : front ≡ h.digits = h.text_is ∙ ap (λ n. replicate n 32 ++ h.digits) none in
    (subst (AllIn Digit) (sym same) (digits-in h.digits h.all), omega (arith, ap length same, h.some))
number-in false after c p k front f e h = absurd (false≢true f)

number-out : (free : Bool) (p : Padding) (rest : List ℕ) → free ≡ true → IsNumberEnded free p rest → NotIn Digit rest
number-out true p rest f h = digits-out rest h
number-out false p rest f h = absurd (false≢true f)

pub cuts-number : (after : Bool) (c : Component) (p : Padding) (bytes : List ℕ) → is_free c ≡ true → (after || not (pads_with_spaces p)) ≡ true
    → CutsAt after (item.Number c p) bytes (run_length Digit bytes)
cuts-number after c p bytes f e = cuts Digit after (item.Number c p) bytes (λ k front h. number-in (is_free c) after c p k front f e h) (λ rest h. number-out (is_free c) p rest f h)

-- ---- names
letter-not : (x : ℕ) → (x < 65) ⊎ (65 + 26 ≤ x) → (x < 97) ⊎ (97 + 26 ≤ x) → is_letter x ≡ false
letter-not x (inl h) (inl k) = grind (arith, nat_tests)
letter-not x (inl h) (inr k) = grind (arith, nat_tests)
letter-not x (inr h) (inl k) = grind (arith, nat_tests)
letter-not x (inr h) (inr k) = grind (arith, nat_tests)

letters-out : (rest : List ℕ) → IsOut 26 65 rest × IsOut 26 97 rest → NotIn Letter rest
letters-out [] h = tt
letters-out (x ∷ xs) h = letter-not x h.0 h.1

letter-in : (x : ℕ) → IsTrue (is_name_letter x) → IsTrue (is_letter x)
letter-in x h = grind (arith, nat_tests)

letters-in : (text : List ℕ) → IsTrue (all_letters text) → AllIn Letter text
letters-in [] h = tt
letters-in (x ∷ xs) h = let both = both_tests (is_name_letter x) (all_letters xs) h in (letter-in x both.0, letters-in xs both.1)

pub cuts-name : (after : Bool) (name : Name) (bytes : List ℕ) → CutsAt after (item.Name name) bytes (run_length Letter bytes)
cuts-name after name bytes = cuts Letter after (item.Name name) bytes
    (λ k front h. let letters = variant-letters name k front h.1 in (letters-in front letters.0, letters.1)) (λ rest h. letters-out rest h)

-- ---- literals
space-not : (x : ℕ) → (x < 9) ⊎ (9 + 5 ≤ x) → (x < 32) ⊎ (32 + 1 ≤ x) → is_space x ≡ false
space-not x (inl h) (inl k) = grind (arith, nat_tests)
space-not x (inl h) (inr k) = grind (arith, nat_tests)
space-not x (inr h) (inl k) = grind (arith, nat_tests)
space-not x (inr h) (inr k) = grind (arith, nat_tests)

spaces-out : (space : Bool) (rest : List ℕ) → space ≡ true → IsWhiteEnded space rest → NotIn Space rest
spaces-out true [] e h = tt
spaces-out true (x ∷ xs) e h = space-not x h.0 h.1
spaces-out false rest e h = absurd (false≢true e)

spaces-in : (text : List ℕ) → IsTrue (all_spaces text) → AllIn Space text
spaces-in [] h = tt
spaces-in (x ∷ xs) h = let both = both_tests (is_space x) (all_spaces xs) h in (both.0, spaces-in xs both.1)

space-in : (space : Bool) (b : ℕ) (text : List ℕ) → space ≡ true → IsLiteralVariant space false b text → AllIn Space text × (1 ≤ length text)
space-in true b text e h = (spaces-in text h.all, h.some)
space-in false b text e h = absurd (false≢true e)

pub cuts-space : (b : ℕ) (bytes : List ℕ) → is_space b ≡ true → CutsAt false (item.Literal b) bytes (run_length Space bytes)
cuts-space b bytes e = cuts Space false (item.Literal b) bytes (λ k front h. space-in (is_space b) b front e h.1) (λ rest h. spaces-out (is_space b) rest e h)

byte-in : (space after : Bool) (b : ℕ) (text : List ℕ) → space ≡ false → IsLiteralVariant space after b text → text ≡ b ∷ []
byte-in false after b text e h = h
byte-in true after b text e h = absurd (false≢true (sym e))

pub cuts-byte : (after : Bool) (b : ℕ) (bytes : List ℕ) → is_space b ≡ false → begins_with b bytes ≡ true → CutsAt after (item.Literal b) bytes 1
cuts-byte after b bytes e begins k n front rest more is ended some fits same = (lit< tt, inr (ap length (byte-in (is_space b) after b front e is.1)))

first-byte : (b : ℕ) (bytes more rest : List ℕ) (n : ℕ) → 0 < n → n ≤ length bytes → take n bytes ++ more ≡ b ∷ rest → IsTrue (begins_with b bytes)
first-byte b bytes more rest zero some fits e = absurd (omega (arith, some))
first-byte b [] more rest (suc n) some fits e = absurd (omega (arith, fits))
first-byte b (x ∷ xs) more rest (suc n) some fits e = let same : x ≡ b = ap first_of e in grind (arith, nat_tests)

pub cuts-none : (after : Bool) (b : ℕ) (bytes : List ℕ) → is_space b ≡ false → begins_with b bytes ≡ false → CutsAt after (item.Literal b) bytes 0
cuts-none after b bytes e other k n front rest more is ended some fits same =
    absurd (false≢true (sym other ∙ first-byte b bytes more rest n some fits (same ∙ ap (λ l. l ++ rest) (byte-in (is_space b) after b front e is.1))))

-- ---- the items one after the other
cut-rest : (front rest bytes more : List ℕ) (n : ℕ) → length front ≤ n → n ≤ length bytes → take n bytes ++ more ≡ front ++ rest
    → take (n - length front) (drop (length front) bytes) ++ more ≡ rest
cut-rest [] rest bytes more n low fits e = let same : n - 0 ≡ n = omega arith in ap (λ m. take m bytes ++ more) same ∙ e
cut-rest (y ∷ ys) rest bytes more zero low fits e = absurd (omega (arith, low))
cut-rest (y ∷ ys) rest [] more (suc n) low fits e = absurd (omega (arith, fits))
cut-rest (y ∷ ys) rest (x ∷ xs) more (suc n) low fits e =
    let same : suc n - suc (length ys) ≡ n - length ys = omega arith in
    ap (λ m. take m (drop (length ys) xs) ++ more) same ∙ cut-rest ys rest xs more n (omega (arith, low)) (omega (arith, fits)) (ap others_of e)

-- What bounds the fronts of the variants of items.
abbrev pub Bounds : Bool → List Item → List ℕ → ℕ → Type 0
Bounds after items bytes most =
    (numbers : List ℕ) (n : ℕ) (more : List ℕ) → n ≤ length bytes → HasVariants after items numbers (take n bytes ++ more) → n ≤ most

pub none-bound : (after : Bool) (bytes : List ℕ) → Bounds after [] bytes 0
none-bound after bytes [] zero more fits h = lit≤ tt
none-bound after [] [] (suc n) more fits h = fits
none-bound after (x ∷ xs) [] (suc n) more fits h = absurd (omega (arith, ap length h))
none-bound after bytes (k ∷ numbers) n more fits h = absurd h

pub zero-bound : (after : Bool) (i : Item) (items : List Item) (bytes : List ℕ) → IsTrue (are_leniently_apart (i ∷ items)) → CutsAt after i bytes 0 → Bounds after (i ∷ items) bytes 0
zero-bound after i items bytes apart cut [] n more fits h = absurd h
zero-bound after i items bytes apart cut (k ∷ numbers) zero more fits h = lit≤ tt
zero-bound after i items bytes apart cut (k ∷ numbers) (suc n) more fits h =
    let ended = items-ended i items numbers h.rest (both_tests (ends_leniently i items) (are_leniently_apart items) apart).0 h.next in
    absurd (omega (arith, (cut k (suc n) h.front h.rest more h.first ended (omega arith) fits h.text_is).0))

pub more-bound : (after : Bool) (i : Item) (items : List Item) (bytes : List ℕ) (count bound : ℕ) → IsTrue (are_leniently_apart (i ∷ items)) → CutsAt after i bytes count
    → Bounds (is_white i) items (drop count bytes) bound → Bounds after (i ∷ items) bytes (count + bound)
more-bound after i items bytes count bound apart cut others [] n more fits h = absurd h
more-bound after i items bytes count bound apart cut others (k ∷ numbers) n more fits h = elim (cases_lt count n) [
  | inr few ↦ omega (arith, few)
  | inl past ↦ (
      let ended = items-ended i items numbers h.rest (both_tests (ends_leniently i items) (are_leniently_apart items) apart).0 h.next in
      elim (cut k n h.front h.rest more h.first ended (omega (arith, past)) fits h.text_is).1 as (λ _. n ≤ count + bound) [
        | inl few ↦ omega (arith, few)
        | inr same ↦ (
            let rest = cut-rest h.front h.rest bytes more n (omega (arith, past, same)) fits h.text_is in
            let rest : take (n - count) (drop count bytes) ++ more ≡ h.rest = subst (λ c. take (n - c) (drop c bytes) ++ more ≡ h.rest) same rest in
            let few = others numbers (n - count) more (omega (arith, fits, length-drop count bytes)) (subst (HasVariants (is_white i) items numbers) (sym rest) h.next) in
            omega (arith, few, past))
      ])
]

-- A list is its first item and the others, and all bytes past an index are those up to the end.
abbrev pub others : List Item → List Item
others items = take (length items - 1) (drop 1 items)

pub whole : (items : List Item) (d : Item) → 1 ≤ length items → items ≡ get_or items 0 d ∷ others items
whole [] d some = absurd (omega (arith, some))
whole (i ∷ items) d some = ap (λ l. i ∷ l) (sym (take_all (length (i ∷ items) - 1) items (omega arith)))

pub rest-whole : (bytes : List ℕ) (count : ℕ) → take (length bytes - count) (drop count bytes) ≡ drop count bytes
rest-whole bytes count = take_all (length bytes - count) (drop count bytes) (omega (arith, length-drop count bytes))
