-- What follows an item, and what an item shows.
use Rattle.std.proofs.Common.{◌≡◌, ◌≢◌, ◌⊎◌, ℕ, zero, suc, ◌-◌, ◌<◌, ◌^◌, List, [], ◌∷◌, ◌++◌, length, take, drop, replicate, get_or, refl, sym, ◌∙◌, arith, rules, inl, inr, lit<}
use Rattle.std.specs.Prelude.{Bool, true, false, ◌||◌, ◌&&◌, not, nat_lt, IsTrue, ◌==◌, if◌then◌else◌, codes, decimal}
use Rattle.std.proofs.lemmas.Fmt.{decimal_nonempty}
use borrow.Author.Tests.{ltb-true, eqb-true, eq-eqb}
use denote.Enum.Bare.{tag_one}
use denote.Enum.Declared.{tag_of}
use Rattle.cal_format.specs.contracts.item.Component.{the_type}
use Rattle.cal_format.specs.declared.item.Item.{Item}
use Rattle.cal_format.specs.declared.item.Item.TheVariants as item
use Rattle.cal_format.specs.declared.item.Padding.{Padding}
use Rattle.cal_format.specs.declared.item.Padding.TheVariants as padding
use Rattle.cal_format.specs.declared.item.Component.{Component}
use Rattle.cal_format.specs.declared.item.Component.TheVariants.{Year}
use Rattle.cal_format.specs.Form.{numbered_item, numbered_text, AreNumbers}
use Rattle.cal_time.specs.Digits.{decimals}
use Rattle.cal_format.specs.Moment.{width}
use Rattle.cal_format.specs.Text.{padded}
use Rattle.cal_format.specs.Reading.{index, is_apart, is_fraction, begins_apart, is_past_point, begins_past_point, begins_with_number, ends_before}
use Rattle.cal_format.proofs.Digits.{AreDigits-decimal, fits-most, small-digits}
use Rattle.cal_format.proofs.Ends.{AreDigits, BeginsApart, BeginsPastPoint, BeginsPastMinus, IsEnded}
use Rattle.cal_format.proofs.EnglishNames.{name-apart, name-past}

-- ---- tests
pub either_test : (a b : Bool) → IsTrue (a || b) → IsTrue a ⊎ IsTrue b
either_test true b h = inl h
either_test false b h = inr h

pub both_tests : (a b : Bool) → IsTrue (a && b) → IsTrue a × IsTrue b
both_tests true b h = (refl, h)
both_tests false b h = cc

pub not_test : (a : Bool) → IsTrue (not a) → IsTrue a → ⊥
not_test true h t = cc
not_test false h t = cc

pub same_test : (a b : ℕ) → IsTrue (a == b) → a ≡ b
same_test a b h = eqb-true a b h

pub other_test : (a b : ℕ) → IsTrue (not (a == b)) → a ≢ b
other_test a b h same = not_test (a == b) h (eq-eqb a b same)

-- ---- what comes after an item can't continue it
byte-apart : (b : ℕ) (rest : List ℕ) → IsTrue (nat_lt b 48 || nat_lt 57 b) → BeginsApart (b ∷ rest)
byte-apart b rest h = elim (either_test (nat_lt b 48) (nat_lt 57 b) h) [
  | inl low ↦ inl (omega (arith, ltb-true b 48 low))
  | inr high ↦ inr (omega (arith, ltb-true 57 b high))
]

sign-apart : (b : Bool) (rest : List ℕ) → BeginsApart ((if b then codes "-" else codes "+") ++ rest)
sign-apart true rest = inl (lit< tt)
sign-apart false rest = inl (lit< tt)

sign-past : (b : Bool) (rest : List ℕ) → BeginsPastPoint ((if b then codes "-" else codes "+") ++ rest)
sign-past true rest = λ e. absurd (omega arith)
sign-past false rest = λ e. absurd (omega arith)

item-apart : (i : Item) (n : ℕ) (rest : List ℕ) → IsTrue (is_apart i) → BeginsApart (numbered_item i n ++ rest)
item-apart (item.Literal b) n rest h = byte-apart b rest h
item-apart (item.Name k) n rest h = name-apart k n rest
item-apart (item.Signed c p) n rest h = inl (lit< tt)
item-apart item.OffsetSign n rest h = sign-apart (n == 1) rest
item-apart item.TimestampSign n rest h = sign-apart (n == 1) rest
item-apart _ n rest h = cc

item-past : (i : Item) (n : ℕ) (rest : List ℕ) → IsTrue (is_apart i) → IsTrue (is_past_point i) → BeginsPastPoint (numbered_item i n ++ rest)
item-past (item.Literal b) n rest h p = other_test b 46 p
item-past (item.Name k) n rest h p = name-past k n rest
item-past (item.Signed c q) n rest h p = λ e. absurd (omega arith)
item-past item.OffsetSign n rest h p = sign-past (n == 1) rest
item-past item.TimestampSign n rest h p = sign-past (n == 1) rest
item-past _ n rest h p = cc

-- A fraction begins with a point, or is empty.
point-apart : (empty : Bool) (digits rest : List ℕ) → BeginsApart rest → BeginsApart ((if empty then [] else 46 ∷ digits) ++ rest)
point-apart true digits rest h = h
point-apart false digits rest h = inl (lit< tt)

fraction-apart : (i : Item) (n : ℕ) (rest : List ℕ) → IsTrue (is_fraction i) → BeginsApart rest → BeginsApart (numbered_item i n ++ rest)
fraction-apart item.Fraction n rest f h = point-apart (n == 0) (decimals n) rest h
fraction-apart _ n rest f h = cc

text-apart : (items : List Item) (numbers : List ℕ) → IsTrue (begins_apart items) → AreNumbers items numbers → BeginsApart (numbered_text items numbers)
text-apart [] numbers h fit = tt
text-apart (i ∷ items) [] h fit = absurd fit
text-apart (i ∷ items) (n ∷ numbers) h fit = elim (either_test (is_apart i) (is_fraction i && begins_apart items) h) [
  | inl apart ↦ item-apart i n (numbered_text items numbers) apart
  | inr both ↦
      let parts = both_tests (is_fraction i) (begins_apart items) both in
      fraction-apart i n (numbered_text items numbers) parts.0 (text-apart items numbers parts.1 fit.1)
]

-- No fraction begins past a point.
first-apart : (i : Item) (items : List Item) → IsTrue (is_apart i || (is_fraction i && begins_apart items)) → IsTrue (is_past_point i) → IsTrue (is_apart i)
first-apart (item.Literal b) items h p = elim (either_test (nat_lt b 48 || nat_lt 57 b) false h) [
  | inl apart ↦ apart
  | inr none ↦ cc
]
first-apart item.Fraction items h p = cc
first-apart (item.Name k) items h p = refl
first-apart (item.Signed c q) items h p = refl
first-apart item.OffsetSign items h p = refl
first-apart item.TimestampSign items h p = refl
first-apart _ items h p = h

text-past : (items : List Item) (numbers : List ℕ) → IsTrue (begins_apart items) → IsTrue (begins_past_point items) → AreNumbers items numbers → BeginsPastPoint (numbered_text items numbers)
text-past [] numbers h p fit = tt
text-past (i ∷ items) [] h p fit = absurd fit
text-past (i ∷ items) (n ∷ numbers) h p fit = item-past i n (numbered_text items numbers) (first-apart i items h p) p

decimal-past : (ds rest : List ℕ) → 0 < length ds → AreDigits ds → BeginsPastMinus (ds ++ rest)
decimal-past [] rest some h = absurd (omega (arith, some))
decimal-past (x ∷ xs) rest some h = λ e. absurd (omega (arith, h.0, e))

filled-past : (k b : ℕ) (ds rest : List ℕ) → b ≢ 45 → 0 < length ds → AreDigits ds → BeginsPastMinus ((replicate k b ++ ds) ++ rest)
filled-past zero b ds rest other some h = decimal-past ds rest some h
filled-past (suc k) b ds rest other some h = other

padded-past : (p : Padding) (w n : ℕ) (rest : List ℕ) → n < 2 ^ 64 → BeginsPastMinus (padded p w n ++ rest)
padded-past padding.Zero w n rest small = filled-past (w - length (decimal n)) 48 (decimal n) rest (λ e. absurd (omega (arith, e))) (decimal_nonempty n small) (AreDigits-decimal n small)
padded-past padding.Space w n rest small = filled-past (w - length (decimal n)) 32 (decimal n) rest (λ e. absurd (omega (arith, e))) (decimal_nonempty n small) (AreDigits-decimal n small)
padded-past padding.None w n rest small = decimal-past (decimal n) rest (decimal_nonempty n small) (AreDigits-decimal n small)

text-number : (items : List Item) (numbers : List ℕ) → IsTrue (begins_with_number items) → AreNumbers items numbers → BeginsPastMinus (numbered_text items numbers)
text-number [] numbers h fit = cc
text-number (i ∷ items) [] h fit = absurd fit
text-number (item.Number c p ∷ items) (n ∷ numbers) h fit =
    padded-past p (width c) n (numbered_text items numbers) (omega (arith, fits-most p c n fit.0, small-digits c))
text-number (_ ∷ items) (n ∷ numbers) h fit = cc

pub numbers-ended : (i : Item) (items : List Item) (numbers : List ℕ) → IsTrue (ends_before i items) → AreNumbers items numbers → IsEnded i (numbered_text items numbers)
numbers-ended (item.Number c padding.None) items numbers h fit = text-apart items numbers h fit
numbers-ended (item.Signed c padding.None) items numbers h fit = text-apart items numbers h fit
numbers-ended item.Fraction items numbers h fit =
    let both = both_tests (begins_apart items) (begins_past_point items) h in
    (text-apart items numbers both.0 fit, text-past items numbers both.0 both.1 fit)
numbers-ended item.Decimals items numbers h fit = text-apart items numbers h fit
numbers-ended item.OffsetMinus items numbers h fit = text-number items numbers h fit
numbers-ended item.TimestampMinus items numbers h fit = text-number items numbers h fit
numbers-ended _ items numbers h fit = tt

-- ---- the first item of some, and the others
abbrev pub first_of : List Item → Item
first_of items = get_or items 0 (item.Literal 0)

abbrev pub others_of : List Item → List Item
others_of items = take (length items - 1) (drop 1 items)

-- ---- components
tag-index : (c : Component) → tag_of the_type c ≡ index c
tag-index Year = refl
tag-index _ = refl

pub index-one : (c d : Component) → index c ≡ index d → c ≡ d
index-one c d e = tag_one the_type (search rules) c d (tag-index c ∙ e ∙ sym (tag-index d))

-- A component that is shown.
pub agrees-shown : (b : Bool) (x n : ℕ) → IsTrue b → x ≡ (if b then n else 0) → x ≡ n
agrees-shown true x n h e = e
agrees-shown false x n h e = cc

-- A component that is shown, or 0.
pub agrees-whole : (b : Bool) (x n : ℕ) → IsTrue (b || (n == 0)) → x ≡ (if b then n else 0) → x ≡ n
agrees-whole true x n h e = e
agrees-whole false x n h e = e ∙ sym (same_test n 0 h)
