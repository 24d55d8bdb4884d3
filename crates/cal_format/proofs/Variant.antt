-- What the variants of items begin with, and where they end.
use Rattle.std.proofs.Common.{◌≡◌, ℕ, zero, suc, ◌+◌, ◌-◌, ◌<◌, ◌≤◌, ◌^◌, List, [], ◌∷◌, ◌++◌, length, take, replicate, get_or, refl, sym, ap, subst, ◌∙◌, arith, inl, inr, lit≤}
use Rattle.std.specs.Prelude.{Bool, true, false, IsTrue, ◌==◌, ◌||◌, ◌&&◌, not, nat_le, decimal, codes, if◌then◌else◌}
use Rattle.std.specs.Char.{digit_value}
use Rattle.std.specs.Str.Parse.{AllDigits}
use Rattle.std.proofs.lemmas.Bool.{cases_lt, and_from}
use Rattle.std.proofs.lemmas.Bool.Decides.{nat_tests}
use Rattle.std.proofs.lemmas.Fmt.{decimal_nonempty}
use Rattle.std.proofs.lemmas.Str.Parse.{digit_from_value}
use borrow.Author.Tests.{eq-eqb}
use Rattle.cal_time.specs.declared.Month.{Month}
use Rattle.cal_time.specs.declared.Month.TheVariants.{January}
use Rattle.cal_time.specs.declared.Weekday.{Weekday}
use Rattle.cal_time.specs.declared.Weekday.TheVariants.{Monday}
use Rattle.cal_time.specs.Month as month
use Rattle.cal_time.specs.Weekday as weekday
use Rattle.cal_time.specs.Digits.{decimals}
use Rattle.cal_format.specs.declared.item.Component.{Component}
use Rattle.cal_format.specs.declared.item.Item.{Item}
use Rattle.cal_format.specs.declared.item.Item.TheVariants as item
use Rattle.cal_format.specs.declared.item.Name.{Name}
use Rattle.cal_format.specs.declared.item.Name.TheVariants as name
use Rattle.cal_format.specs.declared.item.Padding.{Padding}
use Rattle.cal_format.specs.declared.item.Padding.TheVariants as padding
use Rattle.cal_format.specs.Description.{is_space}
use Rattle.cal_format.specs.Form.{numbered_name}
use Rattle.cal_format.specs.Lenient.{is_digit, item_begins, may_be_empty, can_begin, none_begins, number_ends, white_ends, ends_leniently, IsOut, IsNumberEnded, IsWhiteEnded, IsLenientlyEnded}
use Rattle.cal_format.specs.Moment.{width}
use Rattle.cal_format.specs.Text.{padded}
use Rattle.cal_format.specs.Variants.{lower, is_letter, same_letters, is_name, all_letters, all_spaces, is_white, pads_with_spaces, is_free, IsLiteralVariant, IsNumberText, IsVariant, HasVariants}
use Rattle.cal_format.proofs.Apart.{either_test, both_tests, not_test, same_test}
use Rattle.cal_format.proofs.Digits.{AreDigits-decimal, fits-most, small-digits}
use Rattle.cal_format.proofs.Ends.{AreDigits}
use Rattle.cal_format.proofs.Fractions.{AreDigits-decimals, decimals-present}
use Rattle.cal_format.proofs.OnePass.{first-or, second-or}

-- The text is empty, if it may be, or begins with a byte that passes the test.
abbrev pub Begins : (ℕ → Bool) → Bool → List ℕ → Type 0
Begins p empty [] = IsTrue empty
Begins p empty (x ∷ xs) = IsTrue (p x)

-- ---- letters
abbrev pub lowered : List ℕ → List ℕ
lowered [] = []
lowered (x ∷ xs) = lower x ∷ lowered xs

pub same-lower : (xs ys : List ℕ) → IsTrue (same_letters xs ys) → lowered xs ≡ lowered ys
unfolding same_letters
same-lower [] [] h = refl
same-lower [] (y ∷ ys) h = cc
same-lower (x ∷ xs) [] h = cc
same-lower (x ∷ xs) (y ∷ ys) h =
    let both = both_tests (lower x == lower y) (same_letters xs ys) h in
    let first = same_test (lower x) (lower y) both.0 in
    let rest = same-lower xs ys both.1 in
    λ i. first i ∷ rest i

abbrev between : ℕ → Bool
between y = nat_le 97 y && nat_le y 122

abbrev all-between : List ℕ → Bool
all-between [] = true
all-between (y ∷ ys) = between y && all-between ys

letters-lowered : (xs : List ℕ) → all_letters xs ≡ all-between (lowered xs)
letters-lowered [] = refl
letters-lowered (x ∷ xs) = ap (λ b. is_letter x && b) (letters-lowered xs)

same-all : (xs ys : List ℕ) → IsTrue (same_letters xs ys) → IsTrue (all_letters ys) → IsTrue (all_letters xs)
same-all xs ys h k = subst IsTrue (sym (letters-lowered xs ∙ ap all-between (same-lower xs ys h) ∙ sym (letters-lowered ys))) k

same-some : (xs ys : List ℕ) → IsTrue (same_letters xs ys) → 1 ≤ length ys → 1 ≤ length xs
unfolding same_letters
same-some [] [] h some = some
same-some [] (y ∷ ys) h some = cc
same-some (x ∷ xs) ys h some = omega arith

-- A name is letters.
record IsWord (text : List ℕ) : Type 0 where
  all : IsTrue (all_letters text)
  some : 1 ≤ length text
  front : IsTrue (all_letters (take 3 text))
  front_some : 1 ≤ length (take 3 text)

month-word : (m : Month) → IsWord (month.name m)
month-word January = record { all = refl; some = lit≤ tt; front = refl; front_some = lit≤ tt }
month-word _ = record { all = refl; some = lit≤ tt; front = refl; front_some = lit≤ tt }

short_month-word : (m : Month) → IsWord (take 3 (month.name m))
short_month-word January = record { all = refl; some = lit≤ tt; front = refl; front_some = lit≤ tt }
short_month-word _ = record { all = refl; some = lit≤ tt; front = refl; front_some = lit≤ tt }

weekday-word : (w : Weekday) → IsWord (weekday.name w)
weekday-word Monday = record { all = refl; some = lit≤ tt; front = refl; front_some = lit≤ tt }
weekday-word _ = record { all = refl; some = lit≤ tt; front = refl; front_some = lit≤ tt }

short_weekday-word : (w : Weekday) → IsWord (take 3 (weekday.name w))
short_weekday-word Monday = record { all = refl; some = lit≤ tt; front = refl; front_some = lit≤ tt }
short_weekday-word _ = record { all = refl; some = lit≤ tt; front = refl; front_some = lit≤ tt }

either-word : (b : Bool) (x y : List ℕ) → IsWord x → IsWord y → IsWord (if b then x else y)
either-word true x y h k = h
either-word false x y h k = k

name-word : (k : Name) (n : ℕ) → IsWord (numbered_name k n)
name-word name.Month n = month-word (month.month_of_index (n - 1))
name-word name.MonthAlone n = month-word (month.month_of_index (n - 1))
name-word name.ShortMonth n = short_month-word (month.month_of_index (n - 1))
name-word name.Weekday n = weekday-word (weekday.weekday_of_index (n - 1))
name-word name.ShortWeekday n = short_weekday-word (weekday.weekday_of_index (n - 1))
name-word name.Period n = either-word (n == 0) (codes "AM") (codes "PM") (record { all = refl; some = lit≤ tt; front = refl; front_some = lit≤ tt }) (record { all = refl; some = lit≤ tt; front = refl; front_some = lit≤ tt })
name-word name.LowerPeriod n = either-word (n == 0) (codes "am") (codes "pm") (record { all = refl; some = lit≤ tt; front = refl; front_some = lit≤ tt }) (record { all = refl; some = lit≤ tt; front = refl; front_some = lit≤ tt })

-- The variant of a name is letters, and not empty.
pub variant-letters : (k : Name) (n : ℕ) (text : List ℕ) → IsTrue (is_name (numbered_name k n) text) → IsTrue (all_letters text) × (1 ≤ length text)
variant-letters k n text h = elim (either_test (same_letters text (numbered_name k n)) (same_letters text (take 3 (numbered_name k n))) h) [
  | inl whole ↦ (same-all text (numbered_name k n) whole (name-word k n).all, same-some text (numbered_name k n) whole (name-word k n).some)
  | inr front ↦ (same-all text (take 3 (numbered_name k n)) front (name-word k n).front, same-some text (take 3 (numbered_name k n)) front (name-word k n).front_some)
]

name-begins : (empty : Bool) (text : List ℕ) → IsTrue (all_letters text) × (1 ≤ length text) → Begins is_letter empty text
name-begins empty [] h = absurd (omega (arith, h.1))
name-begins empty (x ∷ xs) h = (both_tests (is_letter x) (all_letters xs) h.0).0

-- ---- digits
digit-in : (x : ℕ) → 48 ≤ x → x ≤ 57 → IsTrue (is_digit x)
digit-in x low high = grind (arith, nat_tests)

pub digit-value-in : (x : ℕ) → digit_value x < 10 → IsTrue (is_digit x)
digit-value-in x h = let range = digit_from_value x h in digit-in x range.0 range.1

-- A number begins with a digit, or with a space if it may.
abbrev digit-or : Bool → ℕ → Bool
digit-or s x = is_digit x || ((x == 32) && s)

digits-begin : (s : Bool) (ds : List ℕ) → AreDigits ds → 1 ≤ length ds → Begins (digit-or s) false ds
digits-begin s [] h some = absurd (omega (arith, some))
digits-begin s (x ∷ xs) h some = first-or (is_digit x) ((x == 32) && s) (digit-in x h.0 h.1)

values-begin : (s : Bool) (ds : List ℕ) → AllDigits 10 ds → 1 ≤ length ds → Begins (digit-or s) false ds
values-begin s [] h some = absurd (omega (arith, some))
values-begin s (x ∷ xs) h some = first-or (is_digit x) ((x == 32) && s) (digit-value-in x h.0)

zeros-begin : (k : ℕ) (s : Bool) (ds : List ℕ) → AreDigits ds → 1 ≤ length ds → Begins (digit-or s) false (replicate k 48 ++ ds)
zeros-begin zero s ds h some = digits-begin s ds h some
zeros-begin (suc k) s ds h some = refl

spaces-begin : (k : ℕ) (ds : List ℕ) → AreDigits ds → 1 ≤ length ds → Begins (digit-or true) false (replicate k 32 ++ ds)
spaces-begin zero ds h some = digits-begin true ds h some
spaces-begin (suc k) ds h some = refl

fill-begins : (k : ℕ) (s : Bool) (ds : List ℕ) → (s ≡ false → k ≡ 0) → AllDigits 10 ds → 1 ≤ length ds → Begins (digit-or s) false (replicate k 32 ++ ds)
fill-begins zero s ds e h some = values-begin s ds h some
fill-begins (suc k) true ds e h some = refl
fill-begins (suc k) false ds e h some = absurd (omega (arith, e refl))

printed-begins : (p : Padding) (w n : ℕ) → n < 2 ^ 64 → Begins (digit-or (pads_with_spaces p)) false (padded p w n)
printed-begins padding.Zero w n small = zeros-begin (w - length (decimal n)) false (decimal n) (AreDigits-decimal n small) (decimal_nonempty n small)
printed-begins padding.Space w n small = spaces-begin (w - length (decimal n)) (decimal n) (AreDigits-decimal n small) (decimal_nonempty n small)
printed-begins padding.None w n small = digits-begin false (decimal n) (AreDigits-decimal n small) (decimal_nonempty n small)

not-false : (b : Bool) → (b && not false) ≡ b
not-false true = refl
not-false false = refl

number-begins : (free after : Bool) (c : Component) (p : Padding) (n : ℕ) (text : List ℕ) → IsNumberText free after c p n text → Begins (digit-or (pads_with_spaces p && not (free && after))) false text
number-begins true after c p n text h =
    subst (Begins (digit-or (pads_with_spaces p && not after)) false) (sym h.text_is) (fill-begins h.fill (pads_with_spaces p && not after) h.digits h.unfilled h.all h.some)
number-begins false after c p n text h =
    subst (λ s. Begins (digit-or s) false text) (sym (not-false (pads_with_spaces p)))
    (subst (Begins (digit-or (pads_with_spaces p)) false) (sym h.1) (printed-begins p (width c) n (omega (arith, fits-most p c n h.0, small-digits c))))

-- ---- items
literal-begins : (s after : Bool) (b : ℕ) (text : List ℕ) → IsLiteralVariant s after b text → Begins (λ x. if s then not after && is_space x else x == b) (s && after) text
literal-begins false after b [] h = cc
literal-begins false after b (x ∷ xs) h = eq-eqb x b (ap (λ l. get_or l 0 0) h)
literal-begins true true b [] h = refl
literal-begins true true b (x ∷ xs) h = cc
literal-begins true false b [] h = absurd (omega (arith, h.some))
literal-begins true false b (x ∷ xs) h = (both_tests (is_space x) (all_spaces xs) h.all).0

decimals-begin : (ds : List ℕ) → AreDigits ds → 1 ≤ length ds → Begins is_digit false ds
decimals-begin [] h some = absurd (omega (arith, some))
decimals-begin (x ∷ xs) h some = digit-in x h.0 h.1

fraction-begins : (b : Bool) (ds : List ℕ) → Begins (λ x. x == 46) true (if b then [] else 46 ∷ ds)
fraction-begins true ds = refl
fraction-begins false ds = refl

sign-begins : (b : Bool) → Begins (λ x. (x == 43) || (x == 45)) false (if b then codes "-" else codes "+")
sign-begins true = refl
sign-begins false = refl

minus-begins : (b : Bool) → Begins (λ x. x == 45) true (if b then codes "-" else [])
minus-begins true = refl
minus-begins false = refl

variant-begins : (after : Bool) (i : Item) (n : ℕ) (text : List ℕ) → IsVariant after i n text → Begins (item_begins after i) (may_be_empty after i) text
variant-begins after (item.Literal b) n text h = literal-begins (is_space b) after b text h.1
variant-begins after (item.Number c p) n text h = number-begins (is_free c) after c p n text h
variant-begins after (item.Name k) n text h = name-begins false text (variant-letters k n text h.1)
variant-begins after (item.Signed c p) n text h = subst (Begins (λ x. x == 43) false) (sym h.1) refl
variant-begins after item.Fraction n text h = subst (Begins (λ x. x == 46) true) (sym h.1) (fraction-begins (n == 0) (decimals n))
variant-begins after item.Decimals n text h = subst (Begins is_digit false) (sym h.1) (decimals-begin (decimals n) (AreDigits-decimals n h.0) (decimals-present n))
variant-begins after item.OffsetSign n text h = subst (Begins (λ x. (x == 43) || (x == 45)) false) (sym h.1) (sign-begins (n == 1))
variant-begins after item.TimestampSign n text h = subst (Begins (λ x. (x == 43) || (x == 45)) false) (sym h.1) (sign-begins (n == 1))
variant-begins after item.OffsetMinus n text h = subst (Begins (λ x. x == 45) true) (sym h.1) (minus-begins (n == 1))
variant-begins after item.TimestampMinus n text h = subst (Begins (λ x. x == 45) true) (sym h.1) (minus-begins (n == 1))
variant-begins after item.Abbreviation n text h = subst (Begins (λ x. false) true) (sym h.1) refl

split-begins : (p q r : ℕ → Bool) (empty : Bool) (front rest text : List ℕ) → ((x : ℕ) → IsTrue (p x) → IsTrue (r x)) → ((x : ℕ) → IsTrue empty → IsTrue (q x) → IsTrue (r x))
    → text ≡ front ++ rest → Begins p empty front → Begins q true rest → Begins r true text
split-begins p q r empty [] [] text f g e h k = subst (Begins r true) (sym e) refl
split-begins p q r empty [] (y ∷ ys) text f g e h k = subst (Begins r true) (sym e) (g y h k)
split-begins p q r empty (x ∷ xs) rest text f g e h k = subst (Begins r true) (sym e) (f x h)

text-begins : (after : Bool) (items : List Item) (ns text : List ℕ) → HasVariants after items ns text → Begins (can_begin after items) true text
text-begins after [] [] text h = subst (Begins (λ x. false) true) (sym h) refl
text-begins after [] (n ∷ ns) text h = absurd h
text-begins after (i ∷ items) [] text h = absurd h
text-begins after (i ∷ items) (n ∷ ns) text h =
    split-begins (item_begins after i) (can_begin (is_white i) items) (can_begin after (i ∷ items)) (may_be_empty after i) h.front h.rest text
    (λ x t. first-or (item_begins after i x) (may_be_empty after i && can_begin (is_white i) items x) t)
    (λ x e t. second-or (item_begins after i x) (may_be_empty after i && can_begin (is_white i) items x) (and_from (may_be_empty after i) (can_begin (is_white i) items x) e t))
    h.text_is (variant-begins after i n h.front h.first) (text-begins (is_white i) items ns h.rest h.next)

-- ---- what comes after an item doesn't go on with it
out-more : (k low x : ℕ) (xs : List ℕ) (p : ℕ → Bool) → IsTrue (not (p low)) → IsTrue (p x) → IsOut k (low + 1) (x ∷ xs) → IsOut (suc k) low (x ∷ xs)
out-more k low x xs p none here (inl under) = elim (cases_lt x low) [
  | inl less ↦ inl less
  | inr same ↦ (let e : x ≡ low = omega (arith, under, same) in absurd (not_test (p low) none (subst (λ y. IsTrue (p y)) e here)))
]
out-more k low x xs p none here (inr over) = inr (omega (arith, over))

none-out : (k low : ℕ) (after : Bool) (items : List Item) (text : List ℕ) → IsTrue (none_begins k low after items) → Begins (can_begin after items) true text → IsOut k low text
none-out k low after items [] h b = tt
none-out zero low after items (x ∷ xs) h b = elim (cases_lt x low) [
  | inl less ↦ inl less
  | inr most ↦ inr (omega (arith, most))
]
none-out (suc k) low after items (x ∷ xs) h b =
    let both = both_tests (not (can_begin after items low)) (none_begins k (low + 1) after items) h in
    out-more k low x xs (can_begin after items) both.0 b (none-out k (low + 1) after items (x ∷ xs) both.1 b)

two-out : (k low m high : ℕ) (after : Bool) (items : List Item) (text : List ℕ) → IsTrue (none_begins k low after items && none_begins m high after items) → Begins (can_begin after items) true text
    → IsOut k low text × IsOut m high text
two-out k low m high after items text h b =
    let both = both_tests (none_begins k low after items) (none_begins m high after items) h in
    (none-out k low after items text both.0 b, none-out m high after items text both.1 b)

number-ended : (free : Bool) (p : Padding) (items : List Item) (text : List ℕ) → IsTrue (number_ends free p items) → Begins (can_begin false items) true text → IsNumberEnded free p text
number-ended true p items text h b = none-out 10 48 false items text h b
number-ended false padding.None items text h b = none-out 10 48 false items text h b
number-ended false _ items text h b = tt

white-ended : (s : Bool) (items : List Item) (text : List ℕ) → IsTrue (white_ends s items) → Begins (can_begin s items) true text → IsWhiteEnded s text
white-ended true items text h b = two-out 5 9 1 32 true items text h b
white-ended false items text h b = tt

item-ended : (i : Item) (items : List Item) (text : List ℕ) → IsTrue (ends_leniently i items) → Begins (can_begin (is_white i) items) true text → IsLenientlyEnded i text
item-ended (item.Literal b) items text h k = white-ended (is_space b) items text h k
item-ended (item.Number c p) items text h k = number-ended (is_free c) p items text h k
item-ended (item.Signed c p) items text h k = number-ended false p items text h k
item-ended (item.Name n) items text h k = two-out 26 65 26 97 false items text h k
item-ended item.Fraction items text h k = two-out 10 48 1 46 false items text h k
item-ended item.Decimals items text h k = none-out 10 48 false items text h k
item-ended item.OffsetMinus items text h k = none-out 1 45 false items text h k
item-ended item.TimestampMinus items text h k = none-out 1 45 false items text h k
item-ended _ items text h k = tt

pub items-ended : (i : Item) (items : List Item) (ns text : List ℕ) → IsTrue (ends_leniently i items) → HasVariants (is_white i) items ns text → IsLenientlyEnded i text
items-ended i items ns text h k = item-ended i items text h (text-begins (is_white i) items ns text k)
