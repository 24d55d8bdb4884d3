-- A variant of items has at most 15 bytes for each item that aren't white space.
use Rattle.std.proofs.Common.{◌≡◌, ℕ, suc, ◌+◌, ◌*◌, ◌-◌, ◌<◌, ◌≤◌, ◌^◌, Bool, true, false, List, [], ◌∷◌, ◌++◌, length, length-append, take, replicate, refl, ap, ◌∙◌, arith, inl, inr, lit≤}
use Rattle.std.specs.Prelude.{IsTrue, ◌==◌, codes, decimal, if◌then◌else◌, ℤ}
use Rattle.std.proofs.lemmas.Fmt.{length-decimal-le}
use Rattle.std.proofs.lemmas.List.{length-replicate}
use Rattle.cal_time.specs.Laws.{length-decimals}
use Rattle.cal_time.specs.Month as month
use Rattle.cal_time.specs.Weekday as weekday
use Rattle.cal_time.specs.declared.Month.{Month}
use Rattle.cal_time.specs.declared.Month.TheVariants.{January}
use Rattle.cal_time.specs.declared.Weekday.{Weekday}
use Rattle.cal_time.specs.declared.Weekday.TheVariants.{Monday}
use Rattle.cal_format.specs.Description.{is_space}
use Rattle.cal_format.specs.Form.{numbered_name}
use Rattle.cal_format.specs.Moment.{width, width_of}
use Rattle.cal_format.specs.Text.{padded}
use Rattle.cal_format.specs.Variants.{all_spaces, is_free, is_name, is_white, same_letters, IsLiteralVariant, IsNumberText, IsVariant, HasVariants}
use Rattle.cal_format.specs.declared.item.Component.{Component}
use Rattle.cal_format.specs.declared.item.Item.{Item}
use Rattle.cal_format.specs.declared.item.Item.TheVariants as item
use Rattle.cal_format.specs.declared.item.Name.{Name}
use Rattle.cal_format.specs.declared.item.Name.TheVariants as name
use Rattle.cal_format.specs.declared.item.Padding.{Padding}
use Rattle.cal_format.specs.declared.item.Padding.TheVariants as padding
use Rattle.cal_format.proofs.Apart.{both_tests, either_test}
use Rattle.cal_format.proofs.Digits.{fits-most, small-digits, width-most}
use Rattle.cal_format.proofs.Fractions.{length-fraction}
use Rattle.cal_text.specs.declared.any.DateOrMoment.{DateOrMoment}
use Rattle.caldate_answers.specs.VariantFronts.{solid_bytes}
use Rattle.caldate_answers.specs.Variants.{IsVariantText, lenient_items}
use Rattle.caldate_answers.specs.declared.reading.lenient.LenientKind.{LenientKind}
use Rattle.caldate_answers.specs.declared.reading.lenient.LenientKind.TheVariants as lenient

-- ---- the bytes of a text that aren't white space
choose : (b : Bool) (n : ℕ) → (if b then n else suc n) ≤ suc n
choose true n = omega arith
choose false n = omega arith

solid-length : (bytes : List ℕ) → solid_bytes bytes ≤ length bytes
solid-length [] = lit≤ tt
solid-length (b ∷ bytes) = omega (arith, choose (is_space b) (solid_bytes bytes), solid-length bytes)

choose-add : (b : Bool) (m n : ℕ) → (if b then m + n else suc (m + n)) ≡ (if b then m else suc m) + n
choose-add true m n = refl
choose-add false m n = omega arith

solid-append : (xs ys : List ℕ) → solid_bytes (xs ++ ys) ≡ solid_bytes xs + solid_bytes ys
solid-append [] ys = omega arith
solid-append (x ∷ xs) ys =
    ap (λ n. if is_space x then n else suc n) (solid-append xs ys) ∙ choose-add (is_space x) (solid_bytes xs) (solid_bytes ys)

solid-spaces : (bytes : List ℕ) → IsTrue (all_spaces bytes) → solid_bytes bytes ≡ 0
solid-spaces [] h = refl
solid-spaces (b ∷ bytes) h =
    let both = both_tests (is_space b) (all_spaces bytes) h in
    ap (λ t. if t then solid_bytes bytes else suc (solid_bytes bytes)) both.0 ∙ solid-spaces bytes both.1

-- ---- names
same-length : (xs ys : List ℕ) → IsTrue (same_letters xs ys) → length xs ≡ length ys
unfolding same_letters
same-length [] [] h = refl
same-length [] (y ∷ ys) h = cc
same-length (x ∷ xs) [] h = cc
same-length (x ∷ xs) (y ∷ ys) h = ap suc (same-length xs ys (both_tests _ (same_letters xs ys) h).1)

-- A name and its first three letters are short.
abbrev IsShort : List ℕ → Type 0
IsShort bytes = (length bytes ≤ 15) × (length (take 3 bytes) ≤ 15)

month-short : (m : Month) → IsShort (month.name m)
month-short January = (lit≤ tt, lit≤ tt)
month-short _ = (lit≤ tt, lit≤ tt)

short_month-short : (m : Month) → IsShort (take 3 (month.name m))
short_month-short January = (lit≤ tt, lit≤ tt)
short_month-short _ = (lit≤ tt, lit≤ tt)

weekday-short : (w : Weekday) → IsShort (weekday.name w)
weekday-short Monday = (lit≤ tt, lit≤ tt)
weekday-short _ = (lit≤ tt, lit≤ tt)

short_weekday-short : (w : Weekday) → IsShort (take 3 (weekday.name w))
short_weekday-short Monday = (lit≤ tt, lit≤ tt)
short_weekday-short _ = (lit≤ tt, lit≤ tt)

either-short : (b : Bool) (x y : List ℕ) → IsShort x → IsShort y → IsShort (if b then x else y)
either-short true x y h k = h
either-short false x y h k = k

name-short : (k : Name) (n : ℕ) → IsShort (numbered_name k n)
name-short name.Month n = month-short (month.month_of_index (n - 1))
name-short name.MonthAlone n = month-short (month.month_of_index (n - 1))
name-short name.ShortMonth n = short_month-short (month.month_of_index (n - 1))
name-short name.Weekday n = weekday-short (weekday.weekday_of_index (n - 1))
name-short name.ShortWeekday n = short_weekday-short (weekday.weekday_of_index (n - 1))
name-short name.Period n = either-short (n == 0) (codes "AM") (codes "PM") (lit≤ tt, lit≤ tt) (lit≤ tt, lit≤ tt)
name-short name.LowerPeriod n = either-short (n == 0) (codes "am") (codes "pm") (lit≤ tt, lit≤ tt) (lit≤ tt, lit≤ tt)

name-text : (k : Name) (n : ℕ) (text : List ℕ) → IsTrue (is_name (numbered_name k n) text) → length text ≤ 15
name-text k n text h = elim (either_test (same_letters text (numbered_name k n)) (same_letters text (take 3 (numbered_name k n))) h) [
  | inl whole ↦ omega (arith, same-length text (numbered_name k n) whole, (name-short k n).0)
  | inr front ↦ omega (arith, same-length text (take 3 (numbered_name k n)) front, (name-short k n).1)
]

-- ---- numbers
padded-short : (p : Padding) (w n : ℕ) → w ≤ 9 → n < 100_000_000_000_000 → length (padded p w n) ≤ 14
padded-short padding.Zero w n few low = omega (arith, few, length-append (replicate (w - length (decimal n)) 48) (decimal n), length-replicate {A = ℕ} (w - length (decimal n)) 48, length-decimal-le 14 n (omega arith) low (omega arith))
padded-short padding.Space w n few low = omega (arith, few, length-append (replicate (w - length (decimal n)) 32) (decimal n), length-replicate {A = ℕ} (w - length (decimal n)) 32, length-decimal-le 14 n (omega arith) low (omega arith))
padded-short padding.None w n few low = length-decimal-le 14 n (omega arith) low (omega arith)

printed-short : (p : Padding) (c : Component) (n : ℕ) → n < 10 ^ width_of p c → length (padded p (width c) n) ≤ 14
printed-short p c n low = padded-short p (width c) n (width-most c) (omega (arith, fits-most p c n low, small-digits c))

number-text : (free after : Bool) (c : Component) (p : Padding) (n : ℕ) (text : List ℕ) → IsNumberText free after c p n text → length text ≤ 15
number-text true after c p n text h =
    omega (arith, ap length h.text_is, length-append (replicate h.fill 32) h.digits, length-replicate {A = ℕ} h.fill 32, h.fit, width-most c)
number-text false after c p n text h = omega (arith, ap length h.1, printed-short p c n h.0)

-- ---- items
literal-solid : (space after : Bool) (b : ℕ) (text : List ℕ) → IsLiteralVariant space after b text → solid_bytes text ≤ 15
literal-solid false after b text h = omega (arith, solid-length text, ap length h)
literal-solid true true b text h = omega (arith, solid-length text, ap length h)
literal-solid true false b text h = omega (arith, solid-spaces text h.all)

either-few : (b : Bool) (x y : List ℕ) → length x ≤ 1 → length y ≤ 1 → length (if b then x else y) ≤ 1
either-few true x y h k = h
either-few false x y h k = k

item-solid : (after : Bool) (i : Item) (n : ℕ) (text : List ℕ) → IsVariant after i n text → solid_bytes text ≤ 15
item-solid after (item.Literal b) n text h = literal-solid (is_space b) after b text h.1
item-solid after (item.Number c p) n text h = omega (arith, solid-length text, number-text (is_free c) after c p n text h)
item-solid after (item.Signed c p) n text h = omega (arith, solid-length text, ap length h.1, printed-short p c n h.0)
item-solid after (item.Name k) n text h = omega (arith, solid-length text, name-text k n text h.1)
item-solid after item.Fraction n text h = omega (arith, solid-length text, ap length h.1, length-fraction n)
item-solid after item.Decimals n text h = omega (arith, solid-length text, ap length h.1, length-decimals n)
item-solid after item.OffsetSign n text h = omega (arith, solid-length text, ap length h.1, either-few (n == 1) (codes "-") (codes "+") (lit≤ tt) (lit≤ tt))
item-solid after item.OffsetMinus n text h = omega (arith, solid-length text, ap length h.1, either-few (n == 1) (codes "-") [] (lit≤ tt) (lit≤ tt))
item-solid after item.TimestampSign n text h = omega (arith, solid-length text, ap length h.1, either-few (n == 1) (codes "-") (codes "+") (lit≤ tt) (lit≤ tt))
item-solid after item.TimestampMinus n text h = omega (arith, solid-length text, ap length h.1, either-few (n == 1) (codes "-") [] (lit≤ tt) (lit≤ tt))
item-solid after item.Abbreviation n text h = omega (arith, solid-length text, ap length h.1)

pub variants-solid : (after : Bool) (items : List Item) (numbers text : List ℕ) → HasVariants after items numbers text → solid_bytes text ≤ length items * 15
variants-solid after [] [] text h = omega (arith, solid-length text, ap length h)
variants-solid after [] (n ∷ numbers) text h = absurd h
variants-solid after (i ∷ items) [] text h = absurd h
variants-solid after (i ∷ items) (n ∷ numbers) text h =
    let whole : solid_bytes text ≡ solid_bytes h.front + solid_bytes h.rest = ap solid_bytes h.text_is ∙ solid-append h.front h.rest in
    omega (arith, whole, item-solid after i n h.front h.first, variants-solid (is_white i) items numbers h.rest h.next)

pub front-solid : (after : Bool) (items : List Item) (numbers front more : List ℕ) → HasVariants after items numbers (front ++ more) → solid_bytes front ≤ length items * 15
front-solid after items numbers front more h = omega (arith, solid-append front more, variants-solid after items numbers (front ++ more) h)

-- A string that a lenient format reads is a variant of its items.
pub variants_of : (offset : ℤ) (format : LenientKind) (text : List ℕ) (found : DateOrMoment) → IsVariantText offset format text found
    → (numbers : List ℕ) × HasVariants false (lenient_items format) numbers text
variants_of offset (lenient.Dates format) text found (n, date, read, is) = (_, read.variant)
variants_of offset (lenient.Moments format) text found (m, local, own, read, is) = (_, read.variant)
variants_of offset (lenient.DateTimes format) text found (z, local, read, is) = (_, read.variant)
