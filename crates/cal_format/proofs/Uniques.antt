-- A text has one list of numbers.
use Rattle.std.proofs.Common.{◌≡◌, ℕ, zero, suc, ◌+◌, ◌-◌, ◌*◌, ◌%◌, ◌<◌, ◌≤◌, ◌^◌, List, [], ◌∷◌, ◌++◌, length, drop, get_or, refl, sym, ap, ◌∙◌, arith, length-append, inl, inr}
use Rattle.std.specs.Prelude.{IsTrue, fold}
use Rattle.std.proofs.lemmas.Bool.{cases_lt}
use Rattle.cal_text.specs.Shape.{End, unmatched_bytes}
use Rattle.cal_text.proofs.Stops.{unmatched_bytes-done, unmatched_bytes-more}
use Rattle.cal_time.specs.declared.Month.{Month}
use Rattle.cal_time.specs.declared.Month.TheVariants.{January}
use Rattle.cal_time.specs.declared.Weekday.{Weekday}
use Rattle.cal_time.specs.declared.Weekday.TheVariants.{Monday}
use Rattle.cal_time.specs.Month as month
use Rattle.cal_time.specs.Month.{month_of_index}
use Rattle.cal_time.specs.MonthCycle.{index-month_of_index}
use Rattle.cal_time.specs.Weekday as weekday
use Rattle.cal_time.specs.Weekday.{weekday_of_index}
use Rattle.cal_time.specs.WeekdayCycle.{index-weekday_of_index}
use Rattle.cal_format.specs.declared.form_names.TheConstants.{MONTHS}
use Rattle.cal_format.specs.declared.item.Item.{Item}
use Rattle.cal_format.specs.declared.item.Item.TheVariants as item
use Rattle.cal_format.specs.declared.item.Name.{Name}
use Rattle.cal_format.specs.declared.item.Name.TheVariants as name
use Rattle.cal_format.specs.declared.item.Padding.{Padding}
use Rattle.cal_format.specs.declared.item.Component.{Component}
use Rattle.cal_format.specs.Form.{ItemShape, numbered_name, numbered_item, numbered_text, IsNameNumber, IsNumber, AreNumbers, HasNumbers}
use Rattle.cal_format.specs.Moment.{width, width_of}
use Rattle.cal_format.specs.Names.{short_month, short_weekday}
use Rattle.cal_format.specs.Reading.{ends_before, are_apart}
use Rattle.cal_format.specs.Text.{padded, fraction_text}
use Rattle.cal_format.proofs.Apart.{both_tests, numbers-ended}
use Rattle.cal_format.proofs.Digits.{step, value-padded, fits-most, small-digits}
use Rattle.cal_format.proofs.Ends.{IsEnded}
use Rattle.cal_format.proofs.Fractions.{fraction_number, value-some, fraction-none, fraction-some}
use Rattle.cal_format.proofs.Shapes.{item-each}

-- ---- an item ends at one place, since its shape does
pub same-length : (r s : List ℕ) → unmatched_bytes End r ≡ unmatched_bytes End s → length r ≡ length s
same-length [] [] e = refl
same-length [] (y ∷ ys) e = absurd (omega (arith, e, unmatched_bytes-done, unmatched_bytes-more y ys))
same-length (x ∷ xs) [] e = absurd (omega (arith, e, unmatched_bytes-done, unmatched_bytes-more x xs))
same-length (x ∷ xs) (y ∷ ys) e = omega (arith, e, unmatched_bytes-more x xs, unmatched_bytes-more y ys)

pub exact-split : (ds es r s : List ℕ) → length ds ≡ length es → ds ++ r ≡ es ++ s → (ds ≡ es) × (r ≡ s)
exact-split [] [] r s long e = (refl, e)
exact-split [] (y ∷ ys) r s long e = absurd (omega (arith, long))
exact-split (x ∷ xs) [] r s long e = absurd (omega (arith, long))
exact-split (x ∷ xs) (y ∷ ys) r s long e =
    let first : x ≡ y = cc in
    let next : xs ++ r ≡ ys ++ s = cc in
    let found = exact-split xs ys r s (omega (arith, long)) next in
    (λ i. first i ∷ found.0 i, found.1)

item-split : (i : Item) (n m : ℕ) (r s : List ℕ) → IsNumber i n → IsNumber i m → IsEnded i r → IsEnded i s → numbered_item i n ++ r ≡ numbered_item i m ++ s
    → (numbered_item i n ≡ numbered_item i m) × (r ≡ s)
item-split i n m r s h k p q e =
    let same = same-length r s (sym (item-each i n End r h p) ∙ ap (unmatched_bytes (ItemShape i End)) e ∙ item-each i m End s k q) in
    exact-split (numbered_item i n) (numbered_item i m) r s (omega (arith, same, ap length e, length-append (numbered_item i n) r, length-append (numbered_item i m) s)) e

-- ---- names, by their second and third letters
abbrev pub month_by : List ℕ → ℕ
month_by l = get_or MONTHS ((get_or l 1 0 + get_or l 2 0) % 32) 0

month-by : (m : Month) → month_by (month.name m) ≡ month.number m
month-by January = refl
month-by _ = refl

short_month-by : (m : Month) → month_by (short_month m) ≡ month.number m
short_month-by January = refl
short_month-by _ = refl

abbrev pub weekday_by : List ℕ → ℕ
weekday_by l = get_or (1 ∷ 0 ∷ 2 ∷ 0 ∷ 3 ∷ 5 ∷ 0 ∷ 0 ∷ 4 ∷ 6 ∷ []) ((get_or l 1 0 * 6 + get_or l 2 0) % 11) 0

weekday-by : (w : Weekday) → weekday_by (weekday.name w) ≡ weekday.index w
weekday-by Monday = refl
weekday-by _ = refl

short_weekday-by : (w : Weekday) → weekday_by (short_weekday w) ≡ weekday.index w
short_weekday-by Monday = refl
short_weekday-by _ = refl

month-of : (f : Month → List ℕ) (n m : ℕ) → ((o : Month) → month_by (f o) ≡ month.number o) → (1 ≤ n) × (n ≤ 12) → (1 ≤ m) × (m ≤ 12) → f (month_of_index (n - 1)) ≡ f (month_of_index (m - 1)) → n ≡ m
month-of f n m by h k e =
    let p = index-month_of_index (n - 1) (omega (arith, h)) in
    let q = index-month_of_index (m - 1) (omega (arith, k)) in
    let same = sym (by (month_of_index (n - 1))) ∙ ap month_by e ∙ by (month_of_index (m - 1)) in
    omega (arith, p, q, same, h, k)

weekday-of : (f : Weekday → List ℕ) (n m : ℕ) → ((w : Weekday) → weekday_by (f w) ≡ weekday.index w) → (1 ≤ n) × (n ≤ 7) → (1 ≤ m) × (m ≤ 7) → f (weekday_of_index (n - 1)) ≡ f (weekday_of_index (m - 1)) → n ≡ m
weekday-of f n m by h k e =
    let p = index-weekday_of_index (n - 1) (omega (arith, h)) in
    let q = index-weekday_of_index (m - 1) (omega (arith, k)) in
    let same = sym (by (weekday_of_index (n - 1))) ∙ ap weekday_by e ∙ by (weekday_of_index (m - 1)) in
    omega (arith, p, q, same, h, k)

-- ---- two texts for 0 and 1
one-of-two : (f : ℕ → List ℕ) (n m : ℕ) → n < 2 → m < 2 → get_or (f 0) 0 0 < get_or (f 1) 0 0 → f n ≡ f m → n ≡ m
one-of-two f zero zero h k less e = refl
one-of-two f zero (suc zero) h k less e = absurd (omega (arith, less, ap (λ l. get_or l 0 0) e))
one-of-two f zero (suc (suc m)) h k less e = absurd (omega (arith, k))
one-of-two f (suc zero) zero h k less e = absurd (omega (arith, less, ap (λ l. get_or l 0 0) e))
one-of-two f (suc zero) (suc zero) h k less e = refl
one-of-two f (suc zero) (suc (suc m)) h k less e = absurd (omega (arith, k))
one-of-two f (suc (suc n)) m h k less e = absurd (omega (arith, h))

-- ---- items
name-number : (k : Name) (n m : ℕ) → IsNameNumber k n → IsNameNumber k m → numbered_name k n ≡ numbered_name k m → n ≡ m
name-number name.Month n m h k e = month-of month.name n m month-by h k e
name-number name.MonthAlone n m h k e = month-of month.name n m month-by h k e
name-number name.ShortMonth n m h k e = month-of short_month n m short_month-by h k e
name-number name.Weekday n m h k e = weekday-of weekday.name n m weekday-by h k e
name-number name.ShortWeekday n m h k e = weekday-of short_weekday n m short_weekday-by h k e
name-number name.Period n m h k e = one-of-two (numbered_name name.Period) n m h k (omega arith) e
name-number name.LowerPeriod n m h k e = one-of-two (numbered_name name.LowerPeriod) n m h k (omega arith) e

value-item : (c : Component) (p : Padding) (n : ℕ) → n < 10 ^ width_of p c → fold step 0 (padded p (width c) n) ≡ n
value-item c p n h = value-padded p (width c) n (omega (arith, fits-most p c n h, small-digits c))

fraction-value : (n : ℕ) → n < 1_000_000_000 → fraction_number (drop 1 (fraction_text n)) ≡ n
fraction-value n low = elim (cases_lt 0 n) as (λ _. fraction_number (drop 1 (fraction_text n)) ≡ n) [
  | inl some ↦ ap (λ l. fraction_number (drop 1 l)) (fraction-some n some) ∙ value-some n low
  | inr none ↦ (let z : n ≡ 0 = omega arith in ap (λ l. fraction_number (drop 1 l)) (fraction-none n z) ∙ sym z)
]

pub item-number : (i : Item) (n m : ℕ) → IsNumber i n → IsNumber i m → numbered_item i n ≡ numbered_item i m → n ≡ m
item-number (item.Literal b) n m h k e = h ∙ sym k
item-number (item.Number c p) n m h k e = sym (value-item c p n h) ∙ ap (fold step 0) e ∙ value-item c p m k
item-number (item.Signed c p) n m h k e = sym (value-item c p n h) ∙ ap (λ l. fold step 0 (drop 1 l)) e ∙ value-item c p m k
item-number (item.Name t) n m h k e = name-number t n m h k e
item-number item.Fraction n m h k e = sym (fraction-value n h) ∙ ap (λ l. fraction_number (drop 1 l)) e ∙ fraction-value m k
item-number item.Decimals n m h k e = sym (value-some n h) ∙ ap fraction_number e ∙ value-some m k
item-number item.OffsetSign n m h k e = one-of-two (numbered_item item.OffsetSign) n m h k (omega arith) e
item-number item.OffsetMinus n m h k e = one-of-two (numbered_item item.OffsetMinus) n m h k (omega arith) e
item-number item.TimestampSign n m h k e = one-of-two (numbered_item item.TimestampSign) n m h k (omega arith) e
item-number item.TimestampMinus n m h k e = one-of-two (numbered_item item.TimestampMinus) n m h k (omega arith) e
item-number item.Abbreviation n m h k e = h ∙ sym k

items-one : (items : List Item) (ns ms : List ℕ) → IsTrue (are_apart items) → AreNumbers items ns → AreNumbers items ms → numbered_text items ns ≡ numbered_text items ms → ns ≡ ms
items-one [] [] [] apart h k e = refl
items-one [] (n ∷ ns) ms apart h k e = absurd h
items-one [] [] (m ∷ ms) apart h k e = absurd k
items-one (i ∷ items) [] ms apart h k e = absurd h
items-one (i ∷ items) (n ∷ ns) [] apart h k e = absurd k
items-one (i ∷ items) (n ∷ ns) (m ∷ ms) apart h k e =
    let both = both_tests (ends_before i items) (are_apart items) apart in
    let found = item-split i n m (numbered_text items ns) (numbered_text items ms) h.0 k.0 (numbers-ended i items ns both.0 h.1) (numbers-ended i items ms both.0 k.1) e in
    let first = item-number i n m h.0 k.0 found.0 in
    let rest = items-one items ns ms both.1 h.1 k.1 found.1 in
    λ j. first j ∷ rest j

pub one-numbers : (items : List Item) (ns ms text : List ℕ) → IsTrue (are_apart items) → HasNumbers items ns text → HasNumbers items ms text → ns ≡ ms
one-numbers items ns ms text apart h k = items-one items ns ms apart h.fit k.fit (sym h.text_is ∙ k.text_is)
