-- Numbers that no item contradicts are the numbers of a moment whose text they print.
use Rattle.std.proofs.Common.{◌≡◌, ℕ, zero, suc, ◌+◌, ◌-◌, ◌*◌, ◌/◌, ◌%◌, ◌≤◌, List, [], ◌∷◌, ◌++◌, refl, sym, ap, subst, ◌∙◌, arith, inl, inr}
use Rattle.std.specs.Prelude.{Bool, true, false, IsTrue, None, Some, ◌==◌, ◌&&◌, ◌||◌, not, nat_lt, if◌then◌else◌, ℤ, pos, negsuc, neg_ℤ, int_lt, unsigned_abs, codes}
use Rattle.std.proofs.lemmas.Bool.{and_from, cases_lt, or_parts}
use Rattle.std.proofs.lemmas.Bool.Decides.{nat_tests}
use borrow.Author.Tests.{eq-eqb, le-ltb}
use Rattle.cal_time.specs.Time.{hour_of, minute_of, second_of, nanosecond_of, time_of}
use Rattle.cal_time.specs.Digits.{decimals}
use Rattle.cal_time.specs.Date.{weekday_at}
use Rattle.cal_time.specs.Month.{month_of_index}
use Rattle.cal_time.specs.Weekday.{weekday_of_index}
use Rattle.cal_time.specs.Month as month
use Rattle.cal_time.specs.Weekday as weekday
use Rattle.cal_time.specs.UtcOffset.{sign as offset_sign}
use Rattle.cal_format.specs.declared.item.Item.{Item}
use Rattle.cal_format.specs.declared.item.Item.TheVariants as item
use Rattle.cal_format.specs.declared.item.Name.{Name}
use Rattle.cal_format.specs.declared.item.Name.TheVariants as name
use Rattle.cal_format.specs.declared.item.Component.{Component}
use Rattle.cal_format.specs.declared.item.Component.TheVariants.{Year, Subsecond1, Subsecond2, Millisecond, Subsecond4, Subsecond5, Microsecond, Subsecond7, Subsecond8, Hour, Hour12, Minute, Second, Period, Nanosecond, OffsetHour, OffsetMinute, OffsetSecond, OffsetSign, TimestampSign}
use Rattle.cal_format.specs.declared.moment.Moment.{Moment}
use Rattle.cal_format.specs.Form.{numbered_name, numbered_item, numbered_text, IsNumber, AreNumbers}
use Rattle.cal_format.specs.Moment.{timestamp_of, number, width}
use Rattle.cal_format.specs.Names.{name_text, short_month, short_weekday}
use Rattle.cal_format.specs.Ranges.{maximum}
use Rattle.cal_format.specs.Reading.{subseconds, unit_of, is_within, shows, name_component, any_shows, holds_parts_of_second, holds_subsecond, shows_time, shows_offset, shows_timestamp, holds_parts, holds_time, holds_offset}
use Rattle.cal_format.specs.Scanning.{IsHeld, AreHeld}
use Rattle.cal_format.specs.Text.{sign, or_plus, padded, fraction_text, item_text, text_of}
use Rattle.cal_format.specs.Values.{number_in, hour_in, nanoseconds_of, nanosecond_in, time_in, offset_in, IsMomentOf, is_empty, differing, contradiction, item_contradiction, first_contradiction}
use Rattle.cal_format.proofs.Apart.{both_tests, same_test}
use Rattle.cal_format.proofs.Rejections.{none-first}

-- ---- the text
same : (c : Component) (b : Bool) → differing c b ≡ None → IsTrue b
same c true e = refl
same c false e = cc

empty : (l : List ℕ) → IsTrue (is_empty l) → l ≡ []
empty [] h = refl
empty (x ∷ xs) h = cc

period : (am pm : List ℕ) (h n : ℕ) → h / 12 ≡ n → (if n == 0 then am else pm) ≡ (if nat_lt h 12 then am else pm)
period am pm h n e = elim (cases_lt h 12) as (λ _. (if n == 0 then am else pm) ≡ (if nat_lt h 12 then am else pm)) [
  | inl low ↦ (let none : n ≡ 0 = omega (arith, e, low) in grind (arith, nat_tests))
  | inr high ↦ (let some : 1 ≤ n = omega (arith, e, high) in grind (arith, nat_tests))
]

pub name-same : (k : Name) (n : ℕ) (v : Moment) → number (name_component k) v ≡ n → numbered_name k n ≡ name_text k v
name-same name.Month n v e = ap (λ j. month.name (month_of_index (j - 1))) (sym e)
name-same name.MonthAlone n v e = ap (λ j. month.name (month_of_index (j - 1))) (sym e)
name-same name.ShortMonth n v e = ap (λ j. short_month (month_of_index (j - 1))) (sym e)
name-same name.Weekday n v e = (let less : n - 1 ≡ weekday_at v.date = omega (arith, e) in ap (λ j. weekday.name (weekday_of_index j)) less)
name-same name.ShortWeekday n v e = (let less : n - 1 ≡ weekday_at v.date = omega (arith, e) in ap (λ j. short_weekday (weekday_of_index j)) less)
name-same name.Period n v e = period (codes "AM") (codes "PM") (hour_of v.time) n e
name-same name.LowerPeriod n v e = period (codes "am") (codes "pm") (hour_of v.time) n e

pub sign-same : (o : ℤ) (n : ℕ) → (if int_lt o (pos 0) then 1 else 0) ≡ n → (if n == 1 then codes "-" else codes "+") ≡ offset_sign o
sign-same (pos k) n e =
    let low : int_lt (pos k) (pos 0) ≡ false = le-ltb k 0 (omega arith) in
    let none : n ≡ 0 = sym e ∙ ap (λ b. if b then 1 else 0) low in
    ap (λ j. if j == 1 then codes "-" else codes "+") none
sign-same (negsuc k) n e = ap (λ j. if j == 1 then codes "-" else codes "+") (sym e)

pub minus-same : (t : ℤ) (n : ℕ) (other : List ℕ) → (if int_lt t (pos 0) then 1 else 0) ≡ n → (if n == 1 then codes "-" else other) ≡ (if int_lt t (pos 0) then codes "-" else other)
minus-same t n other e = ap (λ k. if k == 1 then codes "-" else other) (sym e) ∙ again (int_lt t (pos 0))
  where
    again : (b : Bool) → (if (if b then 1 else 0) == 1 then codes "-" else other) ≡ (if b then codes "-" else other)
    again true = refl
    again false = refl

same-number : (c : Component) (n : ℕ) (v : Moment) → contradiction (Some c) n v ≡ None → (number c v ≡ n) × (sign c v ≡ [])
same-number c n v e =
    let both = both_tests (number c v == n) (is_empty (sign c v)) (same c ((number c v == n) && is_empty (sign c v)) e) in
    (same_test (number c v) n both.0, empty (sign c v) both.1)

item-same : (i : Item) (n : ℕ) (v : Moment) → IsNumber i n → item_contradiction i n v ≡ None → (numbered_item i n ≡ item_text [] v i) × IsHeld v i
item-same (item.Literal b) n v fit e = (refl, tt)
item-same (item.Number c p) n v fit e =
    let is = same-number c n v e in
    (ap (padded p (width c)) (sym is.0) ∙ ap (λ l. l ++ padded p (width c) (number c v)) (sym is.1), (omega (arith, fit, is.0), is.1))
item-same (item.Signed c p) n v fit e =
    let is = same-number c n v e in
    (ap (λ j. 43 ∷ padded p (width c) j) (sym is.0) ∙ ap (λ l. or_plus l ++ padded p (width c) (number c v)) (sym is.1), (omega (arith, fit, is.0), is.1))
item-same (item.Name k) n v fit e = (name-same k n v (same-number (name_component k) n v e).0, tt)
item-same item.Abbreviation n v fit e = (refl, tt)
item-same item.Fraction n v fit e = (ap fraction_text (sym (same-number Nanosecond n v e).0), tt)
item-same item.Decimals n v fit e = (ap decimals (sym (same-number Nanosecond n v e).0), tt)
item-same item.OffsetMinus n v fit e = (minus-same v.offset n [] (same-number OffsetSign n v e).0, tt)
item-same item.TimestampSign n v fit e = (minus-same (timestamp_of v) n (codes "+") (same-number TimestampSign n v e).0, tt)
item-same item.TimestampMinus n v fit e = (minus-same (timestamp_of v) n [] (same-number TimestampSign n v e).0, tt)
item-same item.OffsetSign n v fit e = (sign-same v.offset n (same-number OffsetSign n v e).0, tt)

pub same-text : (items : List Item) (numbers : List ℕ) (v : Moment) → AreNumbers items numbers → first_contradiction items numbers v ≡ None
    → (numbered_text items numbers ≡ text_of items v) × AreHeld v items
same-text [] numbers v fit e = (refl, tt)
same-text (i ∷ items) [] v fit e = absurd fit
same-text (i ∷ items) (n ∷ numbers) v fit e =
    let none = none-first (item_contradiction i n v) (first_contradiction items numbers v) e in
    let first = item-same i n v fit.0 none.0 in
    let rest = same-text items numbers v fit.1 none.1 in
    ((λ j. first.0 j ++ rest.0 j), (first.1, rest.1))

-- ---- what isn't shown is 0
skipped : (b : Bool) (x y : ℕ) → b ≡ false → y ≡ 0 → (if b then x else y) ≡ 0
skipped true x y e f = cc
skipped false x y e f = f

not-shown : (items : List Item) (numbers : List ℕ) (c : Component) → any_shows c items ≡ false → number_in items numbers c ≡ 0
not-shown [] numbers c e = refl
not-shown (i ∷ items) [] c e = refl
not-shown (i ∷ items) (n ∷ numbers) c e =
    let none = or_parts (shows c i) (any_shows c items) e in
    skipped (shows c i) n (number_in items numbers c) none.0 (not-shown items numbers c none.1)

-- ---- the format holds the moment
pub if-holds : (b x y : Bool) → (IsTrue b → IsTrue x) → (IsTrue (not b) → IsTrue y) → IsTrue (if b then x else y)
if-holds true x y f g = f refl
if-holds false x y f g = g refl

pub then-holds : (b x y : Bool) → IsTrue b → IsTrue (if b then x else y) → IsTrue x
then-holds true x y h k = k
then-holds false x y h k = cc

pub else-holds : (b x y : Bool) → IsTrue (not b) → IsTrue (if b then x else y) → IsTrue y
else-holds true x y h k = cc
else-holds false x y h k = k

if-most : (b : Bool) (x y m : ℕ) → x ≤ m → y ≤ m → (if b then x else y) ≤ m
if-most true x y m h k = h
if-most false x y m h k = k

abbrev pub AreParts : List Component → Type 0
AreParts [] = Unit {0}
AreParts (c ∷ components) = IsTrue (is_within 19 28 c) × AreParts components

pub all-parts : AreParts subseconds
all-parts = (refl, (refl, (refl, (refl, (refl, (refl, (refl, (refl, (refl, tt)))))))))

abbrev AreMost : (Component → ℕ) → Type 0
AreMost at = (c : Component) → at c ≤ maximum c

hour-most : (items : List Item) (at : Component → ℕ) → AreMost at → hour_in items at ≤ 23
hour-most items at most = if-most (any_shows Hour items) (at Hour) (at Hour12 % 12 + at Period * 12) 23 (most Hour) (omega (arith, most Period))

part-most : (c : Component) (n : ℕ) → IsTrue (is_within 19 28 c) → n ≤ maximum c → n * unit_of c ≤ 999_999_999
part-most Subsecond1 n part h = omega (arith, h)
part-most Subsecond2 n part h = omega (arith, h)
part-most Millisecond n part h = omega (arith, h)
part-most Subsecond4 n part h = omega (arith, h)
part-most Subsecond5 n part h = omega (arith, h)
part-most Microsecond n part h = omega (arith, h)
part-most Subsecond7 n part h = omega (arith, h)
part-most Subsecond8 n part h = omega (arith, h)
part-most Nanosecond n part h = omega (arith, h)
part-most _ n part h = cc

subseconds-most : (components : List Component) (items : List Item) (at : Component → ℕ) → ((c : Component) → IsTrue (is_within 19 28 c) → at c * unit_of c ≤ 999_999_999) → AreParts components
    → nanoseconds_of components items at ≤ 999_999_999
subseconds-most [] items at most parts = omega arith
subseconds-most (c ∷ components) items at most parts =
    if-most (any_shows c items) (at c * unit_of c) _ 999_999_999 (most c parts.0) (subseconds-most components items at most parts.1)

nanosecond-most : (items : List Item) (at : Component → ℕ) → AreMost at → nanosecond_in items at ≤ 999_999_999
nanosecond-most items at most =
    subseconds-most subseconds items at (λ c part. part-most c (at c) part (most c)) all-parts

record PartsAre (t m s n : ℕ) : Type 0 where
  minute : minute_of t ≡ m
  second : second_of t ≡ s
  nanosecond : nanosecond_of t ≡ n

parts-are : (t h m s n : ℕ) → h ≤ 23 → m ≤ 59 → s ≤ 59 → n ≤ 999_999_999 → t ≡ time_of h m s n → PartsAre t m s n
parts-are t h m s n a b c d e = record { minute = omega (arith, a, b, c, d, e); second = omega (arith, a, b, c, d, e); nanosecond = omega (arith, a, b, c, d, e) }

shown-or : (b : Bool) (x y : ℕ) → x ≡ y → (b ≡ false → y ≡ 0) → IsTrue (b || (x == 0))
shown-or true x y e h = refl
shown-or false x y e h = eq-eqb x 0 (e ∙ h refl)

whole-part : (c : Component) (x n : ℕ) → n ≡ x * unit_of c → n % unit_of c ≡ 0
whole-part Year x n e = omega (arith, e)
whole-part _ x n e = omega (arith, e)

either-part : (b : Bool) (x y n u : ℕ) (rest : Bool) → n ≡ (if b then x else y) → (n ≡ x → n % u ≡ 0) → (n ≡ y → IsTrue rest) → IsTrue (if b then n % u == 0 else rest)
either-part true x y n u rest e f g = eq-eqb (n % u) 0 (f e)
either-part false x y n u rest e f g = g e

parts-held : (components : List Component) (items : List Item) (at : Component → ℕ) (n : ℕ) → n ≡ nanoseconds_of components items at → IsTrue (holds_parts_of_second components items n)
parts-held [] items at n e = eq-eqb n 0 e
parts-held (c ∷ components) items at n e =
    either-part (any_shows c items) (at c * unit_of c) (nanoseconds_of components items at) n (unit_of c) _ e (whole-part c (at c) n) (parts-held components items at n)

shown-parts : (items : List Item) (numbers : List ℕ) (t : ℕ) → AreMost (number_in items numbers) → t ≡ time_in items (number_in items numbers) → IsTrue (holds_parts items t)
shown-parts items numbers t most e =
    let at = number_in items numbers in
    let parts = parts-are t (hour_in items (number_in items numbers)) (number_in items numbers Minute) (number_in items numbers Second) (nanosecond_in items (number_in items numbers))
    (hour-most items (number_in items numbers) most) (most Minute) (most Second) (nanosecond-most items (number_in items numbers) most) e in
    and_from _ _ (shown-or (any_shows Minute items) (minute_of t) _ parts.minute (λ f. not-shown items numbers Minute f))
    (and_from _ _ (shown-or (any_shows Second items) (second_of t) _ parts.second (λ f. not-shown items numbers Second f))
    (parts-held subseconds items (number_in items numbers) (nanosecond_of t) parts.nanosecond))

-- What isn't determined is 0.
none-at : (components : List Component) (items : List Item) → 0 ≡ nanoseconds_of components items (λ c. 0)
none-at [] items = refl
none-at (c ∷ components) items = either-none (any_shows c items) (0 * unit_of c) _ (omega arith) (none-at components items)
  where
    either-none : (b : Bool) (x y : ℕ) → 0 ≡ x → 0 ≡ y → 0 ≡ (if b then x else y)
    either-none true x y e f = e
    either-none false x y e f = f

subsecond-zero : (items : List Item) → IsTrue (holds_subsecond items 0)
subsecond-zero items = parts-held subseconds items (λ c. 0) 0 (none-at subseconds items)

zero-parts : (items : List Item) → IsTrue (holds_parts items 0)
zero-parts items =
    and_from _ _ (shown-or (any_shows Minute items) (minute_of 0) 0 refl (λ f. refl))
    (and_from _ _ (shown-or (any_shows Second items) (second_of 0) 0 refl (λ f. refl)) (subsecond-zero items))

pub zero-holds : (items : List Item) → IsTrue (holds_time items 0)
zero-holds items =
    if-holds (shows_timestamp items) _ _ (λ _. subsecond-zero items) (λ _. zero-parts items)

pub zero-offset : (items : List Item) → IsTrue (holds_offset items (pos 0))
zero-offset items = if-holds (shows_offset items) _ _
    (λ _. and_from _ _ (shown-or (any_shows OffsetMinute items) 0 0 refl (λ f. refl)) (shown-or (any_shows OffsetSecond items) 0 0 refl (λ f. refl))) (λ _. refl)

either-time : (b : Bool) (x t : ℕ) (P : Type 0) → t ≡ (if b then x else 0) → (t ≡ x → P) → (t ≡ 0 → P) → P
either-time true x t P e f g = f e
either-time false x t P e f g = g e

pub time-holds : (items : List Item) (numbers : List ℕ) (v : Moment) → AreMost (number_in items numbers) → IsMomentOf items (number_in items numbers) v → IsTrue (holds_time items v.time)
time-holds items numbers v most value =
    if-holds (shows_timestamp items) _ _
    (λ h. parts-held subseconds items (number_in items numbers) (nanosecond_of v.time) (value.timestamp h).1)
    (λ h. either-time (shows_time items) (time_in items (number_in items numbers)) v.time (IsTrue (holds_parts items v.time)) (value.time h)
    (λ e. shown-parts items numbers v.time most e) (λ e. subst (λ t. IsTrue (holds_parts items t)) (sym e) (zero-parts items)))

negative-abs : (m : ℕ) → unsigned_abs (neg_ℤ (pos m)) ≡ m
negative-abs zero = refl
negative-abs (suc m) = refl

signed-abs : (b : Bool) (m : ℕ) → unsigned_abs (if b then neg_ℤ (pos m) else pos m) ≡ m
signed-abs true m = negative-abs m
signed-abs false m = refl

record OffsetPartsAre (x m s : ℕ) : Type 0 where
  minute : x / 60 % 60 ≡ m
  second : x % 60 ≡ s

offset-parts-are : (x h m s : ℕ) → m ≤ 59 → s ≤ 59 → x ≡ h * 3_600 + m * 60 + s → OffsetPartsAre x m s
offset-parts-are x h m s a b e = record { minute = omega (arith, a, b, e); second = omega (arith, b, e) }

shown-offset : (items : List Item) (numbers : List ℕ) (o : ℤ) → AreMost (number_in items numbers) → o ≡ offset_in (number_in items numbers)
    → IsTrue ((any_shows OffsetMinute items || (unsigned_abs o / 60 % 60 == 0)) && (any_shows OffsetSecond items || (unsigned_abs o % 60 == 0)))
shown-offset items numbers o most e =
    let size : unsigned_abs o ≡ number_in items numbers OffsetHour * 3_600 + number_in items numbers OffsetMinute * 60 + number_in items numbers OffsetSecond =
    ap unsigned_abs e ∙ signed-abs (number_in items numbers OffsetSign == 1) _ in
    let parts = offset-parts-are (unsigned_abs o) _ _ _ (most OffsetMinute) (most OffsetSecond) size in
    and_from _ _ (shown-or (any_shows OffsetMinute items) (unsigned_abs o / 60 % 60) _ parts.minute (λ f. not-shown items numbers OffsetMinute f))
    (shown-or (any_shows OffsetSecond items) (unsigned_abs o % 60) _ parts.second (λ f. not-shown items numbers OffsetSecond f))

either-offset : (b a : Bool) (x o : ℤ) → o ≡ (if b then x else pos 0) → (o ≡ x → IsTrue a) → IsTrue (if b then a else unsigned_abs o == 0)
either-offset true a x o e f = f e
either-offset false a x o e f = eq-eqb (unsigned_abs o) 0 (ap unsigned_abs e)

pub offset-holds : (items : List Item) (numbers : List ℕ) (v : Moment) → AreMost (number_in items numbers) → IsMomentOf items (number_in items numbers) v → IsTrue (holds_offset items v.offset)
offset-holds items numbers v most value = either-offset (shows_offset items) _ (offset_in (number_in items numbers)) v.offset value.offset (λ e. shown-offset items numbers v.offset most e)
