-- The numbers that items have of a moment that they hold.
use Rattle.std.proofs.Common.{◌≡◌, ℕ, ◌<◌, ◌≤◌, ◌^◌, List, [], ◌∷◌, ◌++◌, refl, sym, ap, ◌∙◌, arith}
use Rattle.std.specs.Prelude.{Bool, true, false, IsTrue, Option, None, Some, ◌==◌, ◌||◌, ◌&&◌, nat_le, if◌then◌else◌, pos, int_lt, codes}
use Rattle.std.proofs.lemmas.Bool.Decides.{nat_tests}
use borrow.Author.Tests.{eq-eqb}
use Rattle.cal_time.proofs.Dates.{ordinal-most}
use Rattle.cal_time.specs.Date.{year_at, month_at}
use Rattle.cal_time.specs.Days.{month_at-range, day_of_month_at-range}
use Rattle.cal_time.specs.Laws.{weekday_at-is}
use Rattle.cal_units.specs.declared.error.ComponentRange.{ComponentRange}
use Rattle.cal_format.specs.declared.fields.Fields.{Fields}
use Rattle.cal_format.specs.declared.item.Item.{Item}
use Rattle.cal_format.specs.declared.item.Item.TheVariants as item
use Rattle.cal_format.specs.declared.item.Name.{Name}
use Rattle.cal_format.specs.declared.item.Name.TheVariants as name
use Rattle.cal_format.specs.declared.item.Component.{Component}
use Rattle.cal_format.specs.declared.item.Component.TheVariants.{Month, Day, Ordinal, IsoWeek, Weekday, DaysFromMonday, SundayWeek, MondayWeek, Hour, Period, Nanosecond, OffsetHour, OffsetSign, TimestampSign}
use Rattle.cal_format.specs.declared.moment.Moment.{Moment}
use Rattle.cal_format.specs.Form.{component_number, item_number, numbers_of, numbered_item, numbered_text, IsNameNumber, IsNumber, AreNumbers, HasNumbers}
use Rattle.cal_format.specs.Moment.{IsMoment, timestamp_of, number, width, most_digits}
use Rattle.cal_format.specs.Ranges.{minimum, maximum, range_error, either, item_error, first_range_error}
use Rattle.cal_format.specs.Reading.{index, name_component, item_component, is_component, shows, any_shows}
use Rattle.cal_format.specs.Scanning.{IsHeld, AreHeld, number_at}
use Rattle.cal_format.specs.Text.{sign, or_plus, padded, item_text, text_of}
use Rattle.cal_format.specs.Values.{Holds, IsMomentOf, number_in, differing, is_empty, contradiction, item_contradiction, first_contradiction}
use Rattle.cal_format.proofs.Apart.{same_test, index-one}
use Rattle.cal_format.proofs.Contradictions.{name-same, sign-same}
use Rattle.cal_format.proofs.Determined.{own-moment}
use Rattle.cal_format.proofs.Digits.{fits-most}
use Rattle.cal_format.proofs.Holding.{name-plain}
use Rattle.cal_format.proofs.Lengths.{days_in_month-most, ordinal-least, week-range, count-most}

-- ---- they are the numbers of its text
bit-low : (b : Bool) → (if b then 1 else 0) < 2
bit-low true = omega arith
bit-low false = omega arith

name-fits : (k : Name) (v : Moment) → IsMoment v → IsNameNumber k (number (name_component k) v)
name-fits name.Month v h = let range = month_at-range v.date in (range.0, range.1)
name-fits name.MonthAlone v h = let range = month_at-range v.date in (range.0, range.1)
name-fits name.ShortMonth v h = let range = month_at-range v.date in (range.0, range.1)
name-fits name.Weekday v h = let is = weekday_at-is v.date in (omega arith, omega arith)
name-fits name.ShortWeekday v h = let is = weekday_at-is v.date in (omega arith, omega arith)
name-fits name.Period v h = let below = h.time.below_day in omega arith
name-fits name.LowerPeriod v h = let below = h.time.below_day in omega arith

sign-own : (b : Bool) (other : List ℕ) → (if b then codes "-" else other) ≡ (if (if b then 1 else 0) == 1 then codes "-" else other)
sign-own true other = refl
sign-own false other = refl

item-own : (i : Item) (v : Moment) → IsMoment v → IsHeld v i → IsNumber i (item_number v i) × (item_text [] v i ≡ numbered_item i (item_number v i))
item-own (item.Literal b) v h held = (refl, refl)
item-own (item.Number c p) v h held = (held.0, ap (λ l. l ++ padded p (width c) (number c v)) held.1)
item-own (item.Signed c p) v h held = (held.0, ap (λ l. or_plus l ++ padded p (width c) (number c v)) held.1)
item-own (item.Name k) v h held = (name-fits k v h, sym (name-same k (number (name_component k) v) v refl))
item-own item.Fraction v h held = (omega arith, refl)
item-own item.Decimals v h held = (omega arith, refl)
item-own item.OffsetMinus v h held = (bit-low (int_lt v.offset (pos 0)), sign-own (int_lt v.offset (pos 0)) [])
item-own item.TimestampSign v h held = (bit-low (int_lt (timestamp_of v) (pos 0)), sign-own (int_lt (timestamp_of v) (pos 0)) (codes "+"))
item-own item.TimestampMinus v h held = (bit-low (int_lt (timestamp_of v) (pos 0)), sign-own (int_lt (timestamp_of v) (pos 0)) [])
item-own item.Abbreviation v h held = (refl, refl)
item-own item.OffsetSign v h held = (bit-low (int_lt v.offset (pos 0)), sym (sign-same v.offset (number OffsetSign v) refl))

items-own : (items : List Item) (v : Moment) → IsMoment v → AreHeld v items → AreNumbers items (numbers_of items v) × (text_of items v ≡ numbered_text items (numbers_of items v))
items-own [] v h held = (tt, refl)
items-own (i ∷ items) v h held =
    let first = item-own i v h held.0 in
    let rest = items-own items v h held.1 in
    ((first.0, rest.0), λ j. first.1 j ++ rest.1 j)

pub has-own : (items : List Item) (v : Moment) (text : List ℕ) → IsMoment v → AreHeld v items → text ≡ text_of items v → HasNumbers items (numbers_of items v) text
has-own items v text h held e = let own = items-own items v h held in record { fit = own.0; text_is = e ∙ own.1 }

-- ---- they agree with the moment
own-shown : (o : Option Component) (c : Component) (v : Moment) → IsTrue (is_component c o) → component_number v o ≡ number c v
own-shown None c v h = cc
own-shown (Some d) c v h = ap (λ k. number k v) (index-one d c (same_test (index d) (index c) h))

pub first-shown : (a b : Bool) (x m n : ℕ) → (IsTrue a → x ≡ n) → m ≡ (if b then n else 0) → (if a then x else m) ≡ (if a || b then n else 0)
first-shown true b x m n f e = f refl
first-shown false b x m n f e = e

pub own-in : (items : List Item) (c : Component) (v : Moment) → number_in items (numbers_of items v) c ≡ (if any_shows c items then number c v else 0)
own-in [] c v = refl
own-in (i ∷ items) c v = first-shown (shows c i) (any_shows c items) (item_number v i) (number_in items (numbers_of items v) c) (number c v) (own-shown (item_component i) c v) (own-in items c v)

-- A moment that the items hold is the moment of its numbers.
pub held-moment : (items : List Item) (numbers : List ℕ) (f : Fields) (v : Moment) → Holds items v → numbers ≡ numbers_of items v → ((c : Component) → number_at c f ≡ number_in items numbers c)
    → IsMomentOf items (λ c. number_at c f) v
held-moment items numbers f v holds e filled = own-moment items v (λ c. number_at c f) holds (λ c. filled c ∙ ap (λ l. number_in items l c) e ∙ own-in items c v)

-- ---- they are in range
abbrev IsIn : Component → Moment → Type 0
IsIn c v = (minimum c ≤ number c v) × (number c v ≤ maximum c)

number-in : (c : Component) (v : Moment) → IsMoment v → number c v < 10 ^ most_digits c → IsIn c v
number-in Month v h low = let range = month_at-range v.date in (range.0, range.1)
number-in Day v h low = (omega (arith, (day_of_month_at-range v.date).0), omega (arith, (day_of_month_at-range v.date).1, days_in_month-most (year_at v.date) (month_at v.date)))
number-in Ordinal v h low = (ordinal-least v.date, ordinal-most v.date)
number-in IsoWeek v h low = week-range v.date
number-in Weekday v h low = let is = weekday_at-is v.date in (omega arith, omega arith)
number-in DaysFromMonday v h low = let is = weekday_at-is v.date in (omega arith, omega arith)
number-in SundayWeek v h low = (omega arith, count-most 6 v.date (omega arith))
number-in MondayWeek v h low = (omega arith, count-most 0 v.date (omega arith))
number-in Hour v h low = let below = h.time.below_day in (omega arith, omega arith)
number-in Period v h low = let below = h.time.below_day in (omega arith, omega arith)
number-in OffsetHour v h low = let most = h.offset.magnitude in (omega arith, omega arith)
number-in OffsetSign v h low = (omega arith, omega (arith, bit-low (int_lt v.offset (pos 0))))
number-in TimestampSign v h low = (omega arith, omega (arith, bit-low (int_lt (timestamp_of v) (pos 0))))
number-in _ v h low = (omega arith, omega (arith, low))

no-error : (least most n : ℕ) (e : ComponentRange) → least ≤ n → n ≤ most → (if nat_le least n && nat_le n most then None else Some e) ≡ None
no-error least most n e low high = grind (arith, nat_tests)

item-in : (i : Item) (v : Moment) → IsMoment v → IsHeld v i → item_error i (item_number v i) ≡ None
item-in (item.Number c p) v h held = let is = number-in c v h (fits-most p c (number c v) held.0) in no-error (minimum c) (maximum c) (number c v) (range_error c) is.0 is.1
item-in (item.Signed c p) v h held = let is = number-in c v h (fits-most p c (number c v) held.0) in no-error (minimum c) (maximum c) (number c v) (range_error c) is.0 is.1
item-in _ v h held = refl

pub own-range : (items : List Item) (v : Moment) → IsMoment v → AreHeld v items → first_range_error items (numbers_of items v) ≡ None
own-range [] v h held = refl
own-range (i ∷ items) v h held = ap (λ e. either e (first_range_error items (numbers_of items v))) (item-in i v h held.0) ∙ own-range items v h held.1

-- ---- and no item contradicts the moment
no-difference : (c : Component) (a b : Bool) → IsTrue a → IsTrue b → differing c (a && b) ≡ None
no-difference c true b h k = ap (λ x. differing c x) k
no-difference c false b h k = cc

pub agrees : (c : Component) (v : Moment) → sign c v ≡ [] → contradiction (Some c) (number c v) v ≡ None
agrees c v plain = no-difference c (number c v == number c v) (is_empty (sign c v)) (eq-eqb (number c v) (number c v) refl) (ap is_empty plain)

item-agrees : (i : Item) (v : Moment) → IsHeld v i → item_contradiction i (item_number v i) v ≡ None
item-agrees (item.Literal b) v held = refl
item-agrees (item.Number c p) v held = agrees c v held.1
item-agrees (item.Signed c p) v held = agrees c v held.1
item-agrees (item.Name k) v held = agrees (name_component k) v (name-plain k v)
item-agrees item.Abbreviation v held = refl
item-agrees item.Fraction v held = agrees Nanosecond v refl
item-agrees item.Decimals v held = agrees Nanosecond v refl
item-agrees item.OffsetSign v held = agrees OffsetSign v refl
item-agrees item.OffsetMinus v held = agrees OffsetSign v refl
item-agrees item.TimestampSign v held = agrees TimestampSign v refl
item-agrees item.TimestampMinus v held = agrees TimestampSign v refl

pub own-contradiction : (items : List Item) (v : Moment) → AreHeld v items → first_contradiction items (numbers_of items v) v ≡ None
own-contradiction [] v held = refl
own-contradiction (i ∷ items) v held = ap (λ e. either e (first_contradiction items (numbers_of items v) v)) (item-agrees i v held.0) ∙ own-contradiction items v held.1
