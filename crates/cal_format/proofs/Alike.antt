-- Items that show only a part of a moment print the same text of each moment with this part.
use Rattle.std.proofs.Common.{◌≡◌, ℕ, List, [], ◌∷◌, ◌++◌, refl, sym, ap, ◌∙◌, arith}
use Rattle.std.specs.Prelude.{IsTrue, Option, None, Some, ◌==◌, codes, if◌then◌else◌, ℤ, int_lt, pos}
use Rattle.cal_format.specs.declared.item.Item.{Item}
use Rattle.cal_format.specs.declared.item.Item.TheVariants as item
use Rattle.cal_format.specs.declared.item.Component.{Component}
use Rattle.cal_format.specs.declared.item.Component.TheVariants.{Year, Hour, OffsetHour, OffsetSign, TimestampSign}
use Rattle.cal_format.specs.declared.moment.Moment.{Moment}
use Rattle.cal_format.specs.Form.{numbered_name, component_number, numbers_of}
use Rattle.cal_format.specs.Moment.{number, timestamp_of, width, moment_of_date, moment_of_time, moment_of_offset}
use Rattle.cal_time.specs.Digits.{decimals}
use Rattle.cal_format.specs.Reading.{name_component, item_component, is_within, lies_within, shows_within, show_within, are_date_items, are_time_items, are_date_time_items, are_offset_items}
use Rattle.cal_format.specs.Scanning.{IsHeld, AreHeld}
use Rattle.cal_format.specs.Text.{sign, or_plus, padded, fraction_text, item_text, text_of}
use Rattle.cal_format.proofs.Apart.{both_tests}
use Rattle.cal_format.proofs.Contradictions.{name-same, sign-same, minus-same}

record Alike (c : Component) (v m : Moment) : Type 0 where
  number_is : number c v ≡ number c m
  sign_is : sign c v ≡ sign c m

-- ---- components, by the parts that they show
abbrev date_time_part : Moment → Moment
date_time_part v = record { date = v.date; time = v.time; offset = pos 0 }

of-date : (c : Component) (v : Moment) → IsTrue (is_within 0 14 c) → Alike c v (moment_of_date v.date)
of-date Year v h = record { number_is = cc; sign_is = cc }
of-date _ v h = record { number_is = cc; sign_is = cc }

of-time : (c : Component) (v : Moment) → IsTrue (is_within 14 28 c) → Alike c v (moment_of_time v.time)
of-time Hour v h = record { number_is = cc; sign_is = cc }
of-time _ v h = record { number_is = cc; sign_is = cc }

of-date_time : (c : Component) (v : Moment) → IsTrue (is_within 0 28 c) → Alike c v (date_time_part v)
of-date_time Year v h = record { number_is = cc; sign_is = cc }
of-date_time _ v h = record { number_is = cc; sign_is = cc }

of-offset : (c : Component) (v : Moment) → IsTrue (is_within 28 32 c) → Alike c v (moment_of_offset v.offset)
of-offset OffsetHour v h = record { number_is = cc; sign_is = cc }
of-offset _ v h = record { number_is = cc; sign_is = cc }

by-part : (c : Component) (v m a b : Moment) → a ≡ b → Alike c v a → Alike c m b → Alike c v m
by-part c v m a b e x y = record { number_is = x.number_is ∙ ap (λ w. number c w) e ∙ sym y.number_is; sign_is = x.sign_is ∙ ap (λ w. sign c w) e ∙ sym y.sign_is }

-- ---- items
abbrev AlikeAt : Option Component → Moment → Moment → Type 0
AlikeAt None v m = Unit {0}
AlikeAt (Some c) v m = Alike c v m

sign-alike : (t u : ℤ) (n : ℕ) (other : List ℕ) → (if int_lt t (pos 0) then 1 else 0) ≡ n → (if int_lt u (pos 0) then 1 else 0) ≡ n
    → (if int_lt t (pos 0) then codes "-" else other) ≡ (if int_lt u (pos 0) then codes "-" else other)
sign-alike t u n other e f = sym (minus-same t n other e) ∙ minus-same u n other f

text-alike : (i : Item) (v m : Moment) → AlikeAt (item_component i) v m → (item_text [] v i ≡ item_text [] m i) × (IsHeld v i → IsHeld m i)
text-alike (item.Literal b) v m a = (refl, λ h. h)
text-alike (item.Number c p) v m a = (λ i. a.sign_is i ++ padded p (width c) (a.number_is i), λ h. (omega (arith, a.number_is, h.0), sym a.sign_is ∙ h.1))
text-alike (item.Signed c p) v m a = (λ i. or_plus (a.sign_is i) ++ padded p (width c) (a.number_is i), λ h. (omega (arith, a.number_is, h.0), sym a.sign_is ∙ h.1))
text-alike (item.Name k) v m a = (sym (name-same k (number (name_component k) v) v refl) ∙ ap (numbered_name k) a.number_is ∙ name-same k (number (name_component k) m) m refl, λ h. h)
text-alike item.Abbreviation v m a = (refl, λ h. h)
text-alike item.Fraction v m a = (ap fraction_text a.number_is, λ h. h)
text-alike item.Decimals v m a = (ap decimals a.number_is, λ h. h)
text-alike item.OffsetSign v m a =
    (sym (sign-same v.offset (number OffsetSign v) refl) ∙ ap (λ j. if j == 1 then codes "-" else codes "+") a.number_is ∙ sign-same m.offset (number OffsetSign m) refl, λ h. h)
text-alike item.OffsetMinus v m a = (sign-alike v.offset m.offset (number OffsetSign m) [] a.number_is refl, λ h. h)
text-alike item.TimestampSign v m a = (sign-alike (timestamp_of v) (timestamp_of m) (number TimestampSign m) (codes "+") a.number_is refl, λ h. h)
text-alike item.TimestampMinus v m a = (sign-alike (timestamp_of v) (timestamp_of m) (number TimestampSign m) [] a.number_is refl, λ h. h)

part-alike : (low high : ℕ) (o : Option Component) (v m : Moment) → ((c : Component) → IsTrue (is_within low high c) → Alike c v m) → IsTrue (lies_within low high o) → AlikeAt o v m
part-alike low high None v m each h = tt
part-alike low high (Some c) v m each h = each c h

within : (low high : ℕ) (i : Item) → IsTrue (shows_within low high i) → IsTrue (lies_within low high (item_component i))
within low high item.Abbreviation h = refl
within low high _ h = h

-- ---- all items
abbrev pub AreAlike : List Item → Moment → Moment → Type 0
AreAlike items v m = (text_of items v ≡ text_of items m) × (AreHeld v items → AreHeld m items) × (numbers_of items v ≡ numbers_of items m)

number-alike : (o : Option Component) (v m : Moment) → AlikeAt o v m → component_number v o ≡ component_number m o
number-alike None v m a = refl
number-alike (Some c) v m a = a.number_is

all-alike : (low high : ℕ) (items : List Item) (v m : Moment) → ((c : Component) → IsTrue (is_within low high c) → Alike c v m) → IsTrue (show_within low high items) → AreAlike items v m
all-alike low high [] v m each h = (refl, λ k. k, refl)
all-alike low high (i ∷ items) v m each h =
    let both = both_tests (shows_within low high i) (show_within low high items) h in
    let part = part-alike low high (item_component i) v m each (within low high i both.0) in
    let first = text-alike i v m part in
    let number = number-alike (item_component i) v m part in
    let rest = all-alike low high items v m each both.1 in
    ((λ j. first.0 j ++ rest.0 j), (λ k. (first.1 k.0, rest.1 k.1)), λ j. number j ∷ rest.2 j)

pub dates-alike : (items : List Item) (v m : Moment) → v.date ≡ m.date → IsTrue (are_date_items items) → AreAlike items v m
dates-alike items v m e h = all-alike 0 14 items v m (λ c w. by-part c v m (moment_of_date v.date) (moment_of_date m.date) (ap moment_of_date e) (of-date c v w) (of-date c m w)) h

pub times-alike : (items : List Item) (v m : Moment) → v.time ≡ m.time → IsTrue (are_time_items items) → AreAlike items v m
times-alike items v m e h = all-alike 14 28 items v m (λ c w. by-part c v m (moment_of_time v.time) (moment_of_time m.time) (ap moment_of_time e) (of-time c v w) (of-time c m w)) h

pub offsets-alike : (items : List Item) (v m : Moment) → v.offset ≡ m.offset → IsTrue (are_offset_items items) → AreAlike items v m
offsets-alike items v m e h = all-alike 28 32 items v m (λ c w. by-part c v m (moment_of_offset v.offset) (moment_of_offset m.offset) (ap moment_of_offset e) (of-offset c v w) (of-offset c m w)) h

pub date_times-alike : (items : List Item) (v m : Moment) → v.date ≡ m.date → v.time ≡ m.time → IsTrue (are_date_time_items items) → AreAlike items v m
date_times-alike items v m d t h =
    let same : date_time_part v ≡ date_time_part m = λ i. record { date = d i; time = t i; offset = pos 0 } in
    all-alike 0 28 items v m (λ c w. by-part c v m (date_time_part v) (date_time_part m) same (of-date_time c v w) (of-date_time c m w)) h
