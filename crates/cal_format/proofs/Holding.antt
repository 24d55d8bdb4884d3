-- What a format holds of a moment.
use Rattle.std.proofs.Common.{◌≡◌, ℕ, ◌<◌, ◌^◌, List, [], ◌∷◌, length, refl, ap, subst, arith, inl, inr}
use Rattle.std.specs.Prelude.{◌==◌, IsTrue, ℤ, pos, negsuc, unsigned_abs}
use Rattle.cal_time.specs.DateText.{sign_text}
use Rattle.cal_time.specs.Time.{IsTime}
use Rattle.cal_format.specs.declared.item.Item.{Item}
use Rattle.cal_format.specs.declared.item.Item.TheVariants as item
use Rattle.cal_format.specs.declared.item.Component.{Component}
use Rattle.cal_format.specs.declared.item.Component.TheVariants.{Hour, Hour12, Minute, Second, Period, Subsecond1, Subsecond2, Millisecond, Subsecond4, Subsecond5, Microsecond, Subsecond7, Subsecond8, Nanosecond, OffsetSign, TimestampSign}
use Rattle.cal_format.specs.declared.item.Name.{Name}
use Rattle.cal_format.specs.declared.item.Name.TheVariants as name
use Rattle.cal_format.specs.declared.moment.Moment.{Moment}
use Rattle.cal_format.specs.Moment.{number, width, moment_of_time}
use Rattle.cal_format.specs.Text.{sign}
use Rattle.cal_format.specs.Reading.{index, name_component, shows, any_shows, is_within, shows_within, show_within, are_time_items}
use Rattle.cal_format.specs.Scanning.{IsHeld, AreHeld}
use Rattle.cal_format.proofs.Apart.{either_test, both_tests, same_test, index-one}
use Rattle.cal_format.proofs.Digits.{fits-width}

-- ---- a component that an item shows has no sign
pub name-plain : (k : Name) (v : Moment) → sign (name_component k) v ≡ []
name-plain name.Month v = refl
name-plain name.MonthAlone v = refl
name-plain _ v = refl

same-plain : (d c : Component) (v : Moment) → IsTrue (index d == index c) → sign d v ≡ [] → sign c v ≡ []
same-plain d c v h plain = subst (λ k. sign k v ≡ []) (index-one d c (same_test (index d) (index c) h)) plain

item-plain : (c : Component) (v : Moment) (i : Item) → IsTrue (shows c i) → IsHeld v i → sign c v ≡ []
item-plain c v (item.Literal b) h held = cc
item-plain c v (item.Number d p) h held = same-plain d c v h held.1
item-plain c v (item.Signed d p) h held = same-plain d c v h held.1
item-plain c v (item.Name k) h held = same-plain (name_component k) c v h (name-plain k v)
item-plain c v item.Abbreviation h held = cc
item-plain c v item.Fraction h held = same-plain Nanosecond c v h refl
item-plain c v item.Decimals h held = same-plain Nanosecond c v h refl
item-plain c v item.OffsetSign h held = same-plain OffsetSign c v h refl
item-plain c v item.OffsetMinus h held = same-plain OffsetSign c v h refl
item-plain c v item.TimestampSign h held = same-plain TimestampSign c v h refl
item-plain c v item.TimestampMinus h held = same-plain TimestampSign c v h refl

pub plain-shown : (c : Component) (v : Moment) (items : List Item) → AreHeld v items → IsTrue (any_shows c items) → sign c v ≡ []
plain-shown c v [] held h = cc
plain-shown c v (i ∷ items) held h = elim (either_test (shows c i) (any_shows c items) h) as (λ _. sign c v ≡ []) [
  | inl here ↦ item-plain c v i here held.0
  | inr later ↦ plain-shown c v items held.1 later
]

-- ---- a year without a sign
pub plain-year : (y : ℤ) → sign_text y ≡ [] → pos (unsigned_abs y) ≡ y
plain-year (pos n) e = refl
plain-year (negsuc n) e = absurd (omega (arith, ap length e))

-- ---- a format of a time of day holds each time of day
-- The number of a component has at most its width of digits, and no sign.
abbrev pub IsNarrow : Component → Moment → Type 0
IsNarrow c v = (number c v < 10 ^ width c) × (sign c v ≡ [])

item-held : (low high : ℕ) (i : Item) (v : Moment) → ((c : Component) → IsTrue (is_within low high c) → IsNarrow c v) → IsTrue (shows_within low high i) → IsHeld v i
item-held low high (item.Number c p) v each u = let is = each c u in (fits-width p c (number c v) is.0, is.1)
item-held low high (item.Signed c p) v each u = let is = each c u in (fits-width p c (number c v) is.0, is.1)
item-held low high _ v each u = tt

pub all-held : (low high : ℕ) (items : List Item) (v : Moment) → ((c : Component) → IsTrue (is_within low high c) → IsNarrow c v) → IsTrue (show_within low high items) → AreHeld v items
all-held low high [] v each u = tt
all-held low high (i ∷ items) v each u =
    let both = both_tests (shows_within low high i) (show_within low high items) u in
    (item-held low high i v each both.0, all-held low high items v each both.1)

time-number : (c : Component) (t : ℕ) → IsTime t → IsTrue (is_within 14 28 c) → IsNarrow c (moment_of_time t)
time-number Hour t h u = let below = h.below_day in (omega arith, refl)
time-number Hour12 t h u = (omega arith, refl)
time-number Minute t h u = (omega arith, refl)
time-number Second t h u = (omega arith, refl)
time-number Period t h u = let below = h.below_day in (omega arith, refl)
time-number Subsecond1 t h u = (omega arith, refl)
time-number Subsecond2 t h u = (omega arith, refl)
time-number Millisecond t h u = (omega arith, refl)
time-number Subsecond4 t h u = (omega arith, refl)
time-number Subsecond5 t h u = (omega arith, refl)
time-number Microsecond t h u = (omega arith, refl)
time-number Subsecond7 t h u = (omega arith, refl)
time-number Subsecond8 t h u = (omega arith, refl)
time-number Nanosecond t h u = (omega arith, refl)
time-number _ t h u = cc

pub time-held : (items : List Item) (t : ℕ) → IsTime t → IsTrue (are_time_items items) → AreHeld (moment_of_time t) items
time-held items t h u = all-held 14 28 items (moment_of_time t) (λ c w. time-number c t h w) u
