-- The requirements of a lenient format, and the texts that it reads.
use Rattle.std.specs.Prelude.{◌≡◌, ◌⊎◌, ℕ, zero, suc, ◌+◌, ◌*◌, ◌<◌, ◌≤◌, ◌==◌, ◌&&◌, ◌||◌, not, Bool, true, false, List, [], ◌∷◌, length, Option, Some, None, IsTrue, nat_le, if◌then◌else◌}
use Rattle.cal_format.specs.declared.error.ParseError.{ParseError}
use Rattle.cal_format.specs.declared.error.ParseError.TheVariants.{UnexpectedByte, UnexpectedEnd}
use Rattle.cal_format.specs.declared.item.Item.{Item}
use Rattle.cal_format.specs.declared.item.Item.TheVariants as item
use Rattle.cal_format.specs.declared.item.Padding.{Padding}
use Rattle.cal_format.specs.declared.item.Padding.TheVariants as padding
use Rattle.cal_format.specs.declared.item.Component.TheVariants.{Year, Century, YearOfCentury}
use Rattle.cal_format.specs.declared.lenient.LenientFormat.{LenientFormat}
use Rattle.cal_format.specs.declared.moment.Moment.{Moment}
use Rattle.cal_format.specs.Description.{is_space}
use Rattle.cal_format.specs.Form.{numbers_of}
use Rattle.cal_format.specs.Moment.{number}
use Rattle.cal_format.specs.Reading.{any_shows, holds_time, holds_offset, DeterminesDate, DeterminesTime, DeterminesDateTime, DeterminesOffsetDateTime}
use Rattle.cal_format.specs.Rejection.{IsNumberRejection}
use Rattle.cal_format.specs.Scanning.{AreHeld}
use Rattle.cal_format.specs.Values.{number_in}
use Rattle.cal_format.specs.Variants.{is_letter, is_white, pads_with_spaces, is_free, HasVariants}

-- ---- the ends of items
-- A byte may begin a variant of the item.
abbrev pub is_digit : ℕ → Bool
is_digit x = nat_le 48 x && nat_le x 57

abbrev pub item_begins : Bool → Item → ℕ → Bool
item_begins after (item.Literal b) x = if is_space b then not after && is_space x else x == b
item_begins after (item.Number c p) x = is_digit x || ((x == 32) && (pads_with_spaces p && not (is_free c && after)))
item_begins after (item.Signed c p) x = x == 43
item_begins after (item.Name k) x = is_letter x
item_begins after item.Fraction x = x == 46
item_begins after item.Decimals x = is_digit x
item_begins after item.OffsetSign x = (x == 43) || (x == 45)
item_begins after item.TimestampSign x = (x == 43) || (x == 45)
item_begins after item.OffsetMinus x = x == 45
item_begins after item.TimestampMinus x = x == 45
item_begins after item.Abbreviation x = false

-- An item may have an empty text.
abbrev pub may_be_empty : Bool → Item → Bool
may_be_empty after (item.Literal b) = is_space b && after
may_be_empty after item.Fraction = true
may_be_empty after item.OffsetMinus = true
may_be_empty after item.TimestampMinus = true
may_be_empty after item.Abbreviation = true
may_be_empty after _ = false

-- A byte may begin a variant of the items.
abbrev pub can_begin : Bool → List Item → ℕ → Bool
can_begin after [] x = false
can_begin after (i ∷ items) x = item_begins after i x || (may_be_empty after i && can_begin (is_white i) items x)

-- None of k bytes from this one on may begin the items.
abbrev pub none_begins : ℕ → ℕ → Bool → List Item → Bool
none_begins zero low after items = true
none_begins (suc k) low after items = not (can_begin after items low) && none_begins k (low + 1) after items

-- A number goes on with a digit, a name with a letter, white space with white space, a fraction with
-- a point or a digit, and nothing with a minus sign.
abbrev pub number_ends : Bool → Padding → List Item → Bool
number_ends true p items = none_begins 10 48 false items
number_ends false padding.None items = none_begins 10 48 false items
number_ends false _ items = true

abbrev pub white_ends : Bool → List Item → Bool
white_ends true items = none_begins 5 9 true items && none_begins 1 32 true items
white_ends false items = true

abbrev pub ends_leniently : Item → List Item → Bool
ends_leniently (item.Literal b) items = white_ends (is_space b) items
ends_leniently (item.Number c p) items = number_ends (is_free c) p items
ends_leniently (item.Signed c p) items = number_ends false p items
ends_leniently (item.Name k) items = none_begins 26 65 false items && none_begins 26 97 false items
ends_leniently item.Fraction items = none_begins 10 48 false items && none_begins 1 46 false items
ends_leniently item.Decimals items = none_begins 10 48 false items
ends_leniently item.OffsetMinus items = none_begins 1 45 false items
ends_leniently item.TimestampMinus items = none_begins 1 45 false items
ends_leniently _ items = true

-- No variant of an item goes on into the variants of the items after it.
abbrev pub are_leniently_apart : List Item → Bool
are_leniently_apart [] = true
are_leniently_apart (i ∷ items) = ends_leniently i items && are_leniently_apart items

-- The text doesn't begin with one of k bytes from `low` on.
abbrev pub IsOut : ℕ → ℕ → List ℕ → Type 0
IsOut k low [] = Unit {0}
IsOut k low (x ∷ xs) = (x < low) ⊎ (low + k ≤ x)

-- The text after an item doesn't go on with it.
abbrev pub IsNumberEnded : Bool → Padding → List ℕ → Type 0
IsNumberEnded true p text = IsOut 10 48 text
IsNumberEnded false padding.None text = IsOut 10 48 text
IsNumberEnded false _ text = Unit {0}

abbrev pub IsWhiteEnded : Bool → List ℕ → Type 0
IsWhiteEnded true text = IsOut 5 9 text × IsOut 1 32 text
IsWhiteEnded false text = Unit {0}

abbrev pub IsLenientlyEnded : Item → List ℕ → Type 0
IsLenientlyEnded (item.Literal b) text = IsWhiteEnded (is_space b) text
IsLenientlyEnded (item.Number c p) text = IsNumberEnded (is_free c) p text
IsLenientlyEnded (item.Signed c p) text = IsNumberEnded false p text
IsLenientlyEnded (item.Name k) text = IsOut 26 65 text × IsOut 26 97 text
IsLenientlyEnded item.Fraction text = IsOut 10 48 text × IsOut 1 46 text
IsLenientlyEnded item.Decimals text = IsOut 10 48 text
IsLenientlyEnded item.OffsetMinus text = IsOut 1 45 text
IsLenientlyEnded item.TimestampMinus text = IsOut 1 45 text
IsLenientlyEnded _ text = Unit {0}

-- ---- two-digit years
-- With a pivot the century is known, too, as if the format showed it first.
abbrev pub century : Item
century = item.Number Century padding.Zero

abbrev pub known_items : Option ℕ → List Item → List Item
known_items None items = items
known_items (Some pivot) items = century ∷ items

-- The items show the last two digits of the year, and neither the year nor the century.
abbrev pub lacks_century : List Item → Bool
lacks_century items = any_shows YearOfCentury items && not (any_shows Year items || any_shows Century items)

-- A pivot is at most 9900, and belongs to a format that lacks the century.
abbrev pub PivotFits : Option ℕ → List Item → Type 0
PivotFits None items = Unit {0}
PivotFits (Some pivot) items = (pivot ≤ 9_900) × IsTrue (lacks_century items) × (length items < 64)

-- The year is one of the 100 years from the pivot on.
abbrev pub InWindow : Option ℕ → Moment → Type 0
InWindow None v = Unit {0}
InWindow (Some pivot) v = (pivot ≤ number Year v) × (number Year v < pivot + 100)

-- The text is a variant of what the items print with these numbers. With a pivot the first number is
-- the century of a year within the window.
abbrev pub HasKnown : Option ℕ → List Item → List ℕ → List ℕ → Type 0
HasKnown None items numbers text = HasVariants false items numbers text
HasKnown (Some pivot) items [] text = ⊥
HasKnown (Some pivot) items (c ∷ numbers) text =
    HasVariants false items numbers text
    × (pivot ≤ c * 100 + number_in items numbers YearOfCentury) × (c * 100 + number_in items numbers YearOfCentury < pivot + 100)

-- ---- parsing
-- The format can be read leniently: no two values have the same text.
pub record CanRead (f : LenientFormat) : Type 0 where
  pub apart : IsTrue (are_leniently_apart f.format)
  pub pivot : PivotFits f.pivot f.format

abbrev pub items_of : LenientFormat → List Item
items_of f = known_items f.pivot f.format

abbrev pub ReadsDates : LenientFormat → Type 0
ReadsDates f = CanRead f × DeterminesDate (items_of f)

abbrev pub ReadsTimes : LenientFormat → Type 0
ReadsTimes f = CanRead f × DeterminesTime (items_of f)

abbrev pub ReadsDateTimes : LenientFormat → Type 0
ReadsDateTimes f = CanRead f × DeterminesDateTime (items_of f)

abbrev pub ReadsOffsetDateTimes : LenientFormat → Type 0
ReadsOffsetDateTimes f = CanRead f × DeterminesOffsetDateTime (items_of f)

-- The format holds the moment, its year is within the window, and the text is a variant of what the
-- format prints of the moment.
pub record IsRead (f : LenientFormat) (v : Moment) (text : List ℕ) : Type 0 where
  pub numbers : AreHeld v (items_of f)
  pub window : InWindow f.pivot v
  pub parts : IsTrue (holds_time f.format v.time)
  pub offset_parts : IsTrue (holds_offset f.format v.offset)
  pub variant : HasVariants false f.format (numbers_of f.format v) text

-- If the text is no variant, the error names a position. Otherwise it is an error of the numbers.
abbrev pub IsLenientRejection : LenientFormat → List ℕ → ParseError → Type 0
IsLenientRejection f text (UnexpectedByte p) = (p < length text) × ((numbers : List ℕ) → ¬ HasKnown f.pivot f.format numbers text)
IsLenientRejection f text (UnexpectedEnd p) = (p ≡ length text) × ((numbers : List ℕ) → ¬ HasKnown f.pivot f.format numbers text)
IsLenientRejection f text e = (numbers : List ℕ) × HasKnown f.pivot f.format numbers text × IsNumberRejection (items_of f) numbers e
