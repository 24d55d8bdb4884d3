-- What holds of the items with some numbers.
use Rattle.std.specs.Prelude.{◌≡◌, ℕ, ◌+◌, List, [], ◌∷◌, ◌++◌, length, take, map, Bool, true, false, IsTrue}
use Rattle.cal_time.specs.DateText.{digits_at_least}
use Rattle.cal_format.specs.declared.fields.Fields.{Fields}
use Rattle.cal_format.specs.declared.item.Component.TheVariants.{IsoYear, IsoWeek, Weekday, Hour, Minute, Second}
use Rattle.cal_format.specs.declared.item.Item.{Item}
use Rattle.cal_format.specs.declared.item.Item.TheVariants.{Literal, Number}
use Rattle.cal_format.specs.declared.item.Padding.TheVariants.{Zero}
use Rattle.cal_format.specs.declared.moment.Moment.{Moment}
use Rattle.cal_format.specs.Reading.{ends_before, are_apart, shows_within, show_within}
use Rattle.cal_format.specs.Scanning.{HasField, HasFields}
use Rattle.cal_format.specs.Text.{item_text, text_of}
use Rattle.cal_c.specs.Formats.{item_parts, HasItems, IsFormat}
use Rattle.cal_c.specs.declared.formats.format_parts.FormatItem.{FormatItem}
use Rattle.cal_c.specs.declared.formats.format_parts.FormatParts.{FormatParts}

-- The numbers are an item, and P holds of it.
pub record IsItemOf (part : FormatItem) (P : Item → Type 0) : Type 0 where
  pub item : Item
  pub part_is : part ≡ item_parts item
  pub every : (i : Item) → part ≡ item_parts i → P i

-- The numbers are items, and P holds of them.
pub record AreItemsOf (parts : List FormatItem) (P : List Item → Type 0) : Type 0 where
  pub items : List Item
  pub parts_are : parts ≡ map item_parts items
  pub every : (others : List Item) → parts ≡ map item_parts others → P others

-- The numbers are a format, and P holds of its items.
pub record IsFormatOf (f : FormatParts) (P : List Item → Type 0) : Type 0 where
  pub format : IsFormat f
  pub every : (items : List Item) → HasItems f items → P items

-- An item was parsed at the front of a string, and the items after it can't continue it.
pub record ScansItem (old new : Fields) (text rest : List ℕ) (others : List FormatItem) (i : Item) : Type 0 where
  pub has : HasField i old new text rest
  pub apart : (items : List Item) → others ≡ map item_parts items → IsTrue (ends_before i items)

-- The same of items.
pub record ScansItems (old new : Fields) (text rest : List ℕ) (items : List Item) : Type 0 where
  pub has : HasFields items old new text rest
  pub apart : IsTrue (are_apart items)

-- An item shows only components of a range, and its string stands in the buffer between two
-- positions.
pub record PrintsItem (low high : ℕ) (v : Moment) (old new : List ℕ) (at end : ℕ) (i : Item) : Type 0 where
  pub within : IsTrue (shows_within low high i)
  pub text : take end new ≡ take at old ++ item_text [] v i
  pub end_is : end ≡ at + length (item_text [] v i)

-- The same of items.
pub record PrintsItems (low high : ℕ) (v : Moment) (old new : List ℕ) (at end : ℕ) (items : List Item) : Type 0 where
  pub within : IsTrue (show_within low high items)
  pub text : take end new ≡ take at old ++ text_of items v
  pub end_is : end ≡ at + length (text_of items v)

-- The items of an ISO 8601 week date, `%G-W%V-%u`.
abbrev pub week_items : List Item
week_items = Number IsoYear Zero ∷ Literal 45 ∷ Literal 87 ∷ Number IsoWeek Zero ∷ Literal 45 ∷ Number Weekday Zero ∷ []

-- The items of `%H:%M`, or of `%H:%M:%S` if the second is shown.
abbrev pub clock_items : Bool → List Item
clock_items false = Number Hour Zero ∷ Literal 58 ∷ Number Minute Zero ∷ []
clock_items true = Number Hour Zero ∷ Literal 58 ∷ Number Minute Zero ∷ Literal 58 ∷ Number Second Zero ∷ []

-- The text of the second after the minute.
abbrev pub second_text : Bool → ℕ → List ℕ
second_text false s = []
second_text true s = 58 ∷ digits_at_least 2 s
