-- Formats as numbers, and the results of making them.
use Rattle.std.specs.Prelude.{◌≡◌, ℕ, ◌+◌, ◌-◌, ◌≤◌, ℤ, List, [], ◌++◌, length, map, replicate, take}
use Rattle.std.specs.Str.{IsUtf8}
use Rattle.std.specs.Str.Lossy.{utf8_valid_len}
use Rattle.cal_format.specs.declared.format.FormatError.{FormatError}
use Rattle.cal_format.specs.declared.format.FormatError.TheVariants.{UnknownItem, TooLong}
use Rattle.cal_format.specs.declared.item.Item.{Item}
use Rattle.cal_format.specs.declared.item.Item.TheVariants as item
use Rattle.cal_format.specs.declared.item.Name.{Name}
use Rattle.cal_format.specs.declared.item.Name.TheVariants as name
use Rattle.cal_format.specs.declared.item.Padding.{Padding}
use Rattle.cal_format.specs.declared.item.Padding.TheVariants as padding
use Rattle.cal_format.specs.declared.item.Syntax.{Syntax}
use Rattle.cal_format.specs.Format.{Spells, IsFormatError}
use Rattle.cal_format.specs.Reading.{index}
use Rattle.cal_c.specs.declared.status.TheConstants.{OK, UNEXPECTED_BYTE, UNKNOWN_ITEM, TOO_MANY_ITEMS}
use Rattle.cal_c.specs.Texts.{no_position}
use Rattle.cal_c.specs.declared.formats.format_parts.FormatItem.{FormatItem}
use Rattle.cal_c.specs.declared.formats.format_parts.FormatParts.{FormatParts}
use Rattle.cal_c.specs.declared.formats.results.FormatResult.{FormatResult}

-- The kind of a number: 1 with zeros, 2 with spaces, 3 without padding.
abbrev pub padding_kind : Padding → ℕ
padding_kind padding.Zero = 1
padding_kind padding.Space = 2
padding_kind padding.None = 3

-- Names are numbered from 0, the name of the month.
abbrev pub name_number : Name → ℕ
name_number name.Month = 0
name_number name.ShortMonth = 1
name_number name.Weekday = 2
name_number name.ShortWeekday = 3
name_number name.Period = 4
name_number name.LowerPeriod = 5
name_number name.MonthAlone = 6

-- The kind of an item, and the number of what it shows.
abbrev pub parts : ℕ → ℕ → FormatItem
parts k n = record { kind = k; value = n }

abbrev pub item_parts : Item → FormatItem
item_parts (item.Literal b) = parts 0 b
item_parts (item.Number c p) = parts (padding_kind p) (index c)
item_parts (item.Name k) = parts 4 (name_number k)
item_parts item.Fraction = parts 5 0
item_parts item.OffsetSign = parts 6 0
item_parts item.TimestampMinus = parts 7 0
item_parts item.Decimals = parts 8 0
item_parts item.Abbreviation = parts 9 0
item_parts (item.Signed c p) = parts (9 + padding_kind p) (index c)
item_parts item.OffsetMinus = parts 13 0
item_parts item.TimestampSign = parts 14 0

-- The format has these items. The numbers after its length don't matter.
pub record HasItems (f : FormatParts) (items : List Item) : Type 0 where
  pub few : length items ≤ 64
  pub length_is : f.length ≡ length items
  pub items_are : take f.length f.items ≡ map item_parts items

-- Numbers that are a format.
abbrev pub IsFormat : FormatParts → Type 0
IsFormat f = (items : List Item) × HasItems f items

-- The format of items, filled with zeros, and numbers that are not a format.
abbrev pub format_of : List Item → FormatParts
format_of items = record { length = length items; items = map item_parts items ++ replicate (64 - length (map item_parts items)) (parts 0 0) }

abbrev pub no_format : FormatParts
no_format = record { length = 4_294_967_295; items = replicate 64 (parts 0 0) }

-- The results of making a format.
abbrev pub format_ok : List Item → FormatResult
format_ok items = record { status = OK; format = format_of items; position = no_position }

abbrev pub format_error_at : ℤ → ℕ → FormatResult
format_error_at s at = record { status = s; format = no_format; position = at }

abbrev pub format_error : FormatError → FormatResult
format_error (UnknownItem at) = format_error_at UNKNOWN_ITEM at
format_error TooLong = format_error_at TOO_MANY_ITEMS no_position

-- The bytes spell at most 64 items.
abbrev pub SpellsFormat : Syntax → List ℕ → List Item → Type 0
SpellsFormat s bytes items = Spells s bytes items [] × (length items ≤ 64)

-- The result is the format that a string spells. Else the string is not UTF-8 from a position on,
-- or no item begins at a position, or there are too many items.
pub record IsFormatOf (s : Syntax) (bytes : List ℕ) (r : FormatResult) : Type 0 where
  pub not_utf8 : (IsUtf8 bytes → ⊥) → r ≡ format_error_at UNEXPECTED_BYTE (utf8_valid_len bytes)
  pub value : IsUtf8 bytes → (items : List Item) → SpellsFormat s bytes items → r ≡ format_ok items
  pub fault : IsUtf8 bytes → (((items : List Item) × SpellsFormat s bytes items) → ⊥) → (e : FormatError) × IsFormatError s 0 0 bytes e × (r ≡ format_error e)
