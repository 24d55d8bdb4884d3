-- How a text spells a format, in one of two syntaxes.
use Rattle.std.specs.Prelude.{◌≡◌, ◌≢◌, ℕ, ◌+◌, ◌<◌, ◌≤◌, ◌==◌, List, [], ◌∷◌, ◌++◌, length, drop, nat_lt, if◌then◌else◌}
use Rattle.cal_format.specs.declared.item.Item.{Item}
use Rattle.cal_format.specs.declared.item.Item.TheVariants as item
use Rattle.cal_format.specs.declared.item.Syntax.{Syntax}
use Rattle.cal_format.specs.declared.item.Syntax.TheVariants.{Percent, Brackets}
use Rattle.cal_format.specs.declared.format.FormatError.{FormatError}
use Rattle.cal_format.specs.declared.format.FormatError.TheVariants.{UnknownItem, TooLong}
use Rattle.cal_format.specs.Directive.{Front, front_with, front_in, directives}
use Rattle.cal_format.specs.Description.{description_front}

-- A percent sign or an opening bracket comes before the spelling of items. Any other byte is a
-- literal.
abbrev pub escape : Syntax → ℕ
escape Percent = 37
escape Brackets = 91

-- The items of a text that begins with this byte, by the bytes after it.
abbrev pub spelled : Syntax → List ℕ → Front
spelled Percent rest = front_in directives rest
spelled Brackets rest = description_front rest

-- The spelling must lie within the text. Otherwise nothing is spelled.
abbrev pub within : List ℕ → Front → Front
within text f = if nat_lt (length text) f.used then front_with [] 1 else f

-- The items at the front of a text.
unfoldable pub front : Syntax → List ℕ → Front
front s [] = front_with [] 0
front s (x ∷ rest) = if x == escape s then within (x ∷ rest) (spelled s rest) else front_with (item.Literal x ∷ []) 1

-- A text spells items, and then comes the rest.
pub data Spells (s : Syntax) : List ℕ → List Item → List ℕ → Type 0 where
  nothing : (text : List ℕ) → Spells s text [] text
  more : (text : List ℕ) (others : List Item) (rest : List ℕ) → (front s text).items ≢ [] → Spells s (drop (front s text).used text) others rest → Spells s text ((front s text).items ++ others) rest

-- Why a text that begins at `at`, after `had` items, is not a format: after bytes that spell items,
-- at most 64 in all, the bytes from a position on spell no item; or there are more than 64 items.
abbrev pub IsFormatError : Syntax → ℕ → ℕ → List ℕ → FormatError → Type 0
IsFormatError s at had text (UnknownItem p) =
    (items : List Item) × (rest : List ℕ) × Spells s text items rest × (had + length items ≤ 64) × (rest ≢ []) × ((front s rest).items ≡ []) × (p + length rest ≡ at + length text)
IsFormatError s at had text TooLong = (items : List Item) × (rest : List ℕ) × Spells s text items rest × (64 < had + length items)
