-- Texts of a format with the names of a table.
use Rattle.std.specs.Prelude.{◌≡◌, ℕ, ◌-◌, List, [], ◌∷◌, ◌++◌, get_or}
use Rattle.std.specs.List.{flat_map}
use Rattle.cal_text.specs.Shape.{Shape, End, unmatched_bytes}
use Rattle.cal_format.specs.declared.item.Item.{Item}
use Rattle.cal_format.specs.declared.item.Item.TheVariants as item
use Rattle.cal_format.specs.declared.item.Name.{Name}
use Rattle.cal_format.specs.declared.item.Name.TheVariants as name
use Rattle.cal_format.specs.declared.moment.Moment.{Moment}
use Rattle.cal_format.specs.Form.{ItemShape, numbered_item}
use Rattle.cal_format.specs.Moment.{number}
use Rattle.cal_format.specs.Reading.{name_component}
use Rattle.cal_format.specs.Text.{item_text}
use Rattle.cal_names.specs.Apart.{texts}
use Rattle.cal_names.specs.declared.names.Names.{Names}
use Rattle.cal_names.specs.NameShape.{TableShape}

-- The table of a kind of name, and the number of its names.
abbrev pub table_of : Names → Name → List (List ℕ)
table_of t name.Month = texts t.months
table_of t name.MonthAlone = texts t.months_alone
table_of t name.ShortMonth = texts t.short_months
table_of t name.Weekday = texts t.weekdays
table_of t name.ShortWeekday = texts t.short_weekdays
table_of t name.Period = texts t.periods
table_of t name.LowerPeriod = texts t.lower_periods

abbrev pub count_of : Name → ℕ
count_of name.Month = 12
count_of name.MonthAlone = 12
count_of name.ShortMonth = 12
count_of name.Weekday = 7
count_of name.ShortWeekday = 7
count_of name.Period = 2
count_of name.LowerPeriod = 2

-- Months and weekdays are numbered from 1, and halves of the day from 0.
abbrev pub first_number : Name → ℕ
first_number name.Period = 0
first_number name.LowerPeriod = 0
first_number _ = 1

-- The name with a number.
abbrev pub name_in : Names → Name → ℕ → List ℕ
name_in t k n = get_or (table_of t k) (n - first_number k) []

-- An item prints what it prints in English, and a name of the table in place of the English name.
abbrev pub item_text_in : Names → Moment → Item → List ℕ
item_text_in t v (item.Name k) = name_in t k (number (name_component k) v)
item_text_in t v i = item_text [] v i

abbrev pub text_in : Names → List Item → Moment → List ℕ
text_in t items v = flat_map (item_text_in t v) items

-- The same of items with these numbers, one for each item.
abbrev pub numbered_item_in : Names → Item → ℕ → List ℕ
numbered_item_in t (item.Name k) n = name_in t k n
numbered_item_in t i n = numbered_item i n

abbrev pub numbered_text_in : Names → List Item → List ℕ → List ℕ
numbered_text_in t [] numbers = []
numbered_text_in t (i ∷ items) [] = []
numbered_text_in t (i ∷ items) (n ∷ numbers) = numbered_item_in t i n ++ numbered_text_in t items numbers

-- The bytes that an item can print, and the form of the texts of items.
abbrev pub item_shape_in : Names → Item → Shape → Shape
item_shape_in t (item.Name k) f = TableShape (table_of t k) f
item_shape_in t i f = ItemShape i f

abbrev pub shape_in : Names → List Item → Shape
shape_in t [] = End
shape_in t (i ∷ items) = item_shape_in t i (shape_in t items)

abbrev pub HasFormIn : Names → List Item → List ℕ → Type 0
HasFormIn t items text = unmatched_bytes (shape_in t items) text ≡ 0

-- A text of the items can begin with the byte b.
abbrev pub CanBegin : Names → List Item → ℕ → Type 0
CanBegin t items b = (rest : List ℕ) × HasFormIn t items (b ∷ rest)
