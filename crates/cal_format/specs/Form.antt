-- The form of the texts of a format: its literals, and digits and names for its components,
-- whatever their numbers are.
use Rattle.std.specs.Prelude.{◌≡◌, ℕ, zero, suc, ◌+◌, ◌-◌, ◌<◌, ◌≤◌, ◌^◌, ◌==◌, ◌++◌, Bool, true, false, List, [], ◌∷◌, length, codes, Option, None, Some, if◌then◌else◌}
use Rattle.std.specs.Str.Parse.{AllDigits}
use Rattle.cal_text.specs.Shape.{Shape, End, ByteRange, Branch, Byte, Digits, Sign, Number, unmatched_bytes, decimals_value}
use Rattle.cal_time.specs.Digits.{without_trailing_zeros, decimals}
use Rattle.cal_time.specs.Month.{month_of_index}
use Rattle.cal_time.specs.Weekday.{weekday_of_index}
use Rattle.cal_time.specs.Month as month
use Rattle.cal_time.specs.Weekday as weekday
use Rattle.cal_format.specs.declared.item.Item.{Item}
use Rattle.cal_format.specs.declared.item.Item.TheVariants as item
use Rattle.cal_format.specs.declared.item.Name.{Name}
use Rattle.cal_format.specs.declared.item.Name.TheVariants as name
use Rattle.cal_format.specs.declared.item.Padding.{Padding}
use Rattle.cal_format.specs.declared.item.Padding.TheVariants as padding
use Rattle.cal_format.specs.declared.item.Component.{Component}
use Rattle.cal_format.specs.declared.moment.Moment.{Moment}
use Rattle.cal_format.specs.Moment.{number, width, width_of}
use Rattle.cal_format.specs.Names.{short_month, short_weekday}
use Rattle.cal_format.specs.Reading.{item_component}
use Rattle.cal_format.specs.Text.{padded, fraction_text}

-- ---- numbers
-- Spaces and a number without leading zeros, one byte more than this many in all.
abbrev pub AfterSpaces : ℕ → Shape → Shape
AfterSpaces zero f = Digits 1 f
AfterSpaces (suc k) f = Branch 32 0 (AfterSpaces k f) (ByteRange 49 8 (Digits (suc k) f))

-- A number without leading zeros, of at most one digit more than this many.
abbrev pub Decimal : ℕ → Shape → Shape
Decimal more f = Branch 48 0 f (Number more f)

-- A number of the width w: with zeros or spaces before it, or of at most w digits without padding.
abbrev pub Padded : Padding → ℕ → Shape → Shape
Padded padding.Zero w f = Digits w f
Padded padding.Space w f = AfterSpaces (w - 1) f
Padded padding.None w f = Decimal (w - 1) f

-- At most one digit more than this many, the last of which isn't 0. There may be none if the digits
-- may end.
abbrev pub Decimals : Bool → ℕ → Shape → Shape
Decimals false zero f = ByteRange 49 8 f
Decimals true zero f = Branch 49 8 f f
Decimals false (suc k) f = Branch 49 8 (Decimals true k f) (Byte 48 (Decimals false k f))
Decimals true (suc k) f = Branch 49 8 (Decimals true k f) (Branch 48 0 (Decimals false k f) f)

-- The parser went past at most more + 1 digits, the last of which isn't 0, with the value n. There
-- may be none if the digits may end.
pub record ParsesDecimals (old new : List ℕ) (may_end : Bool) (more unit n : ℕ) : Type 0 where
  pub digits : List ℕ
  pub all : AllDigits 10 digits
  pub few : length digits ≤ more + 1
  pub last : without_trailing_zeros digits ≡ digits
  pub some : may_end ≡ false → 0 < length digits
  pub value : decimals_value unit digits ≡ n
  pub bytes_are : old ≡ digits ++ new

-- ---- names
-- The bytes of a word.
abbrev pub Word : List ℕ → Shape → Shape
Word [] f = f
Word (b ∷ bytes) f = Byte b (Word bytes f)

-- Letters of a name, and the other letters of the name if it is long.
abbrev pub Letters : List ℕ → List ℕ → Bool → Shape → Shape
Letters letters others long f = Word letters (if long then Word others f else f)

-- The English name of a month, or its first three letters.
unfoldable pub MonthName : Bool → Shape → Shape
MonthName long f =
    Branch 74 0 (Branch 97 0 (Letters (codes "n") (codes "uary") long f) (Byte 117 (Branch 110 0 (Letters [] (codes "e") long f) (Byte 108 (Letters [] (codes "y") long f)))))
    (Branch 77 0 (Byte 97 (Branch 114 0 (Letters [] (codes "ch") long f) (Letters (codes "y") [] long f)))
    (Branch 65 0 (Branch 112 0 (Letters (codes "r") (codes "il") long f) (Letters (codes "ug") (codes "ust") long f))
    (Branch 70 0 (Letters (codes "eb") (codes "ruary") long f)
    (Branch 83 0 (Letters (codes "ep") (codes "tember") long f)
    (Branch 79 0 (Letters (codes "ct") (codes "ober") long f)
    (Branch 78 0 (Letters (codes "ov") (codes "ember") long f) (Byte 68 (Letters (codes "ec") (codes "ember") long f))))))))

-- The English name of a weekday, or its first three letters.
unfoldable pub WeekdayName : Bool → Shape → Shape
WeekdayName long f =
    Branch 77 0 (Letters (codes "on") (codes "day") long f)
    (Branch 84 0 (Branch 117 0 (Letters (codes "e") (codes "sday") long f) (Letters (codes "hu") (codes "rsday") long f))
    (Branch 87 0 (Letters (codes "ed") (codes "nesday") long f)
    (Branch 70 0 (Letters (codes "ri") (codes "day") long f)
    (Byte 83 (Branch 97 0 (Letters (codes "t") (codes "urday") long f) (Letters (codes "un") (codes "day") long f))))))

-- Two letters, of which the first is one of two.
abbrev pub TwoLetters : ℕ → ℕ → ℕ → Shape → Shape
TwoLetters first other last f = Branch first 0 (Byte last f) (Byte other (Byte last f))

-- AM or PM, in upper or lower case.
unfoldable pub PeriodName : Bool → Shape → Shape
PeriodName true f = TwoLetters 65 80 77 f
PeriodName false f = TwoLetters 97 112 109 f

-- A name of this kind.
abbrev pub NameShape : Name → Shape → Shape
NameShape name.Month f = MonthName true f
NameShape name.MonthAlone f = MonthName true f
NameShape name.ShortMonth f = MonthName false f
NameShape name.Weekday f = WeekdayName true f
NameShape name.ShortWeekday f = WeekdayName false f
NameShape name.Period f = PeriodName true f
NameShape name.LowerPeriod f = PeriodName false f

-- ---- items
-- The bytes that an item can print.
abbrev pub ItemShape : Item → Shape → Shape
ItemShape (item.Literal b) f = Byte b f
ItemShape (item.Number c p) f = Padded p (width_of p c) f
ItemShape (item.Signed c p) f = Byte 43 (Padded p (width_of p c) f)
ItemShape (item.Name k) f = NameShape k f
ItemShape item.Fraction f = Branch 46 0 (Decimals false 8 f) f
ItemShape item.Decimals f = ByteRange 48 9 (Decimals true 7 f)
ItemShape item.OffsetSign f = Sign f
ItemShape item.OffsetMinus f = Branch 45 0 f f
ItemShape item.TimestampSign f = Sign f
ItemShape item.TimestampMinus f = Branch 45 0 f f
ItemShape item.Abbreviation f = f

-- The shape of the items, one after the other. A text has the form of the items if it has this
-- shape.
abbrev pub shape_of : List Item → Shape
shape_of [] = End
shape_of (i ∷ items) = ItemShape i (shape_of items)

abbrev pub HasForm : List Item → List ℕ → Type 0
HasForm items text = unmatched_bytes (shape_of items) text ≡ 0

-- ---- the numbers of a text
-- The name with a number. Months and weekdays are numbered from 1, AM is 0, and PM is 1.
abbrev pub month_text : Bool → ℕ → List ℕ
month_text long n = if long then month.name (month_of_index (n - 1)) else short_month (month_of_index (n - 1))

abbrev pub weekday_text : Bool → ℕ → List ℕ
weekday_text long n = if long then weekday.name (weekday_of_index (n - 1)) else short_weekday (weekday_of_index (n - 1))

abbrev pub period_text : Bool → ℕ → List ℕ
period_text true n = if n == 0 then codes "AM" else codes "PM"
period_text false n = if n == 0 then codes "am" else codes "pm"

abbrev pub numbered_name : Name → ℕ → List ℕ
numbered_name name.Month n = month_text true n
numbered_name name.MonthAlone n = month_text true n
numbered_name name.ShortMonth n = month_text false n
numbered_name name.Weekday n = weekday_text true n
numbered_name name.ShortWeekday n = weekday_text false n
numbered_name name.Period n = period_text true n
numbered_name name.LowerPeriod n = period_text false n

-- The text of an item with the number n.
abbrev pub numbered_item : Item → ℕ → List ℕ
numbered_item (item.Literal b) n = b ∷ []
numbered_item (item.Number c p) n = padded p (width c) n
numbered_item (item.Signed c p) n = 43 ∷ padded p (width c) n
numbered_item (item.Name k) n = numbered_name k n
numbered_item item.Fraction n = fraction_text n
numbered_item item.Decimals n = decimals n
numbered_item item.OffsetSign n = if n == 1 then codes "-" else codes "+"
numbered_item item.OffsetMinus n = if n == 1 then codes "-" else []
numbered_item item.TimestampSign n = if n == 1 then codes "-" else codes "+"
numbered_item item.TimestampMinus n = if n == 1 then codes "-" else []
numbered_item item.Abbreviation n = []

-- The text of items with these numbers, one for each item.
abbrev pub numbered_text : List Item → List ℕ → List ℕ
numbered_text [] numbers = []
numbered_text (i ∷ items) [] = []
numbered_text (i ∷ items) (n ∷ numbers) = numbered_item i n ++ numbered_text items numbers

-- A number that a name can have.
abbrev pub IsNameNumber : Name → ℕ → Type 0
IsNameNumber name.Month n = (1 ≤ n) × (n ≤ 12)
IsNameNumber name.MonthAlone n = (1 ≤ n) × (n ≤ 12)
IsNameNumber name.ShortMonth n = (1 ≤ n) × (n ≤ 12)
IsNameNumber name.Weekday n = (1 ≤ n) × (n ≤ 7)
IsNameNumber name.ShortWeekday n = (1 ≤ n) × (n ≤ 7)
IsNameNumber name.Period n = n < 2
IsNameNumber name.LowerPeriod n = n < 2

-- A number that an item can have: of at most its digits, of a name, 0 or 1 for a sign, or 0 for an
-- item that shows no component. In a list, each item has one number.
abbrev pub IsNumber : Item → ℕ → Type 0
IsNumber (item.Literal b) n = n ≡ 0
IsNumber (item.Number c p) n = n < 10 ^ width_of p c
IsNumber (item.Signed c p) n = n < 10 ^ width_of p c
IsNumber (item.Name k) n = IsNameNumber k n
IsNumber item.Fraction n = n < 1_000_000_000
IsNumber item.Decimals n = n < 1_000_000_000
IsNumber item.OffsetSign n = n < 2
IsNumber item.OffsetMinus n = n < 2
IsNumber item.TimestampSign n = n < 2
IsNumber item.TimestampMinus n = n < 2
IsNumber item.Abbreviation n = n ≡ 0

abbrev pub AreNumbers : List Item → List ℕ → Type 0
AreNumbers [] [] = Unit {0}
AreNumbers [] (n ∷ numbers) = ⊥
AreNumbers (i ∷ items) [] = ⊥
AreNumbers (i ∷ items) (n ∷ numbers) = IsNumber i n × AreNumbers items numbers

-- The text has these numbers for the items.
pub record HasNumbers (items : List Item) (numbers text : List ℕ) : Type 0 where
  pub fit : AreNumbers items numbers
  pub text_is : text ≡ numbered_text items numbers

-- The numbers that the items show of a moment, and 0 for an item that shows no component.
abbrev pub component_number : Moment → Option Component → ℕ
component_number v None = 0
component_number v (Some c) = number c v

abbrev pub item_number : Moment → Item → ℕ
item_number v i = component_number v (item_component i)

abbrev pub numbers_of : List Item → Moment → List ℕ
numbers_of [] v = []
numbers_of (i ∷ items) v = item_number v i ∷ numbers_of items v
