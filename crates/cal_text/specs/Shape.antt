-- Shapes: the bytes that can follow each other. A parser is proved against the shape of its form.
use Rattle.std.specs.Prelude.{◌≡◌, ℕ, zero, suc, ◌+◌, ◌*◌, ◌/◌, ◌<◌, ◌≤◌, nat_le, ◌&&◌, List, [], ◌∷◌, ◌++◌, length, Option, MatchOption, if◌then◌else◌}
use Rattle.std.specs.Char.{digit_value}
use Rattle.std.specs.Str.Parse.{AllDigits, digits_value, digits_value_after}

-- A shape is the end of the text, or a byte from `low` to `low + above` and then a shape, or a
-- branch: the first shape after such a byte, else the second shape.
pub data Shape : Type 0 where
  End : Shape
  ByteRange : (low above : ℕ) → Shape → Shape
  Branch : (low above : ℕ) → Shape → Shape → Shape

-- `unmatched_bytes f bytes` is 0 if the bytes have the shape f. Otherwise it is 1 plus the number
-- of bytes from the position on at which they stop matching f.
unfoldable pub unmatched_bytes : Shape → List ℕ → ℕ
unmatched_bytes End [] = 0
unmatched_bytes End (x ∷ xs) = suc (length (x ∷ xs))
unmatched_bytes (ByteRange low above f) [] = 1
unmatched_bytes (ByteRange low above f) (x ∷ xs) = if nat_le low x && nat_le x (low + above) then unmatched_bytes f xs else suc (length (x ∷ xs))
unmatched_bytes (Branch low above f g) [] = unmatched_bytes g []
unmatched_bytes (Branch low above f g) (x ∷ xs) = if nat_le low x && nat_le x (low + above) then unmatched_bytes f xs else unmatched_bytes g (x ∷ xs)

-- ---- parsers, which go from the old list to the new list, or stop at the new list
-- The parser goes past a part of a shape: whatever shape f comes after the part, the new list has
-- as many bytes unmatched by f as the old list by the whole. Without a result, the old list stops
-- matching at the new list.
abbrev pub Scans : {V : Type 0} → (Shape → Shape) → List ℕ → List ℕ → Option V → Type 0
Scans part old new r = MatchOption r ((f : Shape) → unmatched_bytes (part f) old ≡ suc (length new)) (λ _. (f : Shape) → unmatched_bytes (part f) old ≡ unmatched_bytes f new)

-- The parser goes past the byte of a branch to the first shape. Without a result it goes past
-- nothing, to the second shape.
abbrev pub Branches : {V : Type 0} → ℕ → ℕ → List ℕ → List ℕ → Option V → Type 0
Branches low above old new r =
    MatchOption r ((f g : Shape) → unmatched_bytes (Branch low above f g) old ≡ unmatched_bytes g new) (λ _. (f g : Shape) → unmatched_bytes (Branch low above f g) old ≡ unmatched_bytes f new)

-- The parser goes past a whole shape, up to the end. Without a result, the old list stops matching
-- at the new list.
abbrev pub ScansWhole : {V : Type 0} → Shape → List ℕ → List ℕ → Option V → Type 0
ScansWhole f old new r = MatchOption r (unmatched_bytes f old ≡ suc (length new)) (λ _. unmatched_bytes f old ≡ 0)

-- The parser went past bytes of this kind.
pub record GoesPast (Is : List ℕ → Type 0) (old new : List ℕ) : Type 0 where
  pub front : List ℕ
  pub is : Is front
  pub bytes_are : old ≡ front ++ new

-- The parser went past `count` digits, which spell n.
pub record ParsesDigits (old new : List ℕ) (count n : ℕ) : Type 0 where
  pub digits : List ℕ
  pub all : AllDigits 10 digits
  pub count_is : length digits ≡ count
  pub value : digits_value 10 digits ≡ n
  pub bytes_are : old ≡ digits ++ new

-- The parser went past at most `most` digits. The digits of `before` and these digits spell n.
pub record ParsesMoreDigits (old new : List ℕ) (most before n : ℕ) : Type 0 where
  pub digits : List ℕ
  pub all : AllDigits 10 digits
  pub few : length digits ≤ most
  pub value : digits_value_after 10 before digits ≡ n
  pub bytes_are : old ≡ digits ++ new

-- The value of digits after a point. The first counts `unit`, each later one a tenth of the digit
-- before it.
abbrev pub decimals_value : ℕ → List ℕ → ℕ
decimals_value unit [] = 0
decimals_value unit (x ∷ xs) = digit_value x * unit + decimals_value (unit / 10) xs

-- The parser went past at most `most` digits after a point. Their value plus `before` is n.
pub record ParsesDecimals (old new : List ℕ) (most unit before n : ℕ) : Type 0 where
  pub digits : List ℕ
  pub all : AllDigits 10 digits
  pub few : length digits ≤ most
  pub value : before + decimals_value unit digits ≡ n
  pub bytes_are : old ≡ digits ++ new

-- The parser went past at most more + 1 digits after a point, with the value n. They are not all 0.
pub record ParsesPositiveDecimals (old new : List ℕ) (more unit n : ℕ) : Type 0 where
  pub decimals : ParsesDecimals old new (more + 1) unit 0 n
  pub some : 0 < digits_value 10 decimals.digits

-- ---- parts
-- The byte b.
abbrev pub Byte : ℕ → Shape → Shape
Byte b f = ByteRange b 0 f

-- This many digits.
abbrev pub Digits : ℕ → Shape → Shape
Digits zero f = f
Digits (suc k) f = ByteRange 48 9 (Digits k f)

-- A plus sign or a minus sign.
abbrev pub Sign : Shape → Shape
Sign f = Branch 43 0 f (Byte 45 f)

-- At most this many digits, if f doesn't begin with a digit.
abbrev pub UpTo : ℕ → Shape → Shape
UpTo zero f = f
UpTo (suc k) f = Branch 48 9 (UpTo k f) f

-- One digit more than this many, not all of them 0.
abbrev pub SomeDigits : ℕ → Shape → Shape
SomeDigits zero f = ByteRange 49 8 f
SomeDigits (suc k) f = Branch 49 8 (Digits (suc k) f) (Byte 48 (SomeDigits k f))

-- At most one digit more than this many, not all of them 0.
abbrev pub SomeUpTo : ℕ → Shape → Shape
SomeUpTo zero f = ByteRange 49 8 f
SomeUpTo (suc k) f = Branch 49 8 (UpTo (suc k) f) (Byte 48 (SomeUpTo k f))

-- A number above 0 of at most more + 1 digits, without leading zeros.
abbrev pub Number : ℕ → Shape → Shape
Number more f = ByteRange 49 8 (UpTo more f)

-- A fraction of a second: nothing, or a point and at most more + 1 digits.
abbrev pub Fraction : ℕ → Shape → Shape
Fraction more f = Branch 46 0 (ByteRange 48 9 (UpTo more f)) f

-- ---- a year and the hyphen after it
-- k digits, at most `more` further digits, and a hyphen.
abbrev pub DigitsAtLeast : ℕ → ℕ → Shape → Shape
DigitsAtLeast k more f = Digits k (UpTo more (Byte 45 f))

-- A year above 9999 without its sign.
abbrev pub YearAfterPlus : Shape → Shape
YearAfterPlus f = ByteRange 49 8 (DigitsAtLeast 4 4 f)

-- A zero and three digits that are not all 0.
abbrev pub ZeroAndThree : Shape → Shape
ZeroAndThree f = Byte 48 (SomeDigits 2 f)

-- A negative year without its sign.
abbrev pub YearAfterMinus : Shape → Shape
YearAfterMinus f = Branch 49 8 (DigitsAtLeast 3 5 f) (ZeroAndThree (Byte 45 f))

-- A negative year, or a year from 0 to 9999.
abbrev pub Unsigned : Shape → Shape
Unsigned f = Branch 45 0 (YearAfterMinus f) (DigitsAtLeast 4 0 f)

-- Any year, and the hyphen after it.
abbrev pub Year : Shape → Shape
Year f = Branch 43 0 (YearAfterPlus f) (Unsigned f)

-- ---- forms
-- A week and a weekday.
abbrev pub WeekDate : Shape → Shape
WeekDate f = Digits 2 (Byte 45 (ByteRange 49 6 f))

-- A month and a day of the month, or an ordinal.
abbrev pub MonthOrOrdinal : Shape → Shape
MonthOrOrdinal f = Digits 2 (Branch 45 0 (Digits 2 f) (Digits 1 f))

-- The bytes after a year: W, a week and a weekday, or a month and a day, or an ordinal.
abbrev pub AfterYear : Shape → Shape
AfterYear f = Branch 87 0 (WeekDate f) (MonthOrOrdinal f)

-- A calendar, ordinal or week date.
abbrev pub Date : Shape → Shape
Date f = Year (AfterYear f)

-- The same at the end of a text.
abbrev pub after_year : Shape
after_year = AfterYear End

abbrev pub date : Shape
date = Date End

-- Zero, or a number above 0 of at most nine digits without leading zeros.
abbrev pub natural : Shape
natural = Branch 48 0 End (Number 8 End)

-- The letter J and a number of at most nine digits, with a minus sign if it is negative.
abbrev pub julian_day : Shape
julian_day = Byte 74 (Branch 45 0 (Number 8 End) natural)

-- Seconds from 1 on, and a fraction.
abbrev pub from_one : Shape
from_one = Number 17 (Fraction 8 End)

-- Seconds and a fraction.
abbrev pub seconds : Shape
seconds = Branch 48 0 (Fraction 8 End) from_one

-- Seconds and a fraction that are not both 0.
abbrev pub seconds_above_0 : Shape
seconds_above_0 = Branch 48 0 (Byte 46 (SomeUpTo 8 End)) from_one

-- An @, a minus sign if the time is negative, seconds and a fraction.
abbrev pub unix_time : Shape
unix_time = Byte 64 (Branch 45 0 seconds_above_0 seconds)

-- ---- a time of day
-- One or two digits of the hour.
abbrev pub Hour : Shape → Shape
Hour f = Digits 1 (UpTo 1 f)

-- Nothing, or a colon, a second, and a fraction of at most nine digits.
abbrev pub AfterMinute : Shape → Shape
AfterMinute f = Branch 58 0 (Digits 2 (Fraction 8 f)) f

-- An hour, a minute, and optionally a second.
abbrev pub Time : Shape → Shape
Time f = Hour (Byte 58 (Digits 2 (AfterMinute f)))

-- A time of day alone.
abbrev pub time : Shape
time = Time End

-- ---- a moment
-- T, t or a space.
abbrev pub Separator : Shape → Shape
Separator f = Branch 84 0 f (Branch 116 0 f (Byte 32 f))

-- A date, a separator, and a time of day.
abbrev pub Plain : Shape → Shape
Plain f = Date (Separator (Time f))

-- The same at the end of a text.
abbrev pub plain : Shape
plain = Plain End

-- Two numbers of two digits, each after the byte b.
abbrev pub TwoNumbers : ℕ → Shape → Shape
TwoNumbers b f = Byte b (Digits 2 (Byte b (Digits 2 f)))

-- Two digits of the hours, a colon, and two digits of the minutes.
abbrev pub offset_digits : Shape
offset_digits = Digits 2 (Byte 58 (Digits 2 End))

-- A sign, hours and minutes.
abbrev pub signed_offset : Shape
signed_offset = Sign offset_digits

-- An offset: Z, z, or a sign, hours and minutes.
abbrev pub time_offset : Shape
time_offset = Branch 90 0 End (Branch 122 0 End signed_offset)

-- A date, a separator, and a time of day to the second.
abbrev pub ToSeconds : Shape → Shape
ToSeconds f = Digits 4 (TwoNumbers 45 (Separator (Digits 2 (TwoNumbers 58 f))))

-- A moment whose fraction has at most more + 1 digits.
abbrev pub moment : ℕ → Shape
moment more = ToSeconds (Fraction more time_offset)

-- The fraction may have any length: the parser goes past the shape of each number that is at least
-- the length of the text.
abbrev pub ScansLarge : {V : Type 0} → (ℕ → Shape) → List ℕ → List ℕ → Option V → Type 0
ScansLarge f old new r = (more : ℕ) → length old ≤ more → ScansWhole (f more) old new r

-- ---- an offset
-- The bytes after the hours and the minutes: none, or a colon and seconds.
abbrev pub after_minutes : Shape
after_minutes = Branch 58 0 (Digits 2 End) End

-- A sign, hours and minutes, and optionally seconds.
abbrev pub signed_numbers : Shape
signed_numbers = Sign (Digits 2 (Byte 58 (Digits 2 after_minutes)))

-- Z, z, or a sign and numbers.
abbrev pub offset : Shape
offset = Branch 90 0 End (Branch 122 0 End signed_numbers)

-- An optional space, and an offset.
abbrev pub spaced_offset : Shape
spaced_offset = Branch 32 0 offset offset

-- A date-time, an optional space, and an offset.
abbrev pub offset_date_time : Shape
offset_date_time = Plain spaced_offset
