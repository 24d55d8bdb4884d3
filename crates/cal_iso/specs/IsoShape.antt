-- The shapes of the forms of ISO 8601.
use Rattle.std.specs.Prelude.{◌≡◌, ℕ, zero, suc, ◌+◌, ◌^◌, Bool, true, false, List, length, Option, MatchOption}
use Rattle.cal_text.specs.Shape.{Shape, End, ByteRange, Branch, Byte, Digits, UpTo, Sign, Separator, unmatched_bytes}

-- ---- dates
-- A weekday after its hyphen, or none; and one without a hyphen, or none.
abbrev pub WeekdayAfterHyphen : Shape → Shape
WeekdayAfterHyphen f = Branch 45 0 (ByteRange 49 6 f) f

-- The bytes after a year and its hyphen.
abbrev pub AfterHyphen : Shape → Shape
AfterHyphen f = Branch 87 0 (Digits 2 (WeekdayAfterHyphen f)) (Digits 2 (Branch 45 0 (Digits 2 f) (Digits 1 f)))

-- The bytes after a year of the basic format.
abbrev pub BasicRest : Shape → Shape
BasicRest f = Branch 87 0 (Digits 2 (Branch 49 6 f f)) (Digits 2 (Digits 1 (Branch 48 9 f f)))

-- An expanded year without its sign, and the rest of the date.
abbrev pub Expanded : Shape → Shape
Expanded f = Digits 4 (UpTo 2 (Byte 45 (AfterHyphen f)))

-- A year of four digits, and the rest of the date.
abbrev pub FourDigits : Shape → Shape
FourDigits f = Digits 4 (Branch 45 0 (AfterHyphen f) (BasicRest f))

abbrev pub Date : Shape → Shape
Date f = Branch 43 0 (Expanded f) (Branch 45 0 (Expanded f) (FourDigits f))

-- ---- minutes and seconds
-- Zeros, at most this many.
abbrev pub Zeros : ℕ → Shape → Shape
Zeros zero f = f
Zeros (suc k) f = Branch 48 0 (Zeros k f) f

-- One to nine digits, and then at most this many zeros.
abbrev pub Decimals : ℕ → Shape → Shape
Decimals k f = Digits 1 (UpTo 8 (Zeros k f))

-- Nothing, or a point or a comma and decimals.
abbrev pub Fraction : ℕ → Shape → Shape
Fraction k f = Branch 46 0 (Decimals k f) (Branch 44 0 (Decimals k f) f)

-- The bytes after the seconds.
abbrev pub Tail : ℕ → Bool → Shape → Shape
Tail k true f = Fraction k f
Tail k false f = f

-- Seconds with a colon, or none; and without one, or none. The bytes after them have the shape `part`.
abbrev pub ColonAndSeconds : (Shape → Shape) → Shape → Shape
ColonAndSeconds part f = Branch 58 0 (Digits 2 (part f)) f

abbrev pub BasicSeconds : (Shape → Shape) → Shape → Shape
BasicSeconds part f = Branch 48 9 (Digits 1 (part f)) f

-- The bytes after an hour.
abbrev pub AfterHour : (Shape → Shape) → Shape → Shape
AfterHour part f = Branch 58 0 (Digits 2 (ColonAndSeconds part f)) (Branch 48 9 (Digits 1 (BasicSeconds part f)) f)

-- ---- times of day
abbrev pub Clock : ℕ → Shape → Shape
Clock k f = Digits 2 (AfterHour (Tail k true) f)

-- A time of day, perhaps after a T.
abbrev pub Time : ℕ → Shape → Shape
Time k f = Branch 84 0 (Clock k f) (Branch 116 0 (Clock k f) (Clock k f))

-- ---- offsets
abbrev pub Shift : Shape → Shape
Shift f = Sign (Digits 2 (AfterHour (λ g. g) f))

abbrev pub Offset : Shape → Shape
Offset f = Branch 90 0 f (Branch 122 0 f (Shift f))

abbrev pub SpacedOffset : Shape → Shape
SpacedOffset f = Branch 32 0 (Offset f) (Offset f)

-- ---- date-times
abbrev pub DateTime : ℕ → Shape → Shape
DateTime k f = Date (Separator (Clock k f))

-- A separator and a time of day, or none.
abbrev pub OrMidnight : ℕ → Shape → Shape
OrMidnight k f = Branch 84 0 (Clock k f) (Branch 116 0 (Clock k f) (Branch 32 0 (Clock k f) f))

abbrev pub Plain : ℕ → Shape → Shape
Plain k f = Date (OrMidnight k f)

abbrev pub Moment : ℕ → Shape → Shape
Moment k f = DateTime k (SpacedOffset f)

-- ---- parsers of a part with a fraction
-- More bytes than any string has.
unfoldable pub any_length : ℕ
any_length = 2 ^ 64

-- Like `Scans` and `ScansWhole`. A fraction can have any number of zeros, so the parser goes past
-- each shape that has room for at least as many.
abbrev pub ScansLong : {V : Type 0} → (ℕ → Shape → Shape) → List ℕ → List ℕ → Option V → Type 0
ScansLong part old new r =
    MatchOption r ((k : ℕ) (f : Shape) → unmatched_bytes (part (k + any_length) f) old ≡ suc (length new))
    (λ _. (k : ℕ) (f : Shape) → unmatched_bytes (part (k + any_length) f) old ≡ unmatched_bytes f new)

abbrev pub ScansWholeLong : {V : Type 0} → (ℕ → Shape → Shape) → List ℕ → List ℕ → Option V → Type 0
ScansWholeLong part old new r =
    MatchOption r ((k : ℕ) → unmatched_bytes (part (k + any_length) End) old ≡ suc (length new)) (λ _. (k : ℕ) → unmatched_bytes (part (k + any_length) End) old ≡ 0)
