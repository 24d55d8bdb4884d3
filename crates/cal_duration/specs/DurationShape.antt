-- The shapes of durations whose numbers have at most more + 1 digits. A text has no longer numbers
-- if it is no longer than `more`.
use Rattle.std.specs.Prelude.{◌≡◌, ℕ, ◌≤◌, List, [], ◌∷◌, length, Option, MatchOption}
use Rattle.cal_text.specs.Shape.{Shape, End, ByteRange, Branch, Byte, UpTo, unmatched_bytes, Scans, ScansWhole}

-- A number.
abbrev pub AnyNumber : ℕ → Shape → Shape
AnyNumber more f = ByteRange 48 9 (UpTo more f)

-- The bytes after a number: one of the letters, and then further numbers with later letters, or
-- nothing before f; or the shape g.
abbrev pub After : ℕ → List ℕ → Shape → Shape → Shape
After more [] g f = g
After more (l ∷ ls) g f = Branch l 0 (Branch 48 9 (UpTo more (After more ls g f)) f) (After more ls g f)

-- The digits of a fraction, and the letter S.
abbrev pub Decimals : Shape → Shape
Decimals f = ByteRange 48 9 (UpTo 8 (Byte 83 f))

-- The bytes after the digits of the seconds.
abbrev pub SecondsEnd : Shape → Shape
SecondsEnd f = Branch 46 0 (Decimals f) (Branch 44 0 (Decimals f) (Byte 83 f))

-- Hours, minutes and seconds, at least one of them.
abbrev pub Time : ℕ → Shape → Shape
Time more f = AnyNumber more (After more (72 ∷ 77 ∷ []) (SecondsEnd f) f)

-- T and a time, or nothing.
abbrev pub OrTime : ℕ → Shape → Shape
OrTime more f = Branch 84 0 (Time more f) f

-- Years, months, weeks and days, at least one of them.
abbrev pub Date : ℕ → Shape → Shape
Date more f = AnyNumber more (After more (89 ∷ 77 ∷ 87 ∷ []) (Byte 68 f) f)

-- The bytes after the letter P.
abbrev pub Body : ℕ → Shape → Shape
Body more f = Branch 84 0 (Time more f) (Date more (OrTime more f))

-- A period.
abbrev pub Period : ℕ → Shape → Shape
Period more f = Branch 45 0 (Byte 80 (Body more f)) (Byte 80 (Body more f))

-- An exact duration.
abbrev pub Duration : ℕ → Shape → Shape
Duration more f = Branch 45 0 (Byte 80 (Byte 84 (Time more f))) (Byte 80 (Byte 84 (Time more f)))

-- ---- parsers, each for numbers as long as the text
-- The parser goes past a part of a shape.
abbrev pub ScansPart : {V : Type 0} → (ℕ → Shape → Shape) → List ℕ → List ℕ → Option V → Type 0
ScansPart part old new r = (more : ℕ) → length old ≤ more → Scans (part more) old new r

-- The parser goes past a shape up to the end.
abbrev pub ScansToEnd : {V : Type 0} → (ℕ → Shape → Shape) → List ℕ → List ℕ → Option V → Type 0
ScansToEnd part old new r = (more : ℕ) → length old ≤ more → ScansWhole (part more End) old new r

-- The parser goes past a number.
abbrev pub ScansNumber : {V : Type 0} → List ℕ → List ℕ → Option V → Type 0
ScansNumber old new r = ScansPart AnyNumber old new r

-- The parser goes past a number that may be left out. Without a result it goes past nothing, to the
-- second shape.
abbrev pub ScansOptional : {V : Type 0} → List ℕ → List ℕ → Option V → Type 0
ScansOptional old new r =
    (more : ℕ) → length old ≤ more → (f g : Shape)
    → MatchOption r (unmatched_bytes (Branch 48 9 (UpTo more f) g) old ≡ unmatched_bytes g new) (λ _. unmatched_bytes (Branch 48 9 (UpTo more f) g) old ≡ unmatched_bytes f new)

-- The parser goes past letters and further numbers. With a result, a number that is not followed by
-- one of the letters, it goes on to the shape g.
abbrev pub ScansAfter : {V : Type 0} → List ℕ → List ℕ → List ℕ → Option V → Type 0
ScansAfter letters old new r =
    (more : ℕ) → length old ≤ more → (f g : Shape)
    → MatchOption r (unmatched_bytes (After more letters g f) old ≡ unmatched_bytes f new) (λ _. unmatched_bytes (After more letters g f) old ≡ unmatched_bytes g new)
