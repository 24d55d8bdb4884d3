-- The shapes of intervals whose periods have numbers of at most more + 1 digits.
use Rattle.std.specs.Prelude.{ℕ}
use Rattle.cal_text.specs.Shape.{Shape, Branch, Byte, UpTo}
use Rattle.cal_duration.specs.DurationShape.{Body}

-- The bytes after a start and the solidus: a period, or an end of the shape `Ends`.
abbrev pub PeriodOrEnd : (Shape → Shape) → ℕ → Shape → Shape
PeriodOrEnd Ends more f = Branch 80 0 (Body more f) (Ends f)

-- An interval.
abbrev pub Interval : (Shape → Shape) → ℕ → Shape → Shape
Interval Ends more f = Branch 80 0 (Body more (Byte 47 (Ends f))) (Ends (Byte 47 (PeriodOrEnd Ends more f)))

-- The letter R, a number that may be left out, and an interval.
abbrev pub Repeated : (Shape → Shape) → ℕ → Shape → Shape
Repeated Ends more f =
    Byte 82 (Branch 48 9 (UpTo more (Byte 47 (Interval Ends more f))) (Byte 47 (Interval Ends more f)))
