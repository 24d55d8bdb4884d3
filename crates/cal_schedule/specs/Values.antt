-- Lists of the values of a pattern.
use Rattle.std.specs.Prelude.{ℕ}

-- The maximum number of values of a list. A month has at most 31 days, counted from either end.
abbrev pub most_values : ℕ
most_values = 62
