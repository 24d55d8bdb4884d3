-- A duration is a whole number of nanoseconds, like `SignedDuration` in the crate `time`: a signed
-- number of whole seconds (an i64) and the nanoseconds past them. The results of its calls are
-- functions of this number.
use Rattle.std.specs.Prelude.{◌≢◌, Bool, true, false, ℕ, zero, suc, ◌/◌, ◌%◌, ℤ, pos, negsuc, neg_ℤ, ◌+ℤ◌, ◌-ℤ◌, ◌*ℤ◌, ◌≤ℤ◌, int_div, List, [], ◌∷◌, ◌++◌, take, codes, ◌==◌, if◌then◌else◌}
use Rattle.std.specs.Int.{int_min, int_max}
use Rattle.std.specs.List.{fold}
use Rattle.std.specs.Fmt.{decimal}
use Rattle.std.specs.Hash as fed
use Rattle.std.specs.Hash.{HashWrites}

-- ---- units in nanoseconds (SI prefixes; a day has 24 hours, and a week 7 days)
-- The number of nanoseconds in a microsecond.
abbrev pub microsecond : ℕ
microsecond = 1_000

-- The number of nanoseconds in a millisecond, 1000 microseconds.
abbrev pub millisecond : ℕ
millisecond = 1_000_000

-- The number of nanoseconds in a second, 1000 milliseconds.
abbrev pub second : ℕ
second = 1_000_000_000

-- The number of nanoseconds in a minute, 60 seconds.
abbrev pub minute : ℕ
minute = 60_000_000_000

-- The number of nanoseconds in an hour, 60 minutes.
abbrev pub hour : ℕ
hour = 3_600_000_000_000

-- The number of nanoseconds in a day of 24 hours.
abbrev pub day : ℕ
day = 86_400_000_000_000

-- The number of nanoseconds in a week of 7 days.
abbrev pub week : ℕ
week = 604_800_000_000_000

-- ---- range: whole seconds in an i64, and nanoseconds below a second (`MIN` and `MAX`)
-- The minimum is -(2^63 seconds and 999999999 nanoseconds).
abbrev pub min_duration : ℤ
min_duration = neg_ℤ (pos 9_223_372_036_854_775_808_999_999_999)

-- The maximum is 2^63 - 1 seconds and 999999999 nanoseconds.
abbrev pub max_duration : ℤ
max_duration = pos 9_223_372_036_854_775_807_999_999_999

-- A number of nanoseconds is a duration if it is in the range.
pub record IsDuration (v : ℤ) : Type 0 where
  pub at_least : min_duration ≤ℤ v
  pub at_most : v ≤ℤ max_duration

-- A number of nanoseconds clamped to the range: the minimum if it is less, the maximum if it is
-- more.
abbrev pub clamp : ℤ → ℤ
clamp v = int_max min_duration (int_min v max_duration)

-- n is from -bound to bound.
abbrev pub IsMagnitudeWithin : ℕ → ℤ → Type 0
IsMagnitudeWithin bound n = (neg_ℤ (pos bound) ≤ℤ n) × (n ≤ℤ pos bound)

-- ---- parts
-- The number with the magnitude n: -n if it is negative, else n.
abbrev pub with_sign : Bool → ℕ → ℤ
with_sign true n = neg_ℤ (pos n)
with_sign false n = pos n

-- The quotient of a and b, truncated toward zero, like Rust's `/`.
abbrev pub cut : ℤ → ℤ → ℤ
cut a b = int_div a b

-- The whole days of a duration, truncated toward zero.
abbrev pub whole_days : ℤ → ℤ
whole_days v = cut v (pos day)

-- The nanoseconds of a duration past its whole seconds, with the sign of the duration.
abbrev pub subsec_nanoseconds : ℤ → ℤ
subsec_nanoseconds v = v -ℤ cut v (pos second) *ℤ pos second

-- A duration feeds its whole seconds, and the nanoseconds past them, to a hasher.
abbrev pub hash_input_of : ℤ → HashWrites
hash_input_of v = fed.i64 (cut v (pos second)) ++ fed.i32 (subsec_nanoseconds v)

-- ---- text: the output of `Display`
-- The text of a part: a number and its unit, or nothing if the number is 0.
abbrev pub part_text : ℕ → List ℕ → List ℕ
part_text n unit = if n == 0 then [] else decimal n ++ unit

-- The texts of the parts of a magnitude in nanoseconds, from days to nanoseconds. The bytes 0xc2
-- and 0xb5 are the `µ` of `µs` in UTF-8.
abbrev pub parts_text : ℕ → List ℕ
parts_text n =
    part_text (n / day) (codes "d")
    ++ part_text (n / hour % 24) (codes "h")
    ++ part_text (n / minute % 60) (codes "m")
    ++ part_text (n / second % 60) (codes "s")
    ++ part_text (n / millisecond % 1_000) (codes "ms")
    ++ part_text (n / microsecond % 1_000) (0xc2 ∷ 0xb5 ∷ codes "s")
    ++ part_text (n % 1_000) (codes "ns")

-- The text of a duration: a minus sign if it is negative, and its parts. Zero is `0s`.
abbrev pub text : ℤ → List ℕ
text (pos zero) = codes "0s"
text (pos (suc n)) = parts_text (suc n)
text (negsuc n) = codes "-" ++ parts_text (suc n)

-- ---- arithmetic
-- v has a quotient by k if k is not 0 and the quotient, truncated toward zero, is a duration.
pub record HasQuotient (v k : ℤ) : Type 0 where
  pub divisor : k ≢ pos 0
  pub quotient : IsDuration (cut v k)

-- The sum of a list of numbers. The sum of no numbers is 0.
abbrev pub sum_of : List ℤ → ℤ
sum_of numbers = fold ◌+ℤ◌ (pos 0) numbers

-- A list of durations has a sum if each partial sum is a duration: the sum of its first n items,
-- for each n.
abbrev pub HasSum : List ℤ → Type 0
HasSum numbers = (n : ℕ) → IsDuration (sum_of (take n numbers))
