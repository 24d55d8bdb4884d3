-- A time of day is a whole number of nanoseconds since midnight, less than a day of 24 hours (a
-- local time of day of ISO 8601, without leap seconds). The results of its calls are functions of
-- this number.
use Rattle.std.specs.Prelude.{◌≡◌, ℕ, ◌+◌, ◌*◌, ◌/◌, ◌%◌, ◌<◌, ◌≤◌, ◌↔◌, ℤ, pos, negsuc, ◌+ℤ◌, ◌*ℤ◌, ◌≤ℤ◌, unsigned_abs, List, ◌++◌, codes, Result, Ok, IfErr}
use Rattle.std.specs.Int.{int_rem_euclid}
use Rattle.std.specs.Fmt.{decimal}
use Rattle.cal_units.specs.declared.error.Component.TheVariants as component
use Rattle.cal_units.specs.declared.error.ComponentRange.{ComponentRange}
use Rattle.cal_units.specs.ComponentError.{unconditional, FailsWith}
use Rattle.cal_units.specs.declared.util.date_adjustment.DateAdjustment.{DateAdjustment}
use Rattle.cal_units.specs.declared.util.date_adjustment.DateAdjustment.TheVariants.{Previous, Next, None}
use Rattle.cal_span.specs.SignedDuration.{microsecond, millisecond, second, minute, hour, day, whole_days}
use Rattle.cal_units.specs.Digits.{decimals, two_digits}

-- A number of nanoseconds is a time of day if it is less than a day.
pub record IsTime (t : ℕ) : Type 0 where
  pub below_day : t < day

-- ---- errors
-- The error of an hour above 23.
abbrev pub hour_out_of_range : ComponentRange
hour_out_of_range = unconditional component.Hour

-- The error of a minute above 59.
abbrev pub minute_out_of_range : ComponentRange
minute_out_of_range = unconditional component.Minute

-- The error of a second above 59.
abbrev pub second_out_of_range : ComponentRange
second_out_of_range = unconditional component.Second

-- The error of a millisecond above 999.
abbrev pub millisecond_out_of_range : ComponentRange
millisecond_out_of_range = unconditional component.Millisecond

-- The error of a microsecond above 999999.
abbrev pub microsecond_out_of_range : ComponentRange
microsecond_out_of_range = unconditional component.Microsecond

-- The error of a nanosecond above 999999999.
abbrev pub nanosecond_out_of_range : ComponentRange
nanosecond_out_of_range = unconditional component.Nanosecond

-- The error for an hour, a minute and a second names the first of them that is out of range.
pub record ChecksHms {T : Type 0} (h m s : ℕ) (result : Result T ComponentRange) : Type 0 where
  pub hour : FailsWith hour_out_of_range result ↔ (23 < h)
  pub minute : FailsWith minute_out_of_range result ↔ (h ≤ 23) × (59 < m)
  pub second : FailsWith second_out_of_range result ↔ (h ≤ 23) × (m ≤ 59) × (59 < s)

-- ---- components
-- The time of day with this hour, minute, second and nanosecond.
abbrev pub time_of : ℕ → ℕ → ℕ → ℕ → ℕ
time_of hours minutes seconds nanoseconds = hours * hour + minutes * minute + seconds * second + nanoseconds

-- The hour of a time of day, from 0 to 23.
abbrev pub hour_of : ℕ → ℕ
hour_of t = t / hour

-- The minute of the hour, from 0 to 59.
abbrev pub minute_of : ℕ → ℕ
minute_of t = t / minute % 60

-- The second of the minute, from 0 to 59.
abbrev pub second_of : ℕ → ℕ
second_of t = t / second % 60

-- The whole milliseconds of the second, from 0 to 999.
abbrev pub millisecond_of : ℕ → ℕ
millisecond_of t = t / millisecond % 1_000

-- The whole microseconds of the second, from 0 to 999999.
abbrev pub microsecond_of : ℕ → ℕ
microsecond_of t = t / microsecond % 1_000_000

-- The nanoseconds of the second, from 0 to 999999999.
abbrev pub nanosecond_of : ℕ → ℕ
nanosecond_of t = t % second

-- The hour, the minute and the second.
abbrev pub hms_of : ℕ → ℕ × ℕ × ℕ
hms_of t = (hour_of t, minute_of t, second_of t)

-- The hour, the minute, the second and the milliseconds of the second.
abbrev pub hms_milli_of : ℕ → ℕ × ℕ × ℕ × ℕ
hms_milli_of t = (hour_of t, minute_of t, second_of t, millisecond_of t)

-- The hour, the minute, the second and the microseconds of the second.
abbrev pub hms_micro_of : ℕ → ℕ × ℕ × ℕ × ℕ
hms_micro_of t = (hour_of t, minute_of t, second_of t, microsecond_of t)

-- The hour, the minute, the second and the nanoseconds of the second.
abbrev pub hms_nano_of : ℕ → ℕ × ℕ × ℕ × ℕ
hms_nano_of t = (hour_of t, minute_of t, second_of t, nanosecond_of t)

-- The time of day with the hour replaced.
abbrev pub with_hour : ℕ → ℕ → ℕ
with_hour t hours = time_of hours (minute_of t) (second_of t) (nanosecond_of t)

-- The time of day with the minute replaced.
abbrev pub with_minute : ℕ → ℕ → ℕ
with_minute t minutes = time_of (hour_of t) minutes (second_of t) (nanosecond_of t)

-- The time of day with the second replaced, and the same nanoseconds of the second.
abbrev pub with_second : ℕ → ℕ → ℕ
with_second t seconds = time_of (hour_of t) (minute_of t) seconds (nanosecond_of t)

-- The time of day with the nanoseconds of the second replaced.
abbrev pub with_nanoseconds : ℕ → ℕ → ℕ
with_nanoseconds t nanoseconds = time_of (hour_of t) (minute_of t) (second_of t) nanoseconds

-- The result is the new value if the component is at most its maximum, else this error.
pub record ReplacesComponent {T : Type 0} (component maximum : ℕ) (why : ComponentRange) (new : T) (result : Result T ComponentRange) : Type 0 where
  pub error : FailsWith why result ↔ (maximum < component)
  pub error_kind : IfErr result (λ e. e ≡ why)
  pub value : component ≤ maximum → result ≡ Ok new

-- ---- days
-- The remainder of a number of nanoseconds by a day, from 0 to less than a day.
abbrev pub modulo_day : ℤ → ℕ
modulo_day v = unsigned_abs (int_rem_euclid v (pos day))

-- r is the part of v past its whole days. It doesn't have the opposite sign of v.
pub record IsSubdayPart (v r : ℤ) : Type 0 where
  pub value : v ≡ whole_days v *ℤ pos day +ℤ r
  pub below_day : unsigned_abs r < day
  pub positive : pos 0 ≤ℤ v → pos 0 ≤ℤ r
  pub negative : v ≤ℤ pos 0 → r ≤ℤ pos 0

-- The number of days that an adjustment adds: -1, 0 or 1.
abbrev pub carry : DateAdjustment → ℤ
carry Previous = negsuc 0
carry None = pos 0
carry Next = pos 1

-- ---- text
-- The text of a time of day: the hour without padding, two digits each for the minute and the
-- second, and the decimals without trailing zeros.
abbrev pub text : ℕ → List ℕ
text t =
    decimal (hour_of t) ++ codes ":" ++ two_digits (minute_of t) ++ codes ":" ++ two_digits (second_of t)
    ++ codes "." ++ decimals (nanosecond_of t)
