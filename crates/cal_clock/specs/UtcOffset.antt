-- An offset from UTC is a whole number of seconds, positive to the east (a time shift of ISO 8601).
-- The results of its calls are functions of this number.
use Rattle.std.specs.Prelude.{ℕ, zero, suc, ◌+◌, ◌*◌, ◌/◌, ◌%◌, ◌≤◌, ℤ, pos, negsuc, neg_ℤ, ◌-ℤ◌, ◌*ℤ◌, unsigned_abs, List, ◌++◌, codes}
use Rattle.cal_span.specs.SignedDuration.{cut}
use Rattle.cal_units.specs.declared.error.Component.TheVariants as component
use Rattle.cal_units.specs.declared.error.ComponentRange.{ComponentRange}
use Rattle.cal_units.specs.ComponentError.{unconditional}
use Rattle.cal_units.specs.Digits.{two_digits}

-- The maximum magnitude of an offset: 25 hours, 59 minutes and 59 seconds.
abbrev pub max_offset_seconds : ℕ
max_offset_seconds = 93_599

-- A number of seconds is an offset if it is from -93599 to 93599.
pub record IsOffset (seconds : ℤ) : Type 0 where
  pub magnitude : unsigned_abs seconds ≤ max_offset_seconds

-- ---- errors
-- The error of hours outside -25 to 25.
abbrev pub offset_hour_out_of_range : ComponentRange
offset_hour_out_of_range = unconditional component.OffsetHour

-- The error of minutes past the hours outside -59 to 59.
abbrev pub offset_minute_out_of_range : ComponentRange
offset_minute_out_of_range = unconditional component.OffsetMinute

-- The error of seconds past the minutes outside -59 to 59.
abbrev pub offset_second_out_of_range : ComponentRange
offset_second_out_of_range = unconditional component.OffsetSecond

-- The error of total seconds outside -93599 to 93599.
abbrev pub seconds_out_of_range : ComponentRange
seconds_out_of_range = unconditional component.Seconds

-- ---- the offset of hours, minutes and seconds
-- The first number, or the second if the first is 0.
abbrev pub first_nonzero : ℤ → ℤ → ℤ
first_nonzero (pos zero) next = next
first_nonzero (pos (suc n)) next = pos (suc n)
first_nonzero (negsuc n) next = negsuc n

-- The first of three numbers that isn't 0, or 0.
abbrev pub leading_component : ℤ → ℤ → ℤ → ℤ
leading_component hours minutes seconds = first_nonzero hours (first_nonzero minutes seconds)

-- n, or -n if the number that gives the sign is negative.
abbrev pub with_sign_from : ℤ → ℕ → ℤ
with_sign_from (pos _) n = pos n
with_sign_from (negsuc _) n = neg_ℤ (pos n)

-- The offset is the sum of the magnitudes, with the sign of the first number that isn't 0.
abbrev pub offset_of : ℤ → ℤ → ℤ → ℤ
offset_of hours minutes seconds =
    with_sign_from (leading_component hours minutes seconds)
    (3_600 * unsigned_abs hours + 60 * unsigned_abs minutes + unsigned_abs seconds)

-- ---- parts: quotients truncated toward zero, and remainders
-- The whole hours of an offset, truncated toward zero.
abbrev pub whole_hours : ℤ → ℤ
whole_hours o = cut o (pos 3_600)

-- The whole minutes of an offset, truncated toward zero.
abbrev pub whole_minutes : ℤ → ℤ
whole_minutes o = cut o (pos 60)

-- The minutes past the whole hours, with the sign of the offset.
abbrev pub minutes_past_hour : ℤ → ℤ
minutes_past_hour o = whole_minutes o -ℤ whole_hours o *ℤ pos 60

-- The seconds past the whole minutes, with the sign of the offset.
abbrev pub seconds_past_minute : ℤ → ℤ
seconds_past_minute o = o -ℤ whole_minutes o *ℤ pos 60

-- ---- text
-- The sign of an offset: minus for a negative offset, plus for any other.
abbrev pub sign : ℤ → List ℕ
sign (pos _) = codes "+"
sign (negsuc _) = codes "-"

-- The text of a magnitude in seconds, as `HH:MM:SS`.
abbrev pub magnitude_text : ℕ → List ℕ
magnitude_text n = two_digits (n / 3_600) ++ codes ":" ++ two_digits (n / 60 % 60) ++ codes ":" ++ two_digits (n % 60)

-- The text of an offset: its sign and its magnitude.
abbrev pub text : ℤ → List ℕ
text o = sign o ++ magnitude_text (unsigned_abs o)
