-- The errors of an offset, and the moment of two parts.
use Rattle.std.proofs.Common.{◌≡◌, ◌⊎◌, ◌≤◌, ◌<◌, ◌↔◌, ℤ, Result, IfErr}
use Rattle.cal_time.specs.ComponentError.{FailsWith}
use Rattle.cal_time.specs.UtcOffset.{offset_hour_out_of_range, offset_minute_out_of_range, offset_second_out_of_range}
use Rattle.cal_time.specs.declared.error.ComponentRange.{ComponentRange}
use Rattle.cal_datetime.specs.OffsetDateTime.{LocalAndOffset}
use Rattle.cal_text.specs.declared.offset.numbers.OffsetNumbers.{OffsetNumbers}
use Rattle.cal_text.specs.OffsetForm.{IsOffsetError}
use Rattle.cal_text.proofs.Errors.{all, last, more}

abbrev IsOffsetComponent : ComponentRange → Type 0
IsOffsetComponent e = (e ≡ offset_hour_out_of_range) ⊎ (e ≡ offset_minute_out_of_range) ⊎ (e ≡ offset_second_out_of_range)

pub offset_errors : (o : OffsetNumbers) (r : Result ℤ ComponentRange) → FailsWith offset_hour_out_of_range r ↔ (25 < o.hours)
    → FailsWith offset_minute_out_of_range r ↔ (o.hours ≤ 25) × (59 < o.minutes) → FailsWith offset_second_out_of_range r ↔ (o.hours ≤ 25) × (o.minutes ≤ 59) × (59 < o.seconds)
    → IfErr r IsOffsetComponent → (why : ComponentRange) → FailsWith why r ↔ IsOffsetError o why
offset_errors o r hour minute second kind =
    all r (more r offset_hour_out_of_range _ hour (more r offset_minute_out_of_range _ minute (last r offset_second_out_of_range _ second))) kind

-- ---- the moment of a local date-time and an offset
abbrev at_offset : ℤ → ℤ → LocalAndOffset
at_offset l o = record { local = l; offset = o }

pub joined : (m : LocalAndOffset) (l o : ℤ) → l ≡ m.local → o ≡ m.offset → at_offset l o ≡ m
joined m l o local offset = λ i. record { local = local i; offset = offset i }
