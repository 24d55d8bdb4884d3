-- The errors of a time of day.
use Rattle.std.proofs.Common.{◌≡◌, ◌⊎◌, ◌≤◌, ◌<◌, ◌↔◌, ℕ, Result, IfErr}
use Rattle.cal_time.specs.ComponentError.{FailsWith}
use Rattle.cal_time.specs.Time.{hour_out_of_range, minute_out_of_range, second_out_of_range}
use Rattle.cal_time.specs.declared.error.ComponentRange.{ComponentRange}
use Rattle.cal_text.specs.declared.time.numbers.TimeNumbers.{TimeNumbers}
use Rattle.cal_text.specs.TimeForm.{IsTimeError}
use Rattle.cal_text.proofs.Errors.{all, last, more}

abbrev IsTimeComponent : ComponentRange → Type 0
IsTimeComponent e = (e ≡ hour_out_of_range) ⊎ (e ≡ minute_out_of_range) ⊎ (e ≡ second_out_of_range)

pub time_errors : (t : TimeNumbers) (r : Result ℕ ComponentRange) → FailsWith hour_out_of_range r ↔ (23 < t.hour)
    → FailsWith minute_out_of_range r ↔ (t.hour ≤ 23) × (59 < t.minute) → FailsWith second_out_of_range r ↔ (t.hour ≤ 23) × (t.minute ≤ 59) × (59 < t.second)
    → IfErr r IsTimeComponent → (why : ComponentRange) → FailsWith why r ↔ IsTimeError t why
time_errors t r hour minute second kind = all r (more r hour_out_of_range _ hour (more r minute_out_of_range _ minute (last r second_out_of_range _ second))) kind
