-- The text that a duration prints.
use Rattle.std.specs.Prelude.{ℕ, ◌+◌, ◌/◌, ◌%◌, ◌==◌, Bool, ◌||◌, ℤ, pos, List, [], ◌∷◌, ◌++◌, codes, decimal, unsigned_abs, int_lt, if◌then◌else◌}
use Rattle.cal_time.specs.SignedDuration.{hour, minute, second, part_text}
use Rattle.cal_schedule.specs.Period.{Parts}
use Rattle.cal_text.specs.Rfc3339.{fraction_text}
use Rattle.cal_duration.specs.Form.{sign_text}

-- The seconds of v nanoseconds, with a fraction without trailing zeros, and the letter S, or nothing
-- for 0.
abbrev pub seconds_text : ℕ → List ℕ
seconds_text v = if v == 0 then [] else decimal (v / second) ++ (fraction_text (v % second) ++ codes "S")

-- The hours, minutes and seconds of v nanoseconds: at most 59 minutes and less than 60 seconds.
abbrev pub clock_text : ℕ → List ℕ
clock_text v = part_text (v / hour) (codes "H") ++ (part_text (v % hour / minute) (codes "M") ++ seconds_text (v % minute))

-- The letter T and hours, minutes and seconds, or nothing for 0.
abbrev pub time_text : ℕ → List ℕ
time_text v = if v == 0 then [] else 84 ∷ clock_text v

-- The text of an exact duration of v nanoseconds.
abbrev pub duration_text : ℤ → List ℕ
duration_text v = if unsigned_abs v == 0 then codes "PT0S" else sign_text (int_lt v (pos 0)) ++ (codes "PT" ++ clock_text (unsigned_abs v))

-- ---- periods
abbrev pub is_negative : Parts → Bool
is_negative p =
    int_lt p.years (pos 0) || (int_lt p.months (pos 0) || (int_lt p.weeks (pos 0) || (int_lt p.days (pos 0) || int_lt p.exact (pos 0))))

-- Years, months, weeks and days.
abbrev pub date_text : Parts → List ℕ
date_text p =
    part_text (unsigned_abs p.years) (codes "Y") ++ (part_text (unsigned_abs p.months) (codes "M") ++ (part_text (unsigned_abs p.weeks) (codes "W") ++ part_text (unsigned_abs p.days) (codes "D")))

-- The parts that are not 0, or PT0S if all are 0.
abbrev pub is_zero : Parts → Bool
is_zero p =
    (unsigned_abs p.years + unsigned_abs p.months + unsigned_abs p.weeks + unsigned_abs p.days + unsigned_abs p.exact) == 0

abbrev pub period_text : Parts → List ℕ
period_text p = if is_zero p then codes "PT0S" else sign_text (is_negative p) ++ 80 ∷ (date_text p ++ time_text (unsigned_abs p.exact))
