-- A date-time has exactly one day and one time of day.
use Rattle.std.specs.Prelude.{◌≡◌, ℕ, ◌<◌, ℤ}
use Rattle.std.proofs.Common.{arith}
use Rattle.std.proofs.lemmas.Int.{ints}
use Rattle.cal_time.specs.SignedDuration.{day}
use Rattle.cal_time.specs.Date.{IsDate}
use Rattle.cal_time.specs.Time.{IsTime}
use Rattle.cal_datetime.specs.DateTime.{IsDateTime, date_time, date_at, time_at}
use Rattle.cal_datetime.specs.declared.plain_date_time.PlainDateTime.TheInside.{Inside}

-- The date-time of day n and time t has the day n.
pub date_at-date_time : (n t : ℕ) → t < day → date_at (date_time n t) ≡ n
unfolding date_at
date_at-date_time n t below = omega arith

-- The date-time of day n and time t has the time of day t.
pub time_at-date_time : (n t : ℕ) → t < day → time_at (date_time n t) ≡ t
unfolding time_at
time_at-date_time n t below = omega arith

-- Each date-time is the date-time of its day and its time of day.
pub date_time-parts : (z : ℤ) → IsDateTime z → date_time (date_at z) (time_at z) ≡ z
unfolding date_at time_at
date_time-parts z h = omega (arith, ints, h.not_before)

-- The day of a date-time of the range is a day of the range.
pub IsDate-date_at : (z : ℤ) → IsDateTime z → IsDate (date_at z)
unfolding date_at
IsDate-date_at z h = omega (arith, ints, h.not_before, h.not_after)

-- The time of day of a date-time is less than a day.
pub IsTime-time_at : (z : ℤ) → IsTime (time_at z)
unfolding time_at
IsTime-time_at z = record { below_day = omega arith }

-- A day of the range and a time of day give a date-time of the range.
pub IsDateTime-date_time : (n t : ℕ) → IsDate n → t < day → IsDateTime (date_time n t)
IsDateTime-date_time n t h below = record { not_before = omega (arith, ints); not_after = omega (arith, ints) }

-- The fields of a date-time are its day and its time of day.
abbrev pub fields_of : ℤ → Inside
fields_of z = record { date = date_at z; time = time_at z }

-- The date-time that two fields give has these fields.
pub fields_of-date_time : (m : Inside) → IsDate m.date × IsTime m.time → fields_of (date_time m.date m.time) ≡ m
fields_of-date_time m h =
    let dates = date_at-date_time m.date m.time h.1.below_day in
    let times = time_at-date_time m.date m.time h.1.below_day in
    λ i. record { date = dates i; time = times i }
