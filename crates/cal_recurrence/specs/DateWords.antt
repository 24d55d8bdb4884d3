-- The words of dates and times of day (DATE and DATE-TIME of RFC 5545).
use Rattle.std.specs.Prelude.{ℕ, min, ◌+◌, ◌/◌, ◌%◌, nat_lt, nat_le, ◌==◌, ◌&&◌, Bool, ℤ, pos, List, length, slice_get, filter, Option, Some, None, option_and_then, codes, if◌then◌else◌}
use Rattle.std.specs.Ordering.{int_eq}
use Rattle.cal_time.specs.Date.{last_day, year_at, month_at, day_of_month_at}
use Rattle.cal_time.specs.Occurrences.{days_from}
use Rattle.cal_time.specs.Time.{time_of}
use Rattle.cal_datetime.specs.DateTime.{date_time}
use Rattle.cal_recurrence.specs.Words.{bytes_after, first_bytes, is_alike, number_of}
use Rattle.cal_recurrence.specs.declared.date_or_time.DateOrTime.{DateOrTime}
use Rattle.cal_recurrence.specs.declared.date_or_time.DateOrTime.TheVariants.{Date, Local, Utc}

-- Day k has the year, the month and the day of the month that the eight digits of n spell.
abbrev pub has_digits : ℕ → ℕ → Bool
has_digits n k = int_eq (year_at k) (pos (n / 10000)) && ((month_at k == n / 100 % 100) && (day_of_month_at k == n % 100))

-- The day of the range with the year, the month and the day of the month of these digits, if there
-- is one.
unfoldable pub day_with : ℕ → Option ℕ
day_with n = slice_get (filter (has_digits n) (days_from 0 (last_day + 1))) 0

-- The time of day of six digits: an hour, a minute and a second. A leap second, 60, counts as 59.
abbrev pub time_with : ℕ → Option ℕ
time_with n =
    if nat_lt (n / 10000) 24 && (nat_lt (n / 100 % 100) 60 && nat_le (n % 100) 60) then Some (time_of (n / 10000) (n / 100 % 100) (min (n % 100) 59) 0) else None

-- A reading with the mark of its zone: nothing, or `Z` for UTC.
abbrev pub with_zone : List ℕ → ℤ → Option DateOrTime
with_zone zone z =
    if length zone == 0 then Some (Local z) else
    if is_alike zone (codes "Z") then Some (Utc z) else None

-- A day with its time of day: nothing, or `T`, six digits and the mark of a zone.
abbrev pub with_time : List ℕ → ℕ → Option DateOrTime
with_time time n =
    if length time == 0 then Some (Date n) else
    if nat_lt (length time) 7 then None else
    if is_alike (first_bytes 1 time) (codes "T")
    then option_and_then (λ t. with_zone (bytes_after 6 (bytes_after 1 time)) (date_time n t)) (option_and_then time_with (number_of (first_bytes 6 (bytes_after 1 time)))) else None

-- The date of eight digits, which a time of day may follow.
abbrev pub date_or_time_of : List ℕ → Option DateOrTime
date_or_time_of word =
    if nat_lt (length word) 8 then None else
    option_and_then (with_time (bytes_after 8 word)) (option_and_then day_with (number_of (first_bytes 8 word)))
