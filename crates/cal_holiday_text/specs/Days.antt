-- The word of a day in each year. Letters match in any case.
use Rattle.std.specs.Prelude.{ℕ, ◌==◌, ◌&&◌, nat_lt, nat_le, ℤ, pos, neg_ℤ, List, drop, length, slice_index, Option, Some, None, option_map, option_and_then, codes, if◌then◌else◌}
use Rattle.std.specs.Option.{option_map_or, option_zip}
use Rattle.cal_units.specs.Lengths.{days_in_month}
use Rattle.cal_time.specs.Month.{number}
use Rattle.cal_time.specs.declared.Month.{Month}
use Rattle.cal_holidays.specs.declared.holiday_day.HolidayDay.{HolidayDay}
use Rattle.cal_holidays.specs.declared.holiday_day.HolidayDay.TheVariants.{Fixed, Nth, Last, OnOrAfter, Easter, JulianEaster}
use Rattle.cal_recurrence.specs.Words.{bytes_after, first_bytes, front_at, is_alike, month_of, rest_at, short_count_of, up_to, weekday_of}

-- A number of days from 1 to 99, of at most two digits, after its sign. 43 is the plus sign, and 45
-- is the minus sign.
abbrev pub days_of : List ℕ → Option ℤ
days_of word =
    if slice_index word 0 == 45 then option_map (λ n. neg_ℤ (pos n)) (short_count_of 2 99 (drop 1 word)) else
    if slice_index word 0 == 43 then option_map pos (short_count_of 2 99 (drop 1 word)) else
    None

-- The days from Easter: no bytes are Easter itself.
abbrev pub days_from_easter_of : List ℕ → Option ℤ
days_from_easter_of word = if length word == 0 then Some (pos 0) else days_of word

-- The bytes of a word after a name, if it begins with the name.
abbrev pub after_name : List ℕ → List ℕ → Option (List ℕ)
after_name name word =
    if nat_le (length name) (length word) && is_alike (first_bytes (length name) word) name then Some (bytes_after (length name) word) else None

-- A day of a month of at most two digits, such as 25, which the month has in some year y.
abbrev pub month_day_of : ℤ → Month → List ℕ → Option ℕ
month_day_of y m word = option_and_then (up_to (days_in_month y (number m))) (short_count_of 2 31 word)

-- The n-th weekday, such as 4TH. There are at most five.
abbrev pub nth_of : Month → List ℕ → Option HolidayDay
nth_of m word = option_map (λ both. Nth m both.1 both.0) (option_zip (short_count_of 1 5 (first_bytes 1 word)) (weekday_of (bytes_after 1 word)))

-- A weekday on or after a day, such as WE>=16.
abbrev pub on_or_after_of : ℤ → Month → List ℕ → Option HolidayDay
on_or_after_of y m word =
    if is_alike (first_bytes 2 (bytes_after 2 word)) (codes ">=") then option_map (λ both. OnOrAfter m both.1 both.0) (option_zip (weekday_of (first_bytes 2 word)) (month_day_of y m (bytes_after 2 (bytes_after 2 word)))) else None

-- A day of a month by the bytes after the month: the last weekday, such as lastMO, or one of these.
unfoldable pub other_day_of : ℤ → Month → List ℕ → Option HolidayDay
other_day_of y m word =
    if nat_lt 3 (length word) then on_or_after_of y m word else
    if length word == 3 then nth_of m word else
    option_map (Fixed m) (month_day_of y m word)

unfoldable pub day_in_month_of : ℤ → Month → List ℕ → Option HolidayDay
day_in_month_of y m word = option_map_or (λ rest. option_map (Last m) (weekday_of rest)) (after_name (codes "last") word) (other_day_of y m word)

-- A month of at most two digits, `-` (45), and a day of it.
unfoldable pub dated_day_of : ℤ → List ℕ → Option HolidayDay
dated_day_of y word = option_and_then (λ m. day_in_month_of y m (rest_at 45 word)) (month_of (front_at 45 word))

-- A day in each year, or in the year y: Easter, with days before or after it, or a day of a month.
unfoldable pub day_of : ℤ → List ℕ → Option HolidayDay
day_of y word =
    option_map_or (λ rest. option_map Easter (days_from_easter_of rest)) (after_name (codes "easter") word)
    (option_map_or (λ rest. option_map JulianEaster (days_from_easter_of rest)) (after_name (codes "julian-easter") word) (dated_day_of y word))
