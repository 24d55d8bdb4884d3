-- The words of the text of a rule. Letters match in any case.
use denote.Ref.{Bor}
use Rattle.std.specs.Prelude.{ℕ, min, ◌+◌, ◌-◌, nat_lt, nat_le, ◌==◌, ◌&&◌, Bool, false, not, ℤ, pos, neg_ℤ, List, [], ◌∷◌, length, take, drop, slice_index, Option, Some, None, option_map, option_and_then, codes, if◌then◌else◌}
use Rattle.std.specs.List.{slice_split, before_first, after_first, onto_first}
use Rattle.std.specs.Option.{option_zip}
use Rattle.std.specs.Str.{all_ascii_digits, str_eq_ignore_ascii_case}
use Rattle.std.specs.Str.Parse.{digits_value}
use Rattle.cal_time.specs.Month.{month_of_index as month_with_index}
use Rattle.cal_time.specs.declared.Month.{Month}
use Rattle.cal_time.specs.declared.Weekday.{Weekday}
use Rattle.cal_time.specs.declared.Weekday.TheVariants as weekday
use Rattle.cal_schedule.specs.declared.rule.rule.Frequency.{Frequency}
use Rattle.cal_schedule.specs.declared.rule.rule.Frequency.TheVariants as frequency
use Rattle.cal_schedule.specs.declared.rule.rule.ByDay.{ByDay}
use Rattle.cal_schedule.specs.declared.rule.rule.ByDay.TheVariants.{Every, Nth}
use Rattle.cal_recurrence.specs.declared.clock_unit.ClockUnit.{ClockUnit}
use Rattle.cal_recurrence.specs.declared.clock_unit.ClockUnit.TheVariants as unit
use Rattle.cal_recurrence.specs.declared.fault.RulePart.{RulePart}
use Rattle.cal_recurrence.specs.declared.fault.RulePart.TheVariants as part

-- ---- splitting a string
-- The parts of a string between the bytes `byte`. Without such a byte the string is one part.
abbrev pub parts_at : ℕ → List ℕ → List (List ℕ)
parts_at byte text = slice_split (λ b. b == byte) text

-- The bytes of a string before the first `byte`, or the whole string without such a byte.
abbrev pub front_at : ℕ → List ℕ → List ℕ
front_at byte text = before_first (λ b. b == byte) text

-- The bytes of a string after the first `byte`, or nothing without such a byte.
abbrev pub rest_at : ℕ → List ℕ → List ℕ
rest_at byte text = after_first (λ b. b == byte) text

-- The parts of the bytes that are left, if there are any.
abbrev pub parts_left : ℕ → Option (Bor (List ℕ)) → List (List ℕ)
parts_left byte None = []
parts_left byte (Some rest) = parts_at byte rest.now

-- The bytes that are left, if there are any.
abbrev pub bytes_left : Option (Bor (List ℕ)) → List ℕ
bytes_left None = []
bytes_left (Some rest) = rest.now

-- ---- splitting outside quotation marks
-- The bytes after byte x are in quotation marks (34): each mark begins or ends some.
abbrev pub quoted_after : Bool → ℕ → Bool
quoted_after quoted x = if x == 34 then not quoted else quoted

-- The number of bytes before the first `byte` outside quotation marks, or of all bytes without one.
abbrev pub place_outside : ℕ → Bool → List ℕ → ℕ
place_outside byte quoted [] = 0
place_outside byte quoted (x ∷ xs) = if not quoted && (x == byte) then 0 else 1 + place_outside byte (quoted_after quoted x) xs

-- The bytes of a string before the first `byte` outside quotation marks, or the whole string.
abbrev pub front_outside : ℕ → List ℕ → List ℕ
front_outside byte text = take (place_outside byte false text) text

-- The bytes of a string after the first `byte` outside quotation marks, or nothing.
abbrev pub rest_outside : ℕ → List ℕ → List ℕ
rest_outside byte text = drop (place_outside byte false text + 1) text

-- The parts of a string between the bytes `byte` outside quotation marks.
abbrev pub parts_outside : ℕ → Bool → List ℕ → List (List ℕ)
parts_outside byte quoted [] = [] ∷ []
parts_outside byte quoted (x ∷ xs) = if not quoted && (x == byte) then [] ∷ parts_outside byte false xs else onto_first x (parts_outside byte (quoted_after quoted x) xs)

-- The parts of the bytes that are left, if there are any.
abbrev pub parts_left_outside : ℕ → Option (Bor (List ℕ)) → List (List ℕ)
parts_left_outside byte None = []
parts_left_outside byte (Some rest) = parts_outside byte false rest.now

-- The first `size` bytes.
unfoldable pub first_bytes : ℕ → List ℕ → List ℕ
first_bytes size bytes = take size bytes

-- The bytes after the first `size` ones.
unfoldable pub bytes_after : ℕ → List ℕ → List ℕ
bytes_after size bytes = drop size bytes

-- ---- names
-- A word is a name, in any case of its ASCII letters.
abbrev pub is_alike : List ℕ → List ℕ → Bool
is_alike word name = str_eq_ignore_ascii_case word name

-- A string begins with `RRULE:`, the name of the property.
abbrev pub has_name : List ℕ → Bool
has_name text = nat_le 6 (length text) && is_alike (first_bytes 6 text) (codes "RRULE:")

-- The part with the name that a word is, if there is one.
abbrev pub part_of : List ℕ → Option RulePart
part_of word =
    if is_alike word (codes "FREQ") then Some part.Frequency else
    if is_alike word (codes "INTERVAL") then Some part.Interval else
    if is_alike word (codes "WKST") then Some part.WeekStart else
    if is_alike word (codes "BYMONTH") then Some part.Months else
    if is_alike word (codes "BYWEEKNO") then Some part.Weeks else
    if is_alike word (codes "BYYEARDAY") then Some part.YearDays else
    if is_alike word (codes "BYMONTHDAY") then Some part.MonthDays else
    if is_alike word (codes "BYDAY") then Some part.Weekdays else
    if is_alike word (codes "BYHOUR") then Some part.Hours else
    if is_alike word (codes "BYMINUTE") then Some part.Minutes else
    if is_alike word (codes "BYSECOND") then Some part.Seconds else
    if is_alike word (codes "BYSETPOS") then Some part.Positions else
    if is_alike word (codes "UNTIL") then Some part.Until else
    if is_alike word (codes "COUNT") then Some part.Count else
    None

-- The frequency that a word spells: DAILY, WEEKLY, MONTHLY or YEARLY, or daily with the periods within
-- days of HOURLY, MINUTELY or SECONDLY.
abbrev pub frequency_of : List ℕ → Option (Frequency × Option ClockUnit)
frequency_of word =
    if is_alike word (codes "DAILY") then Some (frequency.Daily, None) else
    if is_alike word (codes "WEEKLY") then Some (frequency.Weekly, None) else
    if is_alike word (codes "MONTHLY") then Some (frequency.Monthly, None) else
    if is_alike word (codes "YEARLY") then Some (frequency.Yearly, None) else
    if is_alike word (codes "HOURLY") then Some (frequency.Daily, Some unit.Hour) else
    if is_alike word (codes "MINUTELY") then Some (frequency.Daily, Some unit.Minute) else
    if is_alike word (codes "SECONDLY") then Some (frequency.Daily, Some unit.Second) else
    None

-- The weekday that two letters spell: MO, TU, WE, TH, FR, SA or SU.
abbrev pub weekday_of : List ℕ → Option Weekday
weekday_of word =
    if is_alike word (codes "MO") then Some weekday.Monday else
    if is_alike word (codes "TU") then Some weekday.Tuesday else
    if is_alike word (codes "WE") then Some weekday.Wednesday else
    if is_alike word (codes "TH") then Some weekday.Thursday else
    if is_alike word (codes "FR") then Some weekday.Friday else
    if is_alike word (codes "SA") then Some weekday.Saturday else
    if is_alike word (codes "SU") then Some weekday.Sunday else
    None

-- ---- numbers
-- A word is a number: one digit or more, with a value below 2^32.
abbrev pub is_number : List ℕ → Bool
is_number word = nat_lt 0 (length word) && (all_ascii_digits word && nat_lt (digits_value 10 word) 4294967296)

-- The number that a word spells, below 2^32.
abbrev pub number_of : List ℕ → Option ℕ
number_of word = if is_number word then Some (digits_value 10 word) else None

-- The number n, if it is from 1 to `most`.
abbrev pub from_one_to : ℕ → ℕ → Option ℕ
from_one_to most n = if nat_le 1 n && nat_le n most then Some n else None

-- The number that a word spells, if it is from 1 to `most`.
abbrev pub count_of : ℕ → List ℕ → Option ℕ
count_of most word = option_and_then (from_one_to most) (number_of word)

-- The number from 1 to `most` that a word of at most `size` digits spells.
abbrev pub short_count_of : ℕ → ℕ → List ℕ → Option ℕ
short_count_of size most word = if nat_le (length word) size then count_of most word else None

-- The index that a word spells: a number from 1 to `most` of at most `size` digits, after an
-- optional sign. 45 is the minus sign, and 43 is the plus sign.
abbrev pub index_of : ℕ → ℕ → List ℕ → Option ℤ
index_of size most word =
    if slice_index word 0 == 45 then option_map (λ n. neg_ℤ (pos n)) (short_count_of size most (drop 1 word)) else
    if slice_index word 0 == 43 then option_map pos (short_count_of size most (drop 1 word)) else
    option_map pos (short_count_of size most word)

-- ---- values
-- The month with a number from 1 to 12, of at most two digits.
abbrev pub month_of : List ℕ → Option Month
month_of word = option_map (λ n. month_with_index (n - 1)) (short_count_of 2 12 word)

-- The index of a day of the month or of a week, up to `most` and up to 53, of at most two digits.
abbrev pub small_index_of : ℕ → List ℕ → Option ℤ
small_index_of most word = index_of 2 (min most 53) word

-- A day of the month, from 1 to 31 or from -1 to -31.
abbrev pub month_day_of : List ℕ → Option ℤ
month_day_of word = small_index_of 31 word

-- A week, from 1 to 53 or from -1 to -53.
abbrev pub week_of : List ℕ → Option ℤ
week_of word = small_index_of 53 word

-- A day of the year or a position, from 1 to 366 or from -1 to -366, of at most three digits.
abbrev pub position_of : List ℕ → Option ℤ
position_of word = index_of 3 366 word

-- A weekday of two letters, after an optional number within the month or the year. The number is
-- from 1 to 53 or from -1 to -53.
abbrev pub by_day_of : List ℕ → Option ByDay
by_day_of word =
    let front = length word - 2 in
    if front == 0 then option_map Every (weekday_of word)
    else option_map (λ both. Nth both.0 both.1) (option_zip (index_of 2 53 (take front word)) (weekday_of (drop front word)))

-- The number n, if it is at most `most`.
abbrev pub up_to : ℕ → ℕ → Option ℕ
up_to most n = if nat_le n most then Some n else None

-- The hour, minute or second, from 0 up to `most` and up to 60, of at most two digits.
abbrev pub clock_value_of : ℕ → List ℕ → Option ℕ
clock_value_of most word = if nat_le (length word) 2 then option_and_then (up_to (min most 60)) (number_of word) else None

-- An hour, from 0 to 23.
abbrev pub by_hour_of : List ℕ → Option ℕ
by_hour_of word = clock_value_of 23 word

-- A minute, from 0 to 59.
abbrev pub by_minute_of : List ℕ → Option ℕ
by_minute_of word = clock_value_of 59 word

-- A second, from 0 to 60.
abbrev pub by_second_of : List ℕ → Option ℕ
by_second_of word = clock_value_of 60 word
