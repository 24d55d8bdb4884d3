-- The answers to the lines of an input.
use Rattle.std.specs.Prelude.{ℕ, zero, suc, ◌+◌, ◌&&◌, nat_le, nat_lt, Bool, ℤ, pos, ◌+ℤ◌, ◌-ℤ◌, ◌*ℤ◌, unsigned_abs, int_le, int_lt, List, [], ◌∷◌, ◌++◌, codes, flat_map, if◌then◌else◌, Option, Some, None, decimal}
use Rattle.std.specs.Option.{option_or}
use Rattle.std.specs.Cmp.Lexicographic.{pointwise}
use Rattle.std.specs.Ordering.{int_eq}
use Rattle.std.specs.Fmt.{signed_decimal}
use Rattle.cal_time.specs.Date.{first_year, last_year, last_day, year_at, ordinal_at, weekday_at, julian_day_at}
use Rattle.cal_time.specs.DateText.{text}
use Rattle.cal_time.specs.IsoWeekDate.{iso_year_at, iso_week_at}
use Rattle.cal_time.specs.declared.error.ComponentRange.{ComponentRange}
use Rattle.cal_time.specs.ComponentError.{component_name}
use Rattle.cal_time.specs.DateErrors.{year_out_of_range, day_out_of_range, week_out_of_range, weekday_out_of_range, ordinal_out_of_range, julian_day_out_of_range}
use Rattle.cal_time.specs.SignedDuration.{second, day, whole_days}
use Rattle.cal_time.specs.Month.{month_out_of_range}
use Rattle.cal_time.specs.Order.{ordinal_date_at, calendar_date_at, iso_week_date_at}
use Rattle.cal_time.specs.Pair.{pair_number}
use Rattle.cal_time.specs.Time.{time_of, hour_out_of_range, minute_out_of_range, second_out_of_range, text as time_text}
use Rattle.cal_time.specs.Weekday.{name, index, weekday_of_index as weekday_in_place}
use Rattle.cal_time.specs.Weeks.{weeks_in_year}
use Rattle.caltool.specs.Lines.{lines_of, words_of}
use Rattle.caltool.specs.Commands.{command_of}
use Rattle.caltool.specs.declared.command.Command.{Command}
use Rattle.caltool.specs.declared.command.Command.TheVariants.{Julian, Ordinal, Calendar, Iso, Show, Add, Moment}

-- The first of the days before n that passes the test.
unfoldable pub first_below : (ℕ → Bool) → ℕ → Option ℕ
first_below test zero = None
first_below test (suc n) = option_or (first_below test n) (if test n then Some n else None)

-- The first day of the range that passes the test.
abbrev pub first_day_where : (ℕ → Bool) → Option ℕ
first_day_where test = first_below test (last_day + 1)

-- The day of the range with these numbers, such as a calendar date.
abbrev pub day_with : (ℕ → List ℤ) → List ℤ → Option ℕ
day_with has numbers = first_day_where (λ n. pointwise int_eq (has n) numbers)

-- The Julian day of day n in a list.
abbrev pub julian_day_list : ℕ → List ℤ
julian_day_list n = julian_day_at n ∷ []

-- The text of a day: its year, its ordinal and its Julian day.
unfoldable pub day_text : ℕ → List ℕ
day_text n =
    signed_decimal (year_at n) ++ codes " ordinal " ++ decimal (ordinal_at n) ++ codes " julian " ++ signed_decimal (julian_day_at n)

-- The text of a day with its ISO week date: the date, the ISO year, the week, the number of the
-- weekday from 1, Monday, and its name.
unfoldable pub week_answer : ℕ → List ℕ
week_answer n =
    text n ++ codes " iso " ++ signed_decimal (iso_year_at n) ++ codes " " ++ decimal (iso_week_at n)
    ++ codes " " ++ decimal (weekday_at n + 1) ++ codes " " ++ name (weekday_in_place (weekday_at n))

-- The text of an error.
unfoldable pub refusal_text : ComponentRange → List ℕ
refusal_text why = codes "refused " ++ component_name why.component ++ (if why.is_conditional then codes " conditional" else [])

-- The text of the day, or the error if it doesn't exist.
abbrev pub text_or_refusal : (ℕ → List ℕ) → Option ℕ → ComponentRange → List ℕ
text_or_refusal text_of (Some n) why = text_of n
text_or_refusal text_of None why = refusal_text why

-- The date, or `none`.
abbrev pub date_or_none : Option ℕ → List ℕ
date_or_none (Some n) = text n
date_or_none None = codes "none"

-- A year of the range.
abbrev pub is_year : ℤ → Bool
is_year y = int_le first_year y && int_le y last_year

-- The number of a month.
abbrev pub is_month : ℕ → Bool
is_month m = nat_le 1 m && nat_le m 12

-- A week of an ISO year.
abbrev pub is_week : ℤ → ℕ → Bool
is_week y w = nat_le 1 w && nat_le w (weeks_in_year y)

-- The day with a Julian day.
abbrev pub day_of_julian_day : ℤ → Option ℕ
day_of_julian_day j = day_with julian_day_list (j ∷ [])

-- The day with a year and an ordinal.
abbrev pub day_of_ordinal_date : ℤ → ℕ → Option ℕ
day_of_ordinal_date y o = day_with ordinal_date_at (y ∷ pos o ∷ [])

-- The error if no day has the year and the ordinal.
abbrev pub ordinal_date_refusal : ℤ → ComponentRange
ordinal_date_refusal y = if is_year y then ordinal_out_of_range else year_out_of_range

-- The day with a year, a month and a day of the month.
abbrev pub day_of_calendar_date : ℤ → ℕ → ℕ → Option ℕ
day_of_calendar_date y m d = if is_month m then day_with calendar_date_at (y ∷ pos m ∷ pos d ∷ []) else None

-- The error if no day has the calendar date: the month comes before the year.
abbrev pub calendar_date_refusal : ℤ → ℕ → ComponentRange
calendar_date_refusal y m =
    if is_month m then (if is_year y then day_out_of_range else year_out_of_range) else month_out_of_range

-- The day with an ISO year, a week and a weekday.
abbrev pub day_of_iso_week_date : ℤ → ℕ → ℕ → Option ℕ
day_of_iso_week_date y w wd = day_with iso_week_date_at (y ∷ pos w ∷ pos wd ∷ [])

-- The error if no day has the week date.
abbrev pub iso_week_date_refusal : ℤ → ℕ → ComponentRange
iso_week_date_refusal y w =
    if is_year y then (if is_week y w then weekday_out_of_range else week_out_of_range) else year_out_of_range

-- The answer to `julian N`.
unfoldable pub julian_answer : ℤ → List ℕ
julian_answer j = text_or_refusal day_text (day_of_julian_day j) julian_day_out_of_range

-- The answer to `ordinal Y N`.
unfoldable pub ordinal_answer : ℤ → ℕ → List ℕ
ordinal_answer y o = text_or_refusal day_text (day_of_ordinal_date y o) (ordinal_date_refusal y)

-- The answer to `calendar Y M D`.
unfoldable pub calendar_answer : ℤ → ℕ → ℕ → List ℕ
calendar_answer y m d = text_or_refusal day_text (day_of_calendar_date y m d) (calendar_date_refusal y m)

-- The answer to `iso Y W D`.
unfoldable pub iso_answer : ℤ → ℕ → ℕ → List ℕ
iso_answer y w wd = text_or_refusal day_text (day_of_iso_week_date y w wd) (iso_week_date_refusal y w)

-- The answer to `show N`.
unfoldable pub show_answer : ℤ → List ℕ
show_answer j = text_or_refusal week_answer (day_of_julian_day j) julian_day_out_of_range

-- The date of day n plus the whole days of s seconds, or `none`.
unfoldable pub later_date_text : ℤ → ℕ → List ℕ
later_date_text s n = date_or_none (day_of_julian_day (julian_day_at n +ℤ whole_days (s *ℤ pos second)))

-- The answer to `add N S`.
unfoldable pub add_answer : ℤ → ℤ → List ℕ
add_answer j s = text_or_refusal (later_date_text s) (day_of_julian_day j) julian_day_out_of_range

-- The pair with number z is in day n.
abbrev pub has_pair_number : ℤ → ℕ → Bool
has_pair_number z n = int_le (julian_day_at n *ℤ pos day) z && int_lt z ((julian_day_at n +ℤ pos 1) *ℤ pos day)

-- The text of a date and a time.
unfoldable pub pair_text : ℕ → ℕ → List ℕ
pair_text n t = text n ++ codes " " ++ time_text t

-- The text of the pair with number z, or `none` if no day has it.
abbrev pub pair_or_none : ℤ → Option ℕ → List ℕ
pair_or_none z (Some n) = pair_text n (unsigned_abs (z -ℤ julian_day_at n *ℤ pos day))
pair_or_none z None = codes "none"

-- The text of the pair s seconds after day n at time t.
unfoldable pub later_pair_text : ℤ → ℕ → ℕ → List ℕ
later_pair_text s n t = let z = pair_number n t +ℤ s *ℤ pos second in pair_or_none z (first_day_where (has_pair_number z))

-- The same for an hour, a minute and a second, or the error of the first one out of range.
unfoldable pub clock_text : ℕ → ℕ → ℕ → ℤ → ℕ → List ℕ
clock_text h m s d n =
    if nat_lt 23 h then refusal_text hour_out_of_range else
    if nat_lt 59 m then refusal_text minute_out_of_range else
    if nat_lt 59 s then refusal_text second_out_of_range else
    later_pair_text d n (time_of h m s 0)

-- The answer to `moment N H M S D`.
unfoldable pub moment_answer : ℤ → ℕ → ℕ → ℕ → ℤ → List ℕ
moment_answer j h m s d = text_or_refusal (clock_text h m s d) (day_of_julian_day j) julian_day_out_of_range

-- The answer to a command, or to a line that is not a command.
unfoldable pub answer_of : Option Command → List ℕ
answer_of (Some (Julian j)) = julian_answer j
answer_of (Some (Ordinal y o)) = ordinal_answer y o
answer_of (Some (Calendar y m d)) = calendar_answer y m d
answer_of (Some (Iso y w weekday)) = iso_answer y w (index weekday)
answer_of (Some (Show j)) = show_answer j
answer_of (Some (Add j s)) = add_answer j s
answer_of (Some (Moment j h m s d)) = moment_answer j h m s d
answer_of None = codes "bad line"

-- The reply to a line is its answer and a line end, the byte 10.
unfoldable pub reply_to : List ℕ → List ℕ
reply_to line = answer_of (command_of (words_of line)) ++ 10 ∷ []

-- The output for an input is the replies to its lines, in order.
unfoldable pub out : List ℕ → List ℕ
out input = flat_map reply_to (lines_of input)
