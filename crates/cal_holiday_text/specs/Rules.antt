-- The text of rules of holidays. A line has the words of a rule between spaces (32), the first of
-- which is a day, and a comment after `#` (35).
use Rattle.std.specs.Prelude.{ℕ, ◌+◌, ◌==◌, ◌&&◌, nat_lt, nat_le, int_le, Bool, ℤ, pos, List, [], ◌∷◌, ◌++◌, drop, length, replicate, slice_index, slice_index_or, slice_set, Option, Some, None, option_map, option_and_then, Result, Ok, Err, if◌then◌else◌}
use Rattle.std.specs.Option.{option_map_or, option_zip}
use Rattle.std.specs.Ordering.{int_eq}
use Rattle.cal_time.specs.Date.{first_year, last_year}
use Rattle.cal_time.specs.Weekday.{index}
use Rattle.cal_time.specs.declared.Weekday.{Weekday}
use Rattle.cal_holidays.specs.declared.holiday_day.HolidayDay.{HolidayDay}
use Rattle.cal_holidays.specs.declared.holiday_rule.HolidayRule.{HolidayRule}
use Rattle.cal_recurrence.specs.SetText.{without_return}
use Rattle.cal_recurrence.specs.Words.{bytes_after, count_of, first_bytes, front_at, parts_at, rest_at, weekday_of}
use Rattle.cal_holiday_text.specs.Days.{day_of, days_of}
use Rattle.cal_holiday_text.specs.declared.error.ParseHolidayRuleError.{ParseHolidayRuleError}
use Rattle.cal_holiday_text.specs.declared.error.ParseHolidayRuleErrorKind.{ParseHolidayRuleErrorKind}
use Rattle.cal_holiday_text.specs.declared.error.ParseHolidayRuleErrorKind.TheVariants.{Invalid, TooMany}

-- ---- the first word
-- The rule of a day in the years from one through another, with no moves.
abbrev pub rule_within : ℤ → ℤ → HolidayDay → HolidayRule
rule_within first last day = record { day = day; first_year = first; last_year = last; moves = replicate 7 (pos 0) }

-- A year of more than two digits, since a month has at most two.
abbrev pub long_year_of : List ℕ → Option ℤ
long_year_of word = if nat_lt 2 (length word) then option_map pos (count_of 999999 word) else None

-- The rule of a day in each year. 2000 is a leap year, so it has each day.
unfoldable pub yearly_rule_of : List ℕ → Option HolidayRule
yearly_rule_of word = option_map (rule_within first_year last_year) (day_of (pos 2000) word)

-- The rule of the first word: a day in each year, or after a year and `-` (45) only in this year.
unfoldable pub first_word_of : List ℕ → Option HolidayRule
first_word_of word = option_map_or (λ y. option_map (rule_within y y) (day_of y (rest_at 45 word))) (long_year_of (front_at 45 word)) (yearly_rule_of word)

-- ---- further words
-- A year, or a default for no bytes.
abbrev pub year_or : ℤ → List ℕ → Option ℤ
year_or default word = if length word == 0 then Some default else option_map pos (count_of 999999 word)

-- Years, by the bytes before and after the first point (46). A second one comes next.
unfoldable pub years_around : List ℕ → List ℕ → Option (ℤ × ℤ)
years_around first rest = if slice_index rest 0 == 46 then option_zip (year_or first_year first) (year_or last_year (drop 1 rest)) else None

-- Years, such as 1999..2009, 1999.. or ..2009.
abbrev pub years_of : List ℕ → Option (ℤ × ℤ)
years_of word = years_around (front_at 46 word) (rest_at 46 word)

-- A rule has no years yet, and a first year isn't after a last one.
abbrev pub has_all_years : HolidayRule → Bool
has_all_years rule = int_eq rule.first_year first_year && int_eq rule.last_year last_year

abbrev pub with_years : HolidayRule → ℤ × ℤ → Option HolidayRule
with_years rule years =
    if has_all_years rule && int_le years.0 years.1 then Some (record rule { first_year = years.0; last_year = years.1 }) else None

-- A move, such as SU+1: a weekday and the days by which it is moved.
abbrev pub move_of : List ℕ → Option (Weekday × ℤ)
move_of word = if nat_le 2 (length word) then option_zip (weekday_of (first_bytes 2 word)) (days_of (bytes_after 2 word)) else None

-- A rule with one more move, unless it has one of the weekday.
abbrev pub with_move : HolidayRule → Weekday × ℤ → Option HolidayRule
with_move rule move =
    if int_eq (slice_index_or rule.moves (index move.0) (pos 0)) (pos 0) then Some (record rule { moves = slice_set rule.moves (index move.0) move.1 }) else None

unfoldable pub with_word : HolidayRule → List ℕ → Option HolidayRule
with_word rule word = option_map_or (with_years rule) (years_of word) (option_and_then (with_move rule) (move_of word))

-- ---- a line
-- The rule of a line after one more word, if it has any words. There may be no bytes between spaces.
abbrev pub after_word : Option HolidayRule → List ℕ → Option HolidayRule
after_word None word = first_word_of word
after_word (Some rule) word = with_word rule word

abbrev pub rule_after : Option HolidayRule → List ℕ → Option (Option HolidayRule)
rule_after rule word = if length word == 0 then Some rule else option_map Some (after_word rule word)

-- The rule after more words, the first of which begins at byte `at`, or the position of the first
-- invalid word.
abbrev pub read_words : ℕ → Option HolidayRule → List (List ℕ) → Result (Option HolidayRule) ℕ
read_words at rule [] = Ok rule
read_words at rule (word ∷ words) = option_map_or (λ more. read_words (at + length word + 1) more words) (rule_after rule word) (Err at)

-- The rule of a line that begins at byte `at`. A line without words has none.
abbrev pub line_rule : ℕ → List ℕ → Result (Option HolidayRule) ℕ
line_rule at line = read_words at None (parts_at 32 (front_at 35 (without_return line)))

-- ---- the whole
-- The error with this reason at a position.
abbrev pub error : ℕ → ParseHolidayRuleErrorKind → ParseHolidayRuleError
error at why = record { position = at; reason = why }

-- The rules with the rule of one more line, if there are fewer than `room`.
abbrev pub with_rule : ℕ → ℕ → List HolidayRule → Option HolidayRule → Result (List HolidayRule) ParseHolidayRuleError
with_rule room at rules None = Ok rules
with_rule room at rules (Some rule) = if nat_lt (length rules) room then Ok (rules ++ rule ∷ []) else Err (error at TooMany)

abbrev pub with_line : ℕ → ℕ → List HolidayRule → Result (Option HolidayRule) ℕ → Result (List HolidayRule) ParseHolidayRuleError
with_line room at rules (Ok rule) = with_rule room at rules rule
with_line room at rules (Err invalid) = Err (error invalid Invalid)

-- The result for the lines after one, if it has no error.
abbrev pub and_on : (List HolidayRule → Result (List HolidayRule) ParseHolidayRuleError) → Result (List HolidayRule) ParseHolidayRuleError → Result (List HolidayRule) ParseHolidayRuleError
and_on others (Ok rules) = others rules
and_on others (Err why) = Err why

-- The rules with those of more lines, the first of which begins at byte `at`, or the first error.
abbrev pub read_lines : ℕ → ℕ → List HolidayRule → List (List ℕ) → Result (List HolidayRule) ParseHolidayRuleError
read_lines room at rules [] = Ok rules
read_lines room at rules (line ∷ lines) = and_on (λ more. read_lines room (at + length line + 1) more lines) (with_line room at rules (line_rule at line))

-- The rules of a text, if there are at most `room`, or its first error.
abbrev pub rules_of : ℕ → List ℕ → Result (List HolidayRule) ParseHolidayRuleError
rules_of room text = read_lines room 0 [] (parts_at 10 text)
