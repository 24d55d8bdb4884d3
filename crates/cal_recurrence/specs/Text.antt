-- The text of a recurrence, after the grammar of `recur` in RFC 5545. Its parts are separated by
-- `;` (59). Each has a name, `=` (61) and a value, or a list of values separated by `,` (44).
use Rattle.std.specs.Prelude.{◌≡◌, ◌≤◌, ℕ, ◌+◌, ◌-◌, ◌||◌, nat_le, nat_lt, Bool, true, false, not, List, [], ◌∷◌, ◌++◌, codes, count_by, length, Option, Some, None, option_and_then, option_map, is_some, unwrap_or, Result, Ok, Err, if◌then◌else◌}
use Rattle.std.specs.List.{All, list_any}
use Rattle.std.specs.Option.{option_map_or, option_or, option_zip}
use Rattle.cal_time.specs.declared.Weekday.TheVariants.{Monday}
use Rattle.cal_schedule.specs.Values.{most_values}
use Rattle.cal_schedule.specs.declared.rule.rule.Frequency.TheVariants.{Daily}
use Rattle.cal_recurrence.specs.Days.{excluded, ranks_alone}
use Rattle.cal_recurrence.specs.DateWords.{date_or_time_of}
use Rattle.cal_recurrence.specs.FaultText.{part_name}
use Rattle.cal_recurrence.specs.Words.{bytes_after, has_name, is_alike, parts_at, front_at, rest_at, part_of, frequency_of, weekday_of, count_of, month_of, month_day_of, week_of, by_day_of, by_hour_of, by_minute_of, by_second_of, position_of}
use Rattle.cal_recurrence.specs.declared.fault.RulePart.{RulePart}
use Rattle.cal_recurrence.specs.declared.fault.RulePart.TheVariants as part
use Rattle.cal_recurrence.specs.declared.fault.ParseRuleErrorKind.{ParseRuleErrorKind}
use Rattle.cal_recurrence.specs.declared.fault.ParseRuleErrorKind.TheVariants.{Unknown, Twice, TooMany, Value, Excluded, Alone, Missing}
use Rattle.cal_recurrence.specs.declared.fault.ParseRuleError.{ParseRuleError}
use Rattle.cal_recurrence.specs.declared.recurrence.Recurrence.{Recurrence}
use Rattle.cal_recurrence.specs.declared.recurrence.RuleEnd.{RuleEnd}
use Rattle.cal_recurrence.specs.declared.recurrence.RuleEnd.TheVariants.{Never, Until, Count}

-- ---- lists
-- The meanings of the words, in order, if each word has one.
abbrev pub each : {X : Type 0} → (List ℕ → Option X) → List (List ℕ) → Option (List X)
each meaning [] = Some []
each meaning (word ∷ words) = option_map (λ both. both.0 ∷ both.1) (option_zip (meaning word) (each meaning words))

-- The meanings of the words with commas between them, if each word has one.
abbrev pub list_of : {X : Type 0} → (List ℕ → Option X) → List ℕ → Option (List X)
list_of meaning value = each meaning (parts_at 44 value)

-- A list has room for the words with commas between them: there are at most 62.
abbrev pub has_few_words : List ℕ → Bool
has_few_words value = nat_le (length (parts_at 44 value)) most_values

-- ---- parts
-- A text is a part: what comes before its `=` is the name of the part.
abbrev pub is_part : RulePart → List ℕ → Bool
is_part at text = is_alike (front_at 61 text) (part_name at)

-- The value of a part, after the `=` of the first text that is the part. Without one it is `None`.
abbrev pub value_in : List (List ℕ) → RulePart → Option (List ℕ)
value_in [] at = None
value_in (text ∷ texts) at = if is_part at text then Some (rest_at 61 text) else value_in texts at

-- ---- what parts say
-- The meaning of a value, or the default without a value.
abbrev pub said : {X : Type 0} → (List ℕ → Option X) → X → Option (List ℕ) → X
said meaning default value = unwrap_or (option_and_then meaning value) default

-- The end that an UNTIL or a COUNT says. Without both, the recurrence has no end.
abbrev pub end_said : Option (List ℕ) → Option (List ℕ) → RuleEnd
end_said until count =
    let last = option_map Until (option_and_then date_or_time_of until) in
    let number = option_map Count (option_and_then (count_of 4294967295) count) in
    unwrap_or (option_or last number) Never

-- The recurrence that the values of parts say. The defaults are an interval of 1, weeks from Monday,
-- empty lists and no end. The default of FREQ is never used, since each rule has a FREQ.
abbrev pub recurrence_said : (RulePart → Option (List ℕ)) → Recurrence
recurrence_said values =
    let frequency = said frequency_of (Daily, None) (values part.Frequency) in
    record {
      pattern = record {
        frequency = frequency.0;
        interval = said (count_of 4294967295) 1 (values part.Interval);
        week_start = said weekday_of Monday (values part.WeekStart);
        months = said (list_of month_of) [] (values part.Months);
        weeks = said (list_of week_of) [] (values part.Weeks);
        year_days = said (list_of position_of) [] (values part.YearDays);
        month_days = said (list_of month_day_of) [] (values part.MonthDays);
        weekdays = said (list_of by_day_of) [] (values part.Weekdays);
        set_positions = said (list_of position_of) [] (values part.Positions);
      };
      times = record {
        hours = said (list_of by_hour_of) [] (values part.Hours);
        minutes = said (list_of by_minute_of) [] (values part.Minutes);
        seconds = said (list_of by_second_of) [] (values part.Seconds);
        clock = frequency.1;
      };
      end = end_said (values part.Until) (values part.Count);
    }

-- ---- what a text says
-- A value is valid in a part.
abbrev pub is_value : RulePart → List ℕ → Bool
is_value part.Frequency value = is_some (frequency_of value)
is_value part.Interval value = is_some (count_of 4294967295 value)
is_value part.WeekStart value = is_some (weekday_of value)
is_value part.Months value = is_some (list_of month_of value)
is_value part.Weeks value = is_some (list_of week_of value)
is_value part.YearDays value = is_some (list_of position_of value)
is_value part.MonthDays value = is_some (list_of month_day_of value)
is_value part.Weekdays value = is_some (list_of by_day_of value)
is_value part.Hours value = is_some (list_of by_hour_of value)
is_value part.Minutes value = is_some (list_of by_minute_of value)
is_value part.Seconds value = is_some (list_of by_second_of value)
is_value part.Positions value = is_some (list_of position_of value)
is_value part.Until value = is_some (date_or_time_of value)
is_value part.Count value = is_some (count_of 4294967295 value)

-- A text repeats a part: it is the same part, or both set the end.
abbrev pub repeats : RulePart → List ℕ → Bool
repeats part.Until text = is_part part.Until text || is_part part.Count text
repeats part.Count text = is_part part.Until text || is_part part.Count text
repeats at text = is_part at text

-- A text is a valid part: it has the name of a part, and a value of that part with at most 62 words.
pub record IsValidPart (text : List ℕ) : Type 0 where
  pub part : RulePart
  pub named : is_part part text ≡ true
  pub few : has_few_words (rest_at 61 text) ≡ true
  pub valid : is_value part (rest_at 61 text) ≡ true

-- Texts, in any order, are the parts of a rule, and say r: each is valid, none repeats another, and
-- one is FREQ. No two exclude each other, and a BYSETPOS has another list.
pub record SaysRule (texts : List (List ℕ)) (r : Recurrence) : Type 0 where
  pub parts : All IsValidPart texts
  pub once : (at : RulePart) → count_by (repeats at) texts ≤ 1
  pub frequency : is_some (value_in texts part.Frequency) ≡ true
  pub is : r ≡ recurrence_said (value_in texts)
  pub allowed : excluded r ≡ None
  pub ranked : ranks_alone r ≡ false

-- The parts of a text, with or without `RRULE:` in front.
abbrev pub parts_in : List ℕ → List (List ℕ)
parts_in text = parts_at 59 (if has_name text then bytes_after 6 text else text)

-- ---- errors
-- The error of a part with a value after other parts, if it has one: too many words, then a part
-- that was given before, and then an invalid value.
abbrev pub value_error : List (List ℕ) → List ℕ → RulePart → Option ParseRuleErrorKind
value_error before value at =
    if not (has_few_words value) then Some (TooMany at) else
    if list_any (repeats at) before then Some (Twice at) else
    if is_value at value then None else Some (Value at)

-- The error of a text after other parts, if it has one. An unknown name is an error.
abbrev pub part_error : List (List ℕ) → List ℕ → Option ParseRuleErrorKind
part_error before text = option_map_or (value_error before (rest_at 61 text)) (part_of (front_at 61 text)) (Some Unknown)

-- The error with this reason at a position.
abbrev pub fault : ℕ → ParseRuleErrorKind → ParseRuleError
fault at why = record { position = at; reason = why }

-- The error of the first text with one, if there is one. The first of the texts begins at byte `at`,
-- after other parts.
abbrev pub first_error : ℕ → List (List ℕ) → List (List ℕ) → Option ParseRuleError
first_error at before [] = None
first_error at before (text ∷ texts) =
    option_or (option_map (fault at) (part_error before text)) (first_error (at + length text + 1) (before ++ text ∷ []) texts)

-- ---- the whole
-- The position of the first part with a name, or the end. The first of the parts begins at byte
-- `at`.
abbrev pub place_of : List ℕ → ℕ → List (List ℕ) → ℕ
place_of name at [] = at - 1
place_of name at (text ∷ texts) = if is_alike (front_at 61 text) name then at else place_of name (at + length text + 1) texts

-- If two parts exclude each other, the later one is at fault.
abbrev pub later : RulePart → ℕ → RulePart → ℕ → ParseRuleError
later at place other other_place = if nat_lt place other_place then fault other_place (Excluded other) else fault place (Excluded at)

-- The error of two parts that exclude each other. The first of all parts begins at byte `at`.
abbrev pub later_of : ℕ → List (List ℕ) → RulePart × RulePart → ParseRuleError
later_of at texts both = later both.0 (place_of (part_name both.0) at texts) both.1 (place_of (part_name both.1) at texts)

-- A recurrence, or an error if two of its parts exclude each other or a BYSETPOS has no other list.
-- An earlier error stays.
abbrev pub checked : ℕ → List (List ℕ) → Result Recurrence ParseRuleError → Result Recurrence ParseRuleError
checked at texts (Ok r) = option_map_or (λ both. Err (later_of at texts both)) (excluded r)
    (if ranks_alone r then Err (fault (place_of (codes "BYSETPOS") at texts) (Alone part.Positions)) else Ok r)
checked at texts (Err why) = Err why

-- The recurrence that the parts say, or an error: that of the first part with one, or else `Missing`
-- if no part is FREQ. The first of the parts begins at byte `at`.
abbrev pub valid_parts_say : ℕ → List (List ℕ) → Result Recurrence ParseRuleError
valid_parts_say at texts =
    option_map_or Err (first_error at [] texts)
    (if is_some (value_in texts part.Frequency) then Ok (recurrence_said (value_in texts)) else Err (fault (place_of (codes "FREQ") at texts) Missing))

-- The recurrence of the parts, the first of which begins at byte `at`, or the first error.
abbrev pub parts_say : ℕ → List (List ℕ) → Result Recurrence ParseRuleError
parts_say at texts = checked at texts (valid_parts_say at texts)

-- The recurrence of a text, with or without `RRULE:` in front, or its first error.
abbrev pub recurrence_of : List ℕ → Result Recurrence ParseRuleError
recurrence_of text = if has_name text then parts_say 6 (parts_at 59 (bytes_after 6 text)) else parts_say 0 (parts_at 59 text)

-- A recurrence of days, or an error at FREQ for periods within days. An earlier error stays.
abbrev pub days_only : ℕ → List (List ℕ) → Result Recurrence ParseRuleError → Result Recurrence ParseRuleError
days_only at texts (Ok r) = if is_some r.times.clock then Err (fault (place_of (codes "FREQ") at texts) (Value part.Frequency)) else Ok r
days_only at texts (Err why) = Err why

abbrev pub days_say : ℕ → List (List ℕ) → Result Recurrence ParseRuleError
days_say at texts = days_only at texts (parts_say at texts)

-- The recurrence of a text without periods within days, or its first error.
abbrev pub day_recurrence_of : List ℕ → Result Recurrence ParseRuleError
day_recurrence_of text = if has_name text then days_say 6 (parts_at 59 (bytes_after 6 text)) else days_say 0 (parts_at 59 text)

-- A text of one line says a recurrence, also with `RRULE:` in front.
pub record ReadsBack (r : Recurrence) (text : List ℕ) : Type 0 where
  pub alone : recurrence_of text ≡ Ok r
  pub named : recurrence_of (codes "RRULE:" ++ text) ≡ Ok r
  pub one_line : All (λ byte. ¬ (byte ≡ 10)) text
