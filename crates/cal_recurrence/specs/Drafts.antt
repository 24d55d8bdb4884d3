-- The steps that parse the parts of a text into a draft, one after another.
use Rattle.std.specs.Prelude.{ℕ, ◌+◌, ◌-◌, ◌==◌, Bool, true, false, not, List, [], ◌∷◌, length, Option, option_map, Result, Ok, Err, if◌then◌else◌}
use Rattle.std.specs.Option.{option_map_or}
use Rattle.cal_schedule.specs.Pattern.{every}
use Rattle.cal_schedule.specs.declared.rule.pattern.Pattern.{Pattern}
use Rattle.cal_schedule.specs.declared.rule.rule.Frequency.TheVariants.{Daily}
use Rattle.cal_recurrence.specs.Days.{has_end}
use Rattle.cal_recurrence.specs.DateWords.{date_or_time_of}
use Rattle.cal_recurrence.specs.Text.{fault, has_few_words, list_of}
use Rattle.cal_recurrence.specs.TimesOfDay.{no_times}
use Rattle.cal_recurrence.specs.Words.{front_at, rest_at, part_of, frequency_of, weekday_of, count_of, month_of, month_day_of, week_of, by_day_of, by_hour_of, by_minute_of, by_second_of, position_of}
use Rattle.cal_recurrence.specs.declared.draft.Draft.{Draft}
use Rattle.cal_recurrence.specs.declared.fault.RulePart.{RulePart}
use Rattle.cal_recurrence.specs.declared.fault.RulePart.TheVariants as part
use Rattle.cal_recurrence.specs.declared.fault.ParseRuleErrorKind.{ParseRuleErrorKind}
use Rattle.cal_recurrence.specs.declared.fault.ParseRuleErrorKind.TheVariants.{Unknown, Twice, TooMany, Value, Missing}
use Rattle.cal_recurrence.specs.declared.fault.ParseRuleError.{ParseRuleError}
use Rattle.cal_recurrence.specs.declared.recurrence.Recurrence.{Recurrence}
use Rattle.cal_recurrence.specs.declared.recurrence.RuleEnd.{RuleEnd}
use Rattle.cal_recurrence.specs.declared.recurrence.RuleEnd.TheVariants.{Never, Until, Count}
use Rattle.cal_recurrence.specs.declared.times_of_day.TimesOfDay.{TimesOfDay}

-- ---- one more part
-- A part was given before. A list has values if its part was given. UNTIL and COUNT both set the
-- end.
abbrev pub is_given : Draft → RulePart → Bool
is_given draft part.Frequency = draft.has_frequency
is_given draft part.Interval = draft.has_interval
is_given draft part.WeekStart = draft.has_week_start
is_given draft part.Months = not (length draft.recurrence.pattern.months == 0)
is_given draft part.Weeks = not (length draft.recurrence.pattern.weeks == 0)
is_given draft part.YearDays = not (length draft.recurrence.pattern.year_days == 0)
is_given draft part.MonthDays = not (length draft.recurrence.pattern.month_days == 0)
is_given draft part.Weekdays = not (length draft.recurrence.pattern.weekdays == 0)
is_given draft part.Hours = not (length draft.recurrence.times.hours == 0)
is_given draft part.Minutes = not (length draft.recurrence.times.minutes == 0)
is_given draft part.Seconds = not (length draft.recurrence.times.seconds == 0)
is_given draft part.Positions = not (length draft.recurrence.pattern.set_positions == 0)
is_given draft part.Until = has_end draft.recurrence.end
is_given draft part.Count = has_end draft.recurrence.end

-- The draft with another pattern.
abbrev pub with_pattern : Draft → Pattern → Draft
with_pattern draft pattern = record draft { recurrence = record draft.recurrence { pattern = pattern } }

-- The draft with other times of day.
abbrev pub with_times : Draft → TimesOfDay → Draft
with_times draft times = record draft { recurrence = record draft.recurrence { times = times } }

-- The draft with another end.
abbrev pub with_end : Draft → RuleEnd → Draft
with_end draft end = record draft { recurrence = record draft.recurrence { end = end } }

-- The draft with one more part, if the value is valid.
abbrev pub put : Draft → RulePart → List ℕ → Option Draft
put draft part.Frequency value =
    option_map (λ x. record (with_times (with_pattern draft (record draft.recurrence.pattern { frequency = x.0 })) (record draft.recurrence.times { clock = x.1 })) { has_frequency = true }) (frequency_of value)
put draft part.Interval value =
    option_map (λ x. record (with_pattern draft (record draft.recurrence.pattern { interval = x })) { has_interval = true }) (count_of 4294967295 value)
put draft part.WeekStart value =
    option_map (λ x. record (with_pattern draft (record draft.recurrence.pattern { week_start = x })) { has_week_start = true }) (weekday_of value)
put draft part.Months value = option_map (λ x. with_pattern draft (record draft.recurrence.pattern { months = x })) (list_of month_of value)
put draft part.Weeks value = option_map (λ x. with_pattern draft (record draft.recurrence.pattern { weeks = x })) (list_of week_of value)
put draft part.YearDays value = option_map (λ x. with_pattern draft (record draft.recurrence.pattern { year_days = x })) (list_of position_of value)
put draft part.MonthDays value = option_map (λ x. with_pattern draft (record draft.recurrence.pattern { month_days = x })) (list_of month_day_of value)
put draft part.Weekdays value = option_map (λ x. with_pattern draft (record draft.recurrence.pattern { weekdays = x })) (list_of by_day_of value)
put draft part.Hours value = option_map (λ x. with_times draft (record draft.recurrence.times { hours = x })) (list_of by_hour_of value)
put draft part.Minutes value = option_map (λ x. with_times draft (record draft.recurrence.times { minutes = x })) (list_of by_minute_of value)
put draft part.Seconds value = option_map (λ x. with_times draft (record draft.recurrence.times { seconds = x })) (list_of by_second_of value)
put draft part.Positions value = option_map (λ x. with_pattern draft (record draft.recurrence.pattern { set_positions = x })) (list_of position_of value)
put draft part.Until value = option_map (λ last. with_end draft (Until last)) (date_or_time_of value)
put draft part.Count value = option_map (λ n. with_end draft (Count n)) (count_of 4294967295 value)

-- The draft with the value of one more part. Its first error is that there are too many words, then
-- that the part was given before, and then that the value is invalid.
abbrev pub put_value : Draft → List ℕ → RulePart → Result Draft ParseRuleErrorKind
put_value draft value at =
    if not (has_few_words value) then Err (TooMany at) else
    if is_given draft at then Err (Twice at) else
    option_map_or Ok (put draft at value) (Err (Value at))

-- The draft with one more part: a name, and a value after `=`. An unknown name is an error.
abbrev pub put_part : Draft → List ℕ → Result Draft ParseRuleErrorKind
put_part draft text = option_map_or (put_value draft (rest_at 61 text)) (part_of (front_at 61 text)) (Err Unknown)

-- The recurrence of a draft, or the error `Missing` if the frequency wasn't given.
abbrev pub finished : ℕ → Draft → Result Recurrence ParseRuleError
finished at draft = if draft.has_frequency then Ok draft.recurrence else Err (fault at Missing)

-- The result for a part that begins at byte `at`, and the parts after it: the error of this part,
-- or the result for the others.
abbrev pub and_on : ℕ → (Draft → Result Recurrence ParseRuleError) → Result Draft ParseRuleErrorKind → Result Recurrence ParseRuleError
and_on at others (Ok draft) = others draft
and_on at others (Err why) = Err (fault at why)

-- The recurrence of a draft with more parts, the first of which begins at byte `at`, or the first
-- error.
abbrev pub read_on : ℕ → Draft → List (List ℕ) → Result Recurrence ParseRuleError
read_on at draft [] = finished (at - 1) draft
read_on at draft (text ∷ texts) = and_on at (λ more. read_on (at + length text + 1) more texts) (put_part draft text)

-- The draft without parts. The defaults are an interval of 1, weeks from Monday, empty lists and no
-- end.
abbrev pub nothing : Draft
nothing = record { recurrence = record { pattern = every Daily; times = no_times; end = Never }; has_frequency = false; has_interval = false; has_week_start = false }
