-- The text of a recurrence set, after the properties of RFC 5545. Its lines end with a line feed
-- (10), which a carriage return (13) can precede. Each has a name, parameters after `;` (59), `:`
-- (58) and a value, or a list of values separated by `,` (44). The value of a parameter comes after
-- `=` (61), and can have `;` and `:` in quotation marks (34).
use Rattle.std.specs.Char.{is_ascii_alphanumeric}
use Rattle.std.specs.Prelude.{◌≡◌, ◌⊎◌, ◌<◌, ℕ, ◌+◌, ◌-◌, ◌==◌, ◌&&◌, ◌||◌, nat_le, nat_lt, Bool, true, false, not, List, [], ◌∷◌, ◌++◌, codes, length, map, filter_map, take, drop, slice_get, slice_index, Option, Some, None, option_map, option_and_then, is_some, unwrap_or, bytes_eq, Result, Ok, Err, MatchResult, if◌then◌else◌}
use Rattle.std.specs.List.{flat_map, list_all, list_any}
use Rattle.std.specs.Option.{option_map_or, option_or}
use Rattle.std.specs.Result.{result_err, result_ok}
use Rattle.cal_schedule.specs.Pattern.{every}
use Rattle.cal_schedule.specs.Values.{most_values}
use Rattle.cal_schedule.specs.declared.rule.rule.Frequency.TheVariants.{Daily}
use Rattle.cal_recurrence.specs.DateWords.{date_or_time_of}
use Rattle.cal_recurrence.specs.Text.{fault, list_of, parts_say}
use Rattle.cal_recurrence.specs.TimesOfDay.{no_times}
use Rattle.cal_recurrence.specs.Words.{first_bytes, is_alike, parts_at, front_at, rest_at, front_outside, parts_outside, rest_outside}
use Rattle.cal_recurrence.specs.declared.date_or_time.DateOrTime.{DateOrTime}
use Rattle.cal_recurrence.specs.declared.date_or_time.DateOrTime.TheVariants.{Date, Local, Utc}
use Rattle.cal_recurrence.specs.declared.fault.ParseRuleError.{ParseRuleError}
use Rattle.cal_recurrence.specs.declared.fault.ParseRuleErrorKind.TheVariants.{Unknown as UnknownPart}
use Rattle.cal_recurrence.specs.declared.recurrence.Recurrence.{Recurrence}
use Rattle.cal_recurrence.specs.declared.recurrence.RuleEnd.TheVariants.{Count}
use Rattle.cal_recurrence.specs.declared.set_fault.ParseSetError.{ParseSetError}
use Rattle.cal_recurrence.specs.declared.set_fault.ParseSetErrorKind.{ParseSetErrorKind}
use Rattle.cal_recurrence.specs.declared.set_fault.ParseSetErrorKind.TheVariants.{Unknown, Twice, TooMany, Value, OtherZone, Rule, Missing}
use Rattle.cal_recurrence.specs.declared.set_fault.SetLine.{SetLine}
use Rattle.cal_recurrence.specs.declared.set_fault.SetLine.TheVariants as line
use Rattle.cal_recurrence.specs.declared.set_draft.SetDraft.{SetDraft}
use Rattle.cal_recurrence.specs.declared.set_parts.SetParts.{SetParts}

-- ---- parameters
-- The bytes between two quotation marks, or the whole text without them at its ends.
abbrev pub unquoted : List ℕ → List ℕ
unquoted text = if nat_le 2 (length text) && ((slice_index text 0 == 34) && (slice_index text (length text - 1) == 34)) then take (length text - 2) (drop 1 text) else text

-- A parameter gives the name of a zone: its name is `TZID`.
abbrev pub names_zone : List ℕ → Bool
names_zone parameter = is_alike (front_at 61 parameter) (codes "TZID")

-- The name of a zone that a parameter gives.
abbrev pub zone_in : List ℕ → List ℕ
zone_in parameter = unquoted (rest_at 61 parameter)

-- A byte that the name of a zone can have: it ends no line, value, head or parameter.
abbrev pub is_name_byte : ℕ → Bool
is_name_byte byte = not (byte == 10) && (not (byte == 34) && (not (byte == 58) && not (byte == 59)))

-- A name of a zone.
abbrev pub is_zone_name : List ℕ → Bool
is_zone_name name = list_all is_name_byte name

-- A byte of the name of a parameter: an ASCII letter or digit, or `-` (45).
abbrev pub is_token_byte : ℕ → Bool
is_token_byte byte = is_ascii_alphanumeric byte || (byte == 45)

-- A name of a parameter.
abbrev pub is_token : List ℕ → Bool
is_token name = not (length name == 0) && list_all is_token_byte name

-- The name of a parameter that readers know.
abbrev pub is_known : List ℕ → Bool
is_known name = is_alike name (codes "VALUE") || is_alike name (codes "TZID")

-- A parameter that readers ignore: one with a name that they don't know, `=` and a value.
abbrev pub is_ignored : List ℕ → Bool
is_ignored parameter =
    let name = front_at 61 parameter in
    list_any (λ b. b == 61) parameter && (is_token name && not (is_known name))

-- ---- values
-- The values are periods (RFC 5545, section 3.3.9): a parameter is `VALUE=PERIOD`.
abbrev pub are_periods : List (List ℕ) → Bool
are_periods [] = false
are_periods (parameter ∷ parameters) = is_alike parameter (codes "VALUE=PERIOD") || are_periods parameters

-- The start of a period, which comes before `/` (47). Its end or duration isn't read.
abbrev pub period_start : List ℕ → Option (List ℕ)
period_start word = if list_any (λ b. b == 47) word then Some (front_at 47 word) else None

-- The part of a word that is read: the start of a period, if `/` follows it, or a word that isn't
-- a period.
abbrev pub read_part : List (List ℕ) → List ℕ → Option (List ℕ)
read_part parameters word = if are_periods parameters then period_start word else Some word

-- A parameter allows a value: `VALUE=DATE` a date, `VALUE=DATE-TIME` and `VALUE=PERIOD` a reading,
-- `TZID` with the name of a zone a reading without `Z`, and a parameter that readers ignore each value.
abbrev pub is_date : DateOrTime → Bool
is_date (Date n) = true
is_date (Local z) = false
is_date (Utc z) = false

abbrev pub is_local : DateOrTime → Bool
is_local (Date n) = false
is_local (Local z) = true
is_local (Utc z) = false

abbrev pub allows : List ℕ → DateOrTime → Bool
allows parameter value =
    if is_alike parameter (codes "VALUE=DATE") then is_date value else
    if is_alike parameter (codes "VALUE=DATE-TIME") || is_alike parameter (codes "VALUE=PERIOD") then not (is_date value) else
    if names_zone parameter then is_zone_name (zone_in parameter) && is_local value else
    is_ignored parameter

-- The parts after the first.
abbrev pub after_first_part : List (List ℕ) → List (List ℕ)
after_first_part [] = []
after_first_part (name ∷ parameters) = parameters

-- The parameters of a line, which come after its name.
abbrev pub parameters_of : List ℕ → List (List ℕ)
parameters_of head = after_first_part (parts_outside 59 false head)

-- Each parameter allows a value.
abbrev pub all_allow : List (List ℕ) → DateOrTime → Bool
all_allow [] value = true
all_allow (parameter ∷ parameters) value = allows parameter value && all_allow parameters value

-- A value, if each parameter allows it.
abbrev pub if_allowed : List (List ℕ) → DateOrTime → Option DateOrTime
if_allowed parameters value = if all_allow parameters value then Some value else None

-- The value that a word says, if each parameter allows it.
abbrev pub value_of : List (List ℕ) → List ℕ → Option DateOrTime
value_of parameters word = option_and_then (if_allowed parameters) (option_and_then date_or_time_of (read_part parameters word))

-- A list of some values has room for the words with commas between them: there are at most 62.
abbrev pub has_room : ℕ → List ℕ → Bool
has_room filled value = nat_le (filled + length (parts_at 44 value)) most_values

-- ---- lines
-- A line without the carriage return at its end.
abbrev pub without_return : List ℕ → List ℕ
without_return text = if slice_index text (length text - 1) == 13 then first_bytes (length text - 1) text else text

-- The lines of a text, without their ends.
abbrev pub lines_of : List ℕ → List (List ℕ)
lines_of text = map without_return (parts_at 10 text)

-- The line with the name that a word is, if there is one.
abbrev pub line_of : List ℕ → Option SetLine
line_of word =
    if is_alike word (codes "DTSTART") then Some line.Start else
    if is_alike word (codes "RRULE") then Some line.Rule else
    if is_alike word (codes "RDATE") then Some line.Dates else
    if is_alike word (codes "EXDATE") then Some line.Exceptions else
    None

-- The kind of a line, by its name.
abbrev pub kind_of : List ℕ → Option SetLine
kind_of text = line_of (front_outside 59 (front_outside 58 text))

-- A line has this name.
abbrev pub is_named : SetLine → Option SetLine → Bool
is_named line.Start (Some line.Start) = true
is_named line.Rule (Some line.Rule) = true
is_named line.Dates (Some line.Dates) = true
is_named line.Exceptions (Some line.Exceptions) = true
is_named its other = false

-- The parameters of a line, which come after its name.
abbrev pub parameters_on : List ℕ → List (List ℕ)
parameters_on text = parameters_of (front_outside 58 text)

-- The value of a line, if its parameters allow it.
abbrev pub value_on : List ℕ → Option DateOrTime
value_on text = value_of (parameters_on text) (rest_outside 58 text)

-- The values of a line with commas between them, if its parameters allow each.
abbrev pub values_on : List ℕ → Option (List DateOrTime)
values_on text = list_of (value_of (parameters_on text)) (rest_outside 58 text)

-- Readers ignore each parameter.
abbrev pub all_ignored : List (List ℕ) → Bool
all_ignored [] = true
all_ignored (parameter ∷ parameters) = is_ignored parameter && all_ignored parameters

-- A line has a value: `:` comes after its head.
abbrev pub has_value : List ℕ → Bool
has_value text = nat_lt (length (front_outside 58 text)) (length text)

-- The recurrence of a line, or its first error, at a position from the start of the line. A line with
-- a parameter that readers don't ignore is an unknown part.
abbrev pub recurrence_on : List ℕ → Result Recurrence ParseRuleError
recurrence_on text =
    if has_value text && all_ignored (parameters_on text) then parts_say (length (front_outside 58 text) + 1) (parts_at 59 (rest_outside 58 text))
    else Err (fault 0 UnknownPart)

-- The first name of a zone among some parameters.
abbrev pub first_zone : List (List ℕ) → Option (List ℕ)
first_zone [] = None
first_zone (parameter ∷ parameters) = if names_zone parameter then Some (zone_in parameter) else first_zone parameters

-- Each name of a zone among some parameters is this one.
abbrev pub all_name : List (List ℕ) → List ℕ → Bool
all_name [] zone = true
all_name (parameter ∷ parameters) zone = (not (names_zone parameter) || bytes_eq (zone_in parameter) zone) && all_name parameters zone

-- ---- the parts that lines say
-- The start that a line says.
abbrev pub start_on : List ℕ → Option DateOrTime
start_on text = if is_named line.Start (kind_of text) then value_on text else None

-- The recurrence that a line says.
abbrev pub rule_on : List ℕ → Option Recurrence
rule_on text = if is_named line.Rule (kind_of text) then result_ok (recurrence_on text) else None

-- The values that a line with this name says.
abbrev pub listed_on : SetLine → List ℕ → List DateOrTime
listed_on its text = if is_named its (kind_of text) then unwrap_or (values_on text) [] else []

-- The zone that a line names.
abbrev pub zone_on : List ℕ → Option (List ℕ)
zone_on text = first_zone (parameters_on text)

-- The parts that lines say: the first start, the first recurrence and the first zone, and all dates
-- and exceptions in order. Lines without an error say no second start, recurrence or zone.
abbrev pub parts_of : List (List ℕ) → SetDraft
parts_of lines = record {
  start = slice_get (filter_map start_on lines) 0;
  recurrence = slice_get (filter_map rule_on lines) 0;
  dates = flat_map (listed_on line.Dates) lines;
  exceptions = flat_map (listed_on line.Exceptions) lines;
  zone = slice_get (filter_map zone_on lines) 0;
}

-- ---- errors
-- An error, unless a test passes.
abbrev pub error_unless : Bool → ParseSetErrorKind → Option ParseSetErrorKind
error_unless passes why = if passes then None else Some why

-- The error in the values of a line, if there are already `filled` values: too many in all, or an
-- invalid one.
abbrev pub list_error : ℕ → List ℕ → SetLine → Option ParseSetErrorKind
list_error filled text its = option_or (error_unless (has_room filled (rest_outside 58 text)) (TooMany its)) (error_unless (is_some (values_on text)) (Value its))

-- The values of a line are periods. Only a line `RDATE` has such values.
abbrev pub has_periods : List ℕ → Bool
has_periods text = are_periods (parameters_on text)

-- The error in the value of a line after lines that say some parts.
abbrev pub value_error : SetDraft → List ℕ → SetLine → Option ParseSetErrorKind
value_error said text line.Start = option_or (error_unless (not (is_some said.start)) (Twice line.Start)) (error_unless (not (has_periods text) && is_some (value_on text)) (Value line.Start))
value_error said text line.Rule = option_or (error_unless (not (is_some said.recurrence)) (Twice line.Rule)) (option_map Rule (result_err (recurrence_on text)))
value_error said text line.Dates = list_error (length said.dates) text line.Dates
value_error said text line.Exceptions = option_or (error_unless (not (has_periods text)) (Value line.Exceptions)) (list_error (length said.exceptions) text line.Exceptions)

-- The error of a line that names another zone than a line before it, or two zones.
abbrev pub zone_error : SetDraft → List ℕ → SetLine → Option ParseSetErrorKind
zone_error said text its = option_map_or (λ zone. error_unless (all_name (parameters_on text) zone) (OtherZone its)) (option_or said.zone (zone_on text)) None

-- The error of a line after lines that say some parts, if it has one. An empty line says nothing.
abbrev pub error_after : SetDraft → List ℕ → Option ParseSetErrorKind
error_after said text =
    if length text == 0 then None else
    option_map_or (λ its. option_or (value_error said text its) (zone_error said text its)) (kind_of text) (Some Unknown)

-- The error of line k after the lines before it, if it has one.
abbrev pub error_at : List (List ℕ) → ℕ → Option ParseSetErrorKind
error_at lines k = option_and_then (error_after (parts_of (take k lines))) (slice_get lines k)

-- No line has an error.
abbrev pub AreValid : List (List ℕ) → Type 0
AreValid lines = (k : ℕ) → error_at lines k ≡ None

-- ---- the whole
-- The recurrence without a line `RRULE`: the start, once.
abbrev pub once : Recurrence
once = record { pattern = every Daily; times = no_times; end = Count 1 }

-- The parts of a set, from those that lines say and their start.
abbrev pub parts_from : SetDraft → DateOrTime → SetParts
parts_from said start = record { start = start; recurrence = unwrap_or said.recurrence once; dates = said.dates; exceptions = said.exceptions; zone = said.zone }

-- Lines say the parts of a set: none has an error, the line DTSTART says the start, the line RRULE
-- the recurrence, the lines RDATE and EXDATE the dates and the exceptions, and each TZID the zone.
pub record SaysSet (lines : List (List ℕ)) (p : SetParts) : Type 0 where
  pub valid : AreValid lines
  pub start : (parts_of lines).start ≡ Some p.start
  pub is : p ≡ parts_from (parts_of lines) p.start

-- The number of bytes of some lines with their line feeds.
abbrev pub size_of : List (List ℕ) → ℕ
size_of [] = 0
size_of (text ∷ texts) = length text + 1 + size_of texts

-- A line is the first one with an error, and begins at its position.
pub record IsLineError (text : List ℕ) (e : ParseSetError) : Type 0 where
  pub line : ℕ
  pub first : (k : ℕ) → k < line → error_at (lines_of text) k ≡ None
  pub reason : error_at (lines_of text) line ≡ Some e.reason
  pub position : e.position ≡ size_of (take line (parts_at 10 text))

-- No line has an error, and none is the start.
pub record LacksStart (text : List ℕ) (e : ParseSetError) : Type 0 where
  pub valid : AreValid (lines_of text)
  pub start : (parts_of (lines_of text)).start ≡ None
  pub is : e ≡ record { position = length text; reason = Missing }

-- A text says the parts of a set, or has this error.
abbrev pub IsSetOf : List ℕ → Result SetParts ParseSetError → Type 0
IsSetOf text result = MatchResult result (SaysSet (lines_of text)) (λ e. IsLineError text e ⊎ LacksStart text e)

-- ---- one more line
-- The parts with the value of one more line.
abbrev pub with_value : SetDraft → List ℕ → SetLine → SetDraft
with_value said text line.Start = record said { start = value_on text }
with_value said text line.Rule = record said { recurrence = result_ok (recurrence_on text) }
with_value said text line.Dates = record said { dates = said.dates ++ unwrap_or (values_on text) [] }
with_value said text line.Exceptions = record said { exceptions = said.exceptions ++ unwrap_or (values_on text) [] }

-- The parts with the zone of one more line.
abbrev pub with_zone : SetDraft → List ℕ → SetDraft
with_zone said text = record said { zone = option_or said.zone (zone_on text) }

-- The parts with one more line that has no error.
abbrev pub with_line : SetDraft → List ℕ → SetDraft
with_line said text = if length text == 0 then said else option_map_or (λ its. with_zone (with_value said text its) text) (kind_of text) said

-- An error, or else a value.
abbrev pub unless_error : {X : Type 0} → Option ParseSetErrorKind → X → Result X ParseSetErrorKind
unless_error None x = Ok x
unless_error (Some why) x = Err why
