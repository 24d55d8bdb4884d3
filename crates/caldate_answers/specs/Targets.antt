-- TEXT of `until` and `since` in other fields of the line.
use Rattle.std.specs.Prelude.{◌≡◌, ℕ, List, MatchOption, Option, Some, None, option_and_then, option_map, Result, Ok, Err}
use Rattle.cal_text.specs.declared.any.DateOrMoment.{DateOrMoment}
use Rattle.caldate_lines.specs.Fields.{missing_field, selected_text, with_numbers}
use Rattle.caldate_lines.specs.declared.field.Field.{Field}
use Rattle.caldate_lines.specs.declared.field_numbers.FieldNumbers.{FieldNumbers}
use Rattle.caldate_lines.specs.declared.no_answer.NoAnswer.{NoAnswer}
use Rattle.caldate_lines.specs.declared.no_answer.NoAnswer.TheVariants.{NoField, UnreadOtherField}
use Rattle.caldate_answers.specs.Answers.{Answer, IsAnswer, IsNotRead, IsReadAs}
use Rattle.caldate_answers.specs.declared.request.Filter.{Filter}
use Rattle.caldate_answers.specs.declared.request.Request.{Request}
use Rattle.caldate_answers.specs.declared.request.Request.TheVariants.{Until, Since}
use Rattle.caldate_answers.specs.declared.request.Target.{Target}
use Rattle.caldate_answers.specs.declared.request.Target.TheVariants.{Text, Fields, Name}

-- ---- requests
-- The fields of the line that have TEXT, by their numbers or by a name.
abbrev pub target_fields : Request → Option FieldNumbers
target_fields (Until own (Fields numbers) unit) = Some numbers
target_fields (Since own (Fields numbers) unit) = Some numbers
target_fields request = None

abbrev pub target_name : Request → Option (List ℕ)
target_name (Until own (Name name) unit) = Some name
target_name (Since own (Name name) unit) = Some name
target_name request = None

-- The request with this in place of its TEXT, if it has one.
abbrev pub with_target : Target → Request → Request
with_target target (Until own old unit) = Until own target unit
with_target target (Since own old unit) = Since own target unit
with_target target request = request

-- ---- lines
-- The other fields have the separator of the fields to answer, and are in quotes like them.
abbrev pub fields_beside : Request → Field → Option Field
fields_beside request field = option_map (with_numbers field) (target_fields request)

abbrev pub other_field : Filter → Option Field
other_field filter = option_and_then (fields_beside filter.request) filter.field

-- The date or moment in the text of the other fields, which is read like the string to answer, or
-- why it can't be read.
abbrev pub IsReadOther : Filter → Result DateOrMoment NoAnswer → List ℕ → Type 0
IsReadOther filter (Ok found) asked = IsReadAs filter asked found
IsReadOther filter (Err any) asked = (any ≡ UnreadOtherField) × ((why : NoAnswer) × IsNotRead filter asked why)

-- The same for the text of a line, which may lack these fields.
abbrev pub IsOther : Filter → Field → List ℕ → Result DateOrMoment NoAnswer → Type 0
IsOther filter other text found = MatchOption (selected_text other text) (found ≡ Err (NoField (missing_field other text))) (IsReadOther filter found)

-- The filter for a line whose other fields have this date or moment.
abbrev pub with_text : Filter → DateOrMoment → Filter
with_text filter found = record filter { request = with_target (Text found) filter.request }

-- The answer to the selected text for this TEXT, or the reason why TEXT is not known.
abbrev pub IsAnswerWith : Filter → List ℕ → Answer → Result DateOrMoment NoAnswer → Type 0
IsAnswerWith filter asked answer (Ok found) = IsAnswer (with_text filter found) asked answer
IsAnswerWith filter asked answer (Err any) = answer ≡ Err any

-- The answer to the selected text of a line, in which other fields may have TEXT.
abbrev pub IsAnswerBeside : Filter → List ℕ → List ℕ → Answer → Field → Type 0
IsAnswerBeside filter text asked answer other =
    (found : Result DateOrMoment NoAnswer) × IsOther filter other text found × IsAnswerWith filter asked answer found

abbrev pub IsAnswerAt : Filter → List ℕ → List ℕ → Answer → Type 0
IsAnswerAt filter text asked answer = MatchOption (other_field filter) (IsAnswer filter asked answer) (IsAnswerBeside filter text asked answer)
