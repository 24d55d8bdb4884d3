-- The reasons why a text has no answer.
use Rattle.std.specs.Prelude.{ℕ, ◌==◌, List, ◌++◌, codes, decimal, if◌then◌else◌}
use Rattle.cal_time.specs.ComponentError.{component_name}
use Rattle.cal_time.specs.declared.error.ComponentRange.{ComponentRange}
use Rattle.cal_text.specs.declared.error.ParseError.{ParseError}
use Rattle.cal_text.specs.declared.error.ParseError.TheVariants.{UnexpectedByte, UnexpectedEnd, OutOfRange}
use Rattle.caldate_lines.specs.declared.missing_field.MissingField.{MissingField}
use Rattle.caldate_lines.specs.declared.no_answer.NoAnswer.{NoAnswer}
use Rattle.caldate_lines.specs.declared.no_answer.NoAnswer.TheVariants as why

-- The words for a component that is out of range: `refused month` if it is never valid, or
-- `no such day` if that depends on the other components.
abbrev pub refusal_words : ComponentRange → List ℕ
refusal_words error = if error.is_conditional then codes "no such " else codes "refused "

abbrev pub refused_text : ComponentRange → List ℕ
refused_text error = refusal_words error ++ component_name error.component

-- The words for a missing field: `no field 7: the line has 2 fields`.
abbrev pub missing_text : MissingField → List ℕ
missing_text missing =
    codes "no field " ++ decimal missing.number ++ codes ": the line has " ++ decimal missing.count ++ (if missing.count == 1 then codes " field" else codes " fields")

-- The words for a reason.
abbrev pub reason : NoAnswer → List ℕ
reason why.TooLong = codes "line too long"
reason (why.NoField missing) = missing_text missing
reason why.UnreadOtherField = codes "other field unreadable"
reason why.NoForm = codes "in no form of --read"
reason why.None = codes "none"
reason why.Skipped = codes "skipped time"
reason why.Repeated = codes "repeated time"
reason (why.Rejected component) = refused_text component
reason (why.Unreadable at) = codes "unreadable at " ++ decimal at

-- The reason why a text can't be read, without a position.
abbrev pub brief_reason_of : ParseError → NoAnswer
brief_reason_of (OutOfRange component) = why.Rejected component
brief_reason_of other = why.NoForm

-- The reason why a text can't be read.
abbrev pub reason_of : ParseError → NoAnswer
reason_of (UnexpectedByte at) = why.Unreadable at
reason_of (UnexpectedEnd at) = why.Unreadable at
reason_of (OutOfRange component) = why.Rejected component
