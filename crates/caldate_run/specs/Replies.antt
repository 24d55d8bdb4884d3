-- The reply to a line, and the count of the lines without an answer.
use Rattle.std.specs.Prelude.{◌≡◌, ℕ, ◌+◌, ◌==◌, ◌&&◌, not, nat_lt, Bool, true, false, List, [], ◌++◌, length, MatchBool, MatchOption, IsSomeAnd, Option, Some, None, is_some, Ok, Err, if◌then◌else◌}
use Rattle.std.specs.Result.{result_err}
use Rattle.caldate_lines.specs.Fields.{text_without, with_last}
use Rattle.caldate_lines.specs.Lines.{end_of, text_of}
use Rattle.caldate_lines.specs.Reasons.{reason}
use Rattle.caldate_lines.specs.Room.{longest_answer, longest_text}
use Rattle.caldate_lines.specs.RunStates.{counted, more}
use Rattle.caldate_lines.specs.declared.no_answer.NoAnswer.{NoAnswer}
use Rattle.caldate_lines.specs.declared.no_answer.NoAnswer.TheVariants as why
use Rattle.caldate_lines.specs.declared.on_invalid.OnInvalid.{OnInvalid}
use Rattle.caldate_lines.specs.declared.on_invalid.OnInvalid.TheVariants as invalid
use Rattle.caldate_lines.specs.declared.field.Field.{Field}
use Rattle.caldate_lines.specs.declared.tally.Tally.{Tally}
use Rattle.caldate_lines.specs.declared.unanswered.UnansweredLine.{UnansweredLine}
use Rattle.caldate_answers.specs.Answers.{Answer}
use Rattle.caldate_answers.specs.Scans.{IsScanned}
use Rattle.caldate_answers.specs.declared.request.Filter.{Filter}
use Rattle.caldate_run.specs.Pieces.{IsAnswered, instead, pieces_of}

-- ---- a line that is not cut
-- The header with the name of a new field. A name that is longer than an answer has no room.
abbrev pub with_name : Field → List ℕ → List ℕ → Answer
with_name field text name = if nat_lt longest_answer (length name) then Err why.TooLong else Ok (Some (with_last field text name))

abbrev pub header_with : Option Field → Option (List ℕ) → List ℕ → Answer
header_with (Some field) (Some name) text = with_name field text name
header_with field name text = Ok (Some text)

-- A skipped text stays as it is. The first one is the header if the new field has a name.
abbrev pub skipped : Filter → ℕ → List ℕ → Answer
skipped filter before text = if before == 0 then header_with filter.field filter.column text else Ok (Some text)

-- A line that is too long or skipped gets a new field only with the fields of the others, or as the
-- header.
abbrev pub own_field : Filter → ℕ → Option Field
own_field filter before = if nat_lt before filter.skip && not (before == 0 && is_some filter.column) then None else filter.field

-- The line has this answer as a whole. Without one, it or the reason goes out.
abbrev pub of_line : OnInvalid → List ℕ → Answer → Option (List ℕ)
of_line mode source (Ok out) = out
of_line mode source (Err any) = instead mode source (reason any)

abbrev pub IsLine : OnInvalid → List ℕ → Answer → Option NoAnswer → Option (List ℕ) → Type 0
IsLine mode source answer any out = (any ≡ result_err answer) × (out ≡ of_line mode source answer)

-- ---- the outcome
-- With --scan, the strings of the line are answered.
abbrev pub IsOutcomeOfText : Filter → List ℕ → Option NoAnswer → Option (List ℕ) → Type 0
IsOutcomeOfText filter text any out =
    MatchBool filter.scans ((answer : Answer) × IsScanned filter text answer × IsLine filter.on_invalid text answer any out)
    (IsAnswered filter text (pieces_of filter text) any out)

-- Why the text of a line after `before` lines has no answer, and what goes out for it.
abbrev pub IsOutcome : Filter → ℕ → List ℕ → Option NoAnswer → Option (List ℕ) → Type 0
IsOutcome filter before text any out =
    let line = text_without (own_field filter before) text in
    MatchBool (nat_lt longest_text (length text)) (IsLine filter.on_invalid line (Err why.TooLong) any out)
    (MatchBool (nat_lt before filter.skip) (IsLine filter.on_invalid line (skipped filter before text) any out) (IsOutcomeOfText filter text any out))

-- ---- a line without an answer
-- A run ends at the line.
abbrev pub stops : OnInvalid → Bool
stops invalid.Stop = true
stops mode = false

-- The line after `before` lines is described by its number, counted from 1, and its reason.
pub record Describes (before : ℕ) (any : NoAnswer) (reported : UnansweredLine) : Type 0 where
  pub number_is : reported.number ≡ counted (before + 1)
  pub why_is : reported.why ≡ any

-- ---- the reply
-- The line is counted. The first one without an answer is described.
abbrev pub IsCounted : ℕ → Option NoAnswer → Tally → Tally → Type 0
IsCounted before None old new = new ≡ record { lines = more old.lines; unanswered = old.unanswered; first = old.first }
IsCounted before (Some any) old new =
    (new.lines ≡ more old.lines) × (new.unanswered ≡ more old.unanswered)
    × MatchOption old.first (IsSomeAnd new.first (Describes before any)) (λ first. new.first ≡ Some first)

-- A line goes out with its end.
abbrev pub with_end : List ℕ → Option (List ℕ) → List ℕ
with_end line None = []
with_end line (Some words) = words ++ end_of line

-- The reply to a line after `before` lines, and the tally before and after it. The run goes on.
pub record IsReplyTo (filter : Filter) (before : ℕ) (line reply : List ℕ) (old new : Tally) : Type 0 where
  pub why : Option NoAnswer
  pub out : Option (List ℕ)
  pub is : IsOutcome filter before (text_of line) why out
  pub goes_on : (is_some why && stops filter.on_invalid) ≡ false
  pub reply_is : reply ≡ with_end line out
  pub counts : IsCounted before why old new

-- The run ends at this line after `before` lines.
pub record EndsAt (filter : Filter) (before : ℕ) (line : List ℕ) (reported : UnansweredLine) : Type 0 where
  pub out : Option (List ℕ)
  pub is : IsOutcome filter before (text_of line) (Some reported.why) out
  pub ends : stops filter.on_invalid ≡ true
  pub reported_is : Describes before reported.why reported
