-- Answers by TEXT in other fields of the line.
use Rattle.std.proofs.Common.{◌≡◌, ℕ, true, List, Option, Some, None, Result, refl, ap, subst, sym}
use Rattle.std.specs.Prelude.{MatchOption, is_some, option_and_then, option_map}
use Rattle.std.proofs.lemmas.Option.{none-some}
use Rattle.cal_text.specs.declared.any.DateOrMoment.{DateOrMoment}
use Rattle.caldate_lines.specs.declared.field.Field.{Field}
use Rattle.caldate_lines.specs.declared.field_numbers.FieldNumbers.{FieldNumbers}
use Rattle.caldate_lines.specs.declared.no_answer.NoAnswer.{NoAnswer}
use Rattle.caldate_answers.specs.Answers.{Answer, IsAnswer}
use Rattle.caldate_answers.specs.Targets.{IsAnswerAt, IsAnswerBeside, IsAnswerWith, IsOther, fields_beside, other_field, target_fields}
use Rattle.caldate_answers.specs.declared.request.Filter.{Filter}
use Rattle.caldate_answers.specs.declared.request.Request.{Request}

-- ---- the other fields
pub no_other : (filter : Filter) → filter.field ≡ None → other_field filter ≡ None
no_other filter e = ap (option_and_then (fields_beside filter.request)) e

some_of : {A B : Type 0} (o : Option A) (f : A → B) (b : B) → option_map f o ≡ Some b → is_some o ≡ true
some_of None f b e = absurd (none-some b e)
some_of (Some a) f b e = refl

pub has_fields : (request : Request) (field : Option Field) (other : Field) → option_and_then (fields_beside request) field ≡ Some other → is_some (target_fields request) ≡ true
has_fields request None other e = absurd (none-some other e)
has_fields request (Some field) other e = some_of (target_fields request) (λ (numbers : FieldNumbers). record field { first = numbers.first; joined = numbers.joined }) other e

-- ---- the answer, from the answer for a request
pub by_itself : (filter : Filter) (text asked : List ℕ) (answer : Answer) → other_field filter ≡ None → IsAnswer filter asked answer → IsAnswerAt filter text asked answer
by_itself filter text asked answer none h =
    subst (λ (o : Option Field). MatchOption o (IsAnswer filter asked answer) (IsAnswerBeside filter text asked answer)) (sym none) h

pub beside : (filter : Filter) (other : Field) (text asked : List ℕ) (answer : Answer) (found : Result DateOrMoment NoAnswer) → other_field filter ≡ Some other
    → IsOther filter other text found → IsAnswerWith filter asked answer found → IsAnswerAt filter text asked answer
beside filter other text asked answer found some is h =
    subst (λ (o : Option Field). MatchOption o (IsAnswer filter asked answer) (IsAnswerBeside filter text asked answer)) (sym some) (found, is, h)
