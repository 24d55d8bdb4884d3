use Rattle.std.proofs.Common.{◌≡◌, ◌++◌, ◌∙◌, ap}
use Rattle.std.specs.Prelude.{codes}
use Rattle.caldate_answers.specs.FormatErrors.{IsFormatError}
use Rattle.caldate_answers.specs.Readers.{IsFormatText}
use Rattle.caldate_answers.proofs.Nearest.{none_lacks}
use Rattle.caldate_answers.proofs.reading.yearless.may_lack_year.Goals as goal

front : (c : goal.After-bound_by_format) → c.as_bytes.result.now ≡ c.args.text.now ++ codes "/"
front c = c.as_bytes.ensures ∙ c.push-2.ensures.appended ∙ ap (λ l. l ++ codes "/") (c.push.ensures.appended ∙ ap (λ l. l ++ c.args.text.now) c.new-front.ensures)

pub returns-clause-text : goal.returns-clause-text
returns-clause-text c = λ past o year found.
    none_lacks (λ l. IsFormatText o c.args.format.now l found) c.args.text.now c.as_bytes.result.now c.bound_by_format.result (front c)
    (λ n more fits h. c.bound_by_format.ensures.front o n more found fits h) past year

pub returns-clause-error : goal.returns-clause-error
returns-clause-error c = λ past year any.
    none_lacks (λ l. IsFormatError c.args.format.now l any) c.args.text.now c.as_bytes.result.now c.bound_by_format.result (front c)
    (λ n more fits h. c.bound_by_format.ensures.error n more any fits h) past year
