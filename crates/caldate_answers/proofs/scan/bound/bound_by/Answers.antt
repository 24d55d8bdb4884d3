use Rattle.std.proofs.Common.{[], ◌++◌, append-nil, append_assoc, subst, sym, take}
use Rattle.std.specs.Prelude.{codes}
use Rattle.cal_time.specs.Date.{year_at}
use Rattle.cal_time.specs.DateText.{year_text}
use Rattle.caldate_answers.specs.FormatErrors.{IsFormatError}
use Rattle.caldate_answers.specs.Found.{day_of}
use Rattle.caldate_answers.specs.Readers.{IsFormatText, IsTextBy, IsUnreadBy, IsYearlessError, year_of}
use Rattle.caldate_answers.specs.Readings.{HasFormIn}
use Rattle.caldate_answers.specs.Spellings.{full_by}
use Rattle.caldate_answers.specs.declared.reading.Reading.TheVariants.{Local}
use Rattle.caldate_answers.proofs.Nearest.{with_some_year}
use Rattle.caldate_answers.proofs.Rejected.{has_error}
use Rattle.caldate_answers.proofs.TextBounds.{form_within, rejected_form, spelled_form, text_form, unspelled_form}
use Rattle.caldate_answers.proofs.scan.bound.bound_by.Goals as goal

pub returns-in-Named-clause-text : goal.returns-in-Named-clause-text
returns-in-Named-clause-text c = λ n found fits h.
    let text = take n c.args.bytes.now in
    let reading = c.in-Named.reading in
    let is = subst (λ r. IsTextBy c.args.assumptions.now r text found) c.in-Named.is h in
    form_within (HasFormIn reading) c.args.bytes.now c.bound_by_name.result n c.bound_by_name.ensures fits (text_form reading text found is)

pub returns-in-Named-clause-rejected : goal.returns-in-Named-clause-rejected
returns-in-Named-clause-rejected c = λ n any fits h e.
    let text = take n c.args.bytes.now in
    let reading = c.in-Named.reading in
    let is = subst (λ r. IsUnreadBy c.args.assumptions.now r text any) c.in-Named.is h in
    form_within (HasFormIn reading) c.args.bytes.now c.bound_by_name.result n c.bound_by_name.ensures fits (rejected_form reading text any is e)

pub returns-in-Local-clause-text : goal.returns-in-Local-clause-text
returns-in-Local-clause-text c = λ n found fits h.
    let text = take n c.args.bytes.now in
    let reading = Local c.args.assumptions.now.offset in
    let is = subst (λ r. IsTextBy c.args.assumptions.now r text found) c.in-Local.is h in
    form_within (HasFormIn reading) c.args.bytes.now c.bound_by_form.result n c.bound_by_form.ensures fits (text_form reading text found is)

pub returns-in-Local-clause-rejected : goal.returns-in-Local-clause-rejected
returns-in-Local-clause-rejected c = λ n any fits h e.
    let text = take n c.args.bytes.now in
    let reading = Local c.args.assumptions.now.offset in
    let is = subst (λ r. IsUnreadBy c.args.assumptions.now r text any) c.in-Local.is h in
    form_within (HasFormIn reading) c.args.bytes.now c.bound_by_form.result n c.bound_by_form.ensures fits (rejected_form reading text any is e)

pub returns-in-Spelled-clause-text : goal.returns-in-Spelled-clause-text
returns-in-Spelled-clause-text c = λ n found fits h.
    let text = take n c.args.bytes.now in
    let is = subst (λ r. IsTextBy c.args.assumptions.now r text found) c.in-Spelled.is h in
    c.bound_by_spelling.ensures.form n fits (spelled_form (full_by c.in-Spelled.spelling text) found is)

pub returns-in-Spelled-clause-rejected : goal.returns-in-Spelled-clause-rejected
returns-in-Spelled-clause-rejected c = λ n any fits h e.
    let text = take n c.args.bytes.now in
    let is = subst (λ r. IsUnreadBy c.args.assumptions.now r text any) c.in-Spelled.is h in
    c.bound_by_spelling.ensures.form n fits (unspelled_form c.in-Spelled.spelling text any is e)

pub returns-in-Format-clause-text : goal.returns-in-Format-clause-text
returns-in-Format-clause-text c = λ n found fits h.
    let text = take n c.args.bytes.now in
    let assumptions = c.args.assumptions.now in
    let is = subst (λ r. IsTextBy assumptions r text found) c.in-Format.is h in
    c.bound_by_format.ensures.front assumptions.offset n [] found fits (subst (λ t. IsFormatText assumptions.offset c.in-Format.format t found) (sym (append-nil text)) is)

pub returns-in-Format-clause-rejected : goal.returns-in-Format-clause-rejected
returns-in-Format-clause-rejected c = λ n any fits h e.
    let text = take n c.args.bytes.now in
    let is = subst (λ r. IsUnreadBy c.args.assumptions.now r text any) c.in-Format.is h in
    let error = has_error (IsFormatError c.in-Format.format text) any is e in
    c.bound_by_format.ensures.error n [] error.0 fits (subst (λ t. IsFormatError c.in-Format.format t error.0) (sym (append-nil text)) error.1)

pub returns-in-Yearless-clause-text : goal.returns-in-Yearless-clause-text
returns-in-Yearless-clause-text c = λ n found fits h.
    let text = take n c.args.bytes.now in
    let assumptions = c.args.assumptions.now in
    let is = subst (λ r. IsTextBy assumptions r text found) c.in-Yearless.is h in
    let year = year_text (year_at (day_of found)) in
    let full = append_assoc text (codes "/") year in
    c.bound_by_format-in-Yearless.ensures.front assumptions.offset n (codes "/" ++ year) found fits
    (subst (λ t. IsFormatText assumptions.offset c.in-Yearless.format t found) full
    (with_some_year assumptions.year assumptions.offset c.in-Yearless.format text found is.text_is))

pub returns-in-Yearless-clause-rejected : goal.returns-in-Yearless-clause-rejected
returns-in-Yearless-clause-rejected c = λ n any fits h e.
    let text = take n c.args.bytes.now in
    let assumptions = c.args.assumptions.now in
    let is = subst (λ r. IsUnreadBy assumptions r text any) c.in-Yearless.is h in
    let error = has_error (IsYearlessError assumptions c.in-Yearless.format text) any is e in
    let year = year_text (year_of assumptions.year) in
    c.bound_by_format-in-Yearless.ensures.error n (codes "/" ++ year) error.0 fits
    (subst (λ t. IsFormatError c.in-Yearless.format t error.0) (append_assoc text (codes "/") year) error.1.error.error)
