use Rattle.std.proofs.Common.{subst}
use Rattle.caldate_answers.specs.FormatErrors.{IsFormatError}
use Rattle.caldate_answers.specs.Readers.{IsTextBy, IsUnreadBy}
use Rattle.caldate_answers.proofs.Rejected.{has_error}
use Rattle.caldate_answers.proofs.scan.digit_start.has_digits_first.Goals as goal

pub returns-in-Format-clause-text : goal.returns-in-Format-clause-text
returns-in-Format-clause-text c = λ on assumptions bytes found h.
    c.is_number_first.ensures.text on assumptions.offset bytes found (subst (λ r. IsTextBy assumptions r bytes found) c.in-Format.is h)

pub returns-in-Format-clause-rejected : goal.returns-in-Format-clause-rejected
returns-in-Format-clause-rejected c = λ on assumptions bytes any h e.
    let error = has_error (IsFormatError c.in-Format.format bytes) any (subst (λ r. IsUnreadBy assumptions r bytes any) c.in-Format.is h) e in
    c.is_number_first.ensures.error on bytes error.0 error.1
