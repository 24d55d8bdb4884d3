use Rattle.std.proofs.Common.{◌∙◌, sym}
use Rattle.caldate_answers.proofs.WholeNumbers.{none}
use Rattle.caldate_answers.proofs.reading.number.scan_number.Goals as goal

pub returns-in_ok-end-in-Some-byte-clause-value : goal.returns-in_ok-end-in-Some-byte-clause-value
returns-in_ok-end-in-Some-byte-clause-value c =
    none _ _ (sym c.in-None.ensures.unchanged ∙ c.in-Some-byte.ensures.value) c.in_ok-end-in-Some-byte.ensures.value
