use Rattle.std.proofs.Common.{sym, subst}
use Rattle.cal_format.specs.Form.{HasForm}
use Rattle.caldate_answers.proofs.DigitStarts.{first_starts}
use Rattle.caldate_answers.proofs.scan.digit_start.begins_with_zeros.Goals as goal

pub returns-in-len1-up : goal.returns-in-len1-up
returns-in-len1-up c = λ on bytes h.
    first_starts c.items.result.now bytes c.in-len1-up.len_at_least (c.is_padded_with_zeros.ensures on)
    (subst (λ l. HasForm l bytes) (sym c.items.ensures.items) h)
