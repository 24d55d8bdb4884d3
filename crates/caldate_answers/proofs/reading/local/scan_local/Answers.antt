use Rattle.std.proofs.Common.{◌∙◌}
use Rattle.cal_text.specs.Shape.{Byte, Digits, End, Fraction, Separator, Shape, TwoNumbers}
use Rattle.caldate_answers.proofs.reading.local.scan_local.Goals as goal

abbrev clock : Shape
clock = Digits 2 (TwoNumbers 58 (Fraction 8 End))

abbrev month : Shape
month = Digits 2 (Byte 45 (Digits 2 (Separator clock)))

pub returns-in_err-scan_separator : goal.returns-in_err-scan_separator
returns-in_err-scan_separator c =
    rw c.from_residual-in_err-scan_separator.ensures
    (c.in_ok-scan_four_digits.ensures.scans (Byte 45 month) ∙ c.in_ok-byte.ensures.scans month ∙ c.in_ok-scan_two_digits.ensures.scans (Byte 45 (Digits 2 (Separator clock)))
    ∙ c.in_ok-byte-2.ensures.scans (Digits 2 (Separator clock)) ∙ c.in_ok-scan_two_digits-2.ensures.scans (Separator clock) ∙ c.in_err-scan_separator.ensures clock)

pub returns-in_err-scan_clock : goal.returns-in_err-scan_clock
returns-in_err-scan_clock c =
    rw c.from_residual-in_err-scan_clock.ensures
    (c.in_ok-scan_four_digits.ensures.scans (Byte 45 month) ∙ c.in_ok-byte.ensures.scans month ∙ c.in_ok-scan_two_digits.ensures.scans (Byte 45 (Digits 2 (Separator clock)))
    ∙ c.in_ok-byte-2.ensures.scans (Digits 2 (Separator clock)) ∙ c.in_ok-scan_two_digits-2.ensures.scans (Separator clock) ∙ c.in_ok-scan_separator.ensures clock ∙ c.in_err-scan_clock.ensures)

pub returns : goal.returns
returns c =
    c.in_ok-scan_four_digits.ensures.scans (Byte 45 month) ∙ c.in_ok-byte.ensures.scans month ∙ c.in_ok-scan_two_digits.ensures.scans (Byte 45 (Digits 2 (Separator clock)))
    ∙ c.in_ok-byte-2.ensures.scans (Digits 2 (Separator clock)) ∙ c.in_ok-scan_two_digits-2.ensures.scans (Separator clock) ∙ c.in_ok-scan_separator.ensures clock ∙ c.in_ok-scan_clock.ensures
