use Rattle.std.proofs.Common.{◌∙◌, ℕ, arith}
use Rattle.cal_text.specs.Shape.{Shape, Digits, Fraction, Separator, TwoNumbers, time_offset}
use Rattle.cal_text.proofs.MomentShapes.{to_seconds, rest-short, put_moment}
use Rattle.cal_text.proofs.rfc3339.form.scan_numbers.Goals as goal

abbrev after_separator : ℕ → Shape
after_separator more = Digits 2 (TwoNumbers 58 (Fraction more time_offset))

abbrev after_year : ℕ → Shape
after_year more = TwoNumbers 45 (Separator (after_separator more))

pub returns-in_err-year-clause-scans : goal.returns-in_err-year-clause-scans
returns-in_err-year-clause-scans c = rw c.from_residual.ensures (λ more few. c.in_err-year.ensures.scans (after_year more))

pub returns-in_err-month-clause-scans : goal.returns-in_err-month-clause-scans
returns-in_err-month-clause-scans c = rw c.from_residual-in_err-month.ensures (λ more few. c.in_ok-year.ensures.scans (after_year more) ∙ c.in_err-month.ensures.scans (Separator (after_separator more)))

pub returns-in_err-scan_separator-clause-scans : goal.returns-in_err-scan_separator-clause-scans
returns-in_err-scan_separator-clause-scans c = rw c.from_residual-in_err-scan_separator.ensures (λ more few. c.in_ok-year.ensures.scans (after_year more) ∙ c.in_ok-month.ensures.scans (Separator (after_separator more)) ∙ c.in_err-scan_separator.ensures.scans (after_separator more))

pub returns-in_err-hour-clause-scans : goal.returns-in_err-hour-clause-scans
returns-in_err-hour-clause-scans c = rw c.from_residual-in_err-hour.ensures (λ more few. c.in_ok-year.ensures.scans (after_year more) ∙ c.in_ok-month.ensures.scans (Separator (after_separator more)) ∙ c.in_ok-scan_separator.ensures.scans (after_separator more) ∙ c.in_err-hour.ensures.scans (TwoNumbers 58 (Fraction more time_offset)))

pub returns-in_err-minute-clause-scans : goal.returns-in_err-minute-clause-scans
returns-in_err-minute-clause-scans c = rw c.from_residual-in_err-minute.ensures (λ more few. c.in_ok-year.ensures.scans (after_year more) ∙ c.in_ok-month.ensures.scans (Separator (after_separator more)) ∙ c.in_ok-scan_separator.ensures.scans (after_separator more) ∙ c.in_ok-hour.ensures.scans (TwoNumbers 58 (Fraction more time_offset)) ∙ c.in_err-minute.ensures.scans (Fraction more time_offset))

pub returns-in_err-nanosecond-clause-scans : goal.returns-in_err-nanosecond-clause-scans
returns-in_err-nanosecond-clause-scans c =
    let sep = c.in_ok-scan_separator.ensures.value in
    let at = to_seconds _ _ _ _ _ _ _ _ _ _ _ _ _ c.in_ok-year.ensures.value c.in_ok-month.ensures.value.2 sep.1 sep.2 c.in_ok-hour.ensures.value c.in_ok-minute.ensures.value.2 in
    let short = rest-short _ _ _ _ _ _ _ _ at in
    rw c.from_residual-in_err-nanosecond.ensures
    (λ more few. c.in_ok-year.ensures.scans (after_year more) ∙ c.in_ok-month.ensures.scans (Separator (after_separator more)) ∙ c.in_ok-scan_separator.ensures.scans (after_separator more) ∙ c.in_ok-hour.ensures.scans (TwoNumbers 58 (Fraction more time_offset)) ∙ c.in_ok-minute.ensures.scans (Fraction more time_offset) ∙ c.in_err-nanosecond.ensures.scans more (omega (arith, short, few)))

pub returns-clause-scans : goal.returns-clause-scans
returns-clause-scans c =
    let sep = c.in_ok-scan_separator.ensures.value in
    let at = to_seconds _ _ _ _ _ _ _ _ _ _ _ _ _ c.in_ok-year.ensures.value c.in_ok-month.ensures.value.2 sep.1 sep.2 c.in_ok-hour.ensures.value c.in_ok-minute.ensures.value.2 in
    let short = rest-short _ _ _ _ _ _ _ _ at in
    λ more few. c.in_ok-year.ensures.scans (after_year more) ∙ c.in_ok-month.ensures.scans (Separator (after_separator more)) ∙ c.in_ok-scan_separator.ensures.scans (after_separator more) ∙ c.in_ok-hour.ensures.scans (TwoNumbers 58 (Fraction more time_offset)) ∙ c.in_ok-minute.ensures.scans (Fraction more time_offset) ∙ c.in_ok-nanosecond.ensures.scans more (omega (arith, short, few))

pub returns-clause-value : goal.returns-clause-value
returns-clause-value c =
    let sep = c.in_ok-scan_separator.ensures.value in
    let at = to_seconds _ _ _ _ _ _ _ _ _ _ _ _ _ c.in_ok-year.ensures.value c.in_ok-month.ensures.value.2 sep.1 sep.2 c.in_ok-hour.ensures.value c.in_ok-minute.ensures.value.2 in
    let tail = c.in_ok-nanosecond.ensures.value in
    put_moment _ _ tail.0 _ _ _ _ _ _ _ _ _ at c.in_ok-month.ensures.value.0 c.in_ok-month.ensures.value.1 c.in_ok-minute.ensures.value.0 c.in_ok-minute.ensures.value.1 tail.1 tail.2
