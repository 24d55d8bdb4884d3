use Rattle.std.proofs.Common.{◌≡◌, ◌+◌, ◌++◌, length, arith}
use Rattle.cal_text.specs.Shape.{ParsesDigits, ParsesMoreDigits}
use Rattle.cal_text.proofs.ReadDigits.{printed}
use Rattle.cal_time.specs.DateText.{digits_at_least}
use Rattle.cal_format.proofs.Forms.{counted, mapped, mapped_both}
use Rattle.cal_format.proofs.form.scan_number.Goals as goal

pub returns-in-1-clause-value : goal.returns-in-1-clause-value
returns-in-1-clause-value c =
    let old = c.args.scanner.now.rest.now in
    let new = c.scan_one_digit.new.scanner.rest.now in
    rw (c.in-Zero.is, ← c.width.ensures.value, c.in-1.is)
    (mapped (ParsesDigits old new 1) (λ n. old ≡ digits_at_least 1 n ++ new) _ (λ n h. (printed old new 1 n (omega arith) (omega arith) h).1) c.scan_one_digit.ensures.value)

pub returns-in-2-clause-value : goal.returns-in-2-clause-value
returns-in-2-clause-value c =
    let old = c.args.scanner.now.rest.now in
    let new = c.scan_two_digits.new.scanner.rest.now in
    rw (c.in-Zero.is, ← c.width.ensures.value, c.in-2.is)
    (mapped (ParsesDigits old new 2) (λ n. old ≡ digits_at_least 2 n ++ new) _ (λ n h. (printed old new 2 n (omega arith) (omega arith) h).1) c.scan_two_digits.ensures.value)

pub returns-in-3-clause-value : goal.returns-in-3-clause-value
returns-in-3-clause-value c =
    let old = c.args.scanner.now.rest.now in
    let new = c.scan_three_digits.new.scanner.rest.now in
    rw (c.in-Zero.is, ← c.width.ensures.value, c.in-3.is)
    (mapped (ParsesDigits old new 3) (λ n. old ≡ digits_at_least 3 n ++ new) _ (λ n h. (printed old new 3 n (omega arith) (omega arith) h).1) c.scan_three_digits.ensures.value)

pub returns-in-4-clause-value : goal.returns-in-4-clause-value
returns-in-4-clause-value c =
    let old = c.args.scanner.now.rest.now in
    let new = c.scan_four_digits.new.scanner.rest.now in
    rw (c.in-Zero.is, ← c.width.ensures.value, c.in-4.is)
    (mapped (ParsesDigits old new 4) (λ n. old ≡ digits_at_least 4 n ++ new) _ (λ n h. (printed old new 4 n (omega arith) (omega arith) h).1) c.scan_four_digits.ensures.value)

pub returns-in_default-clause-value : goal.returns-in_default-clause-value
returns-in_default-clause-value c =
    let old = c.args.scanner.now.rest.now in
    let new = c.scan_digits.new.scanner.rest.now in
    rw (c.in-Zero.is, ← c.width.ensures.value)
    (mapped_both (ParsesMoreDigits old new c.width.result 0) (λ _. length old ≡ c.width.result + length new) (λ n. old ≡ digits_at_least c.width.result n ++ new) _
    (λ n h long. (counted c.width.result n old new c.width.ensures.range.0 c.width.ensures.range.1 h long).1) c.scan_digits.ensures.value c.scan_digits.ensures.count)
