use Rattle.std.proofs.Common.{◌-◌, ◌∙◌, arith, sym}
use Rattle.cal_text.specs.Shape.{SomeUpTo}
use Rattle.cal_text.proofs.Decimals.{at_most_nine, first-scans, other-scans, zero-scans, first_decimal, zero_decimals}
use Rattle.cal_text.proofs.fraction.+scan_positive_decimals.Goals as goal

pub overflow_mul-nanosecond : goal.overflow_mul-nanosecond
overflow_mul-nanosecond t c = omega (arith, at_most_nine c.in-Some.first c.args.unit c.in-Some.ensures.value.1, c.requires)

pub returns-in-Some-clause-value : goal.returns-in-Some-clause-value
returns-in-Some-clause-value t c = first_decimal _ _ _ _ _ _ _ c.in-Some.ensures.value c.scan_more_decimals.ensures.value

pub returns-in-Some-clause-scans : goal.returns-in-Some-clause-scans
returns-in-Some-clause-scans t c f = first-scans f _ _ _ _ c.in-Some.ensures.branches c.in-Some.ensures.scans (c.scan_more_decimals.ensures.scans f)

pub returns-in_err-byte-in-None-clause-scans : goal.returns-in_err-byte-in-None-clause-scans
returns-in_err-byte-in-None-clause-scans t c =
    rw c.from_residual.ensures (λ f. other-scans f c.args.more _ _ _ c.if-more-eq0.false c.in-None.ensures.branches (c.in_err-byte-in-None.ensures.scans (SomeUpTo (c.args.more - 1) f)))

pub returns-in_ok-byte-in-None-clause-scans : goal.returns-in_ok-byte-in-None-clause-scans
returns-in_ok-byte-in-None-clause-scans t c =
    zero-scans c.args.more _ _ _ _ c.scan_positive_decimals.result c.if-more-eq0.false c.in-None.ensures.branches c.in_ok-byte-in-None.ensures.scans c.scan_positive_decimals.ensures.scans

pub returns-in_ok-byte-in-None-clause-value : goal.returns-in_ok-byte-in-None-clause-value
returns-in_ok-byte-in-None-clause-value t c =
    zero_decimals c.args.more c.args.unit _ _ _ c.scan_positive_decimals.result c.if-more-eq0.false (sym c.in-None.ensures.unchanged ∙ c.in_ok-byte-in-None.ensures.value)
    c.scan_positive_decimals.ensures.value
