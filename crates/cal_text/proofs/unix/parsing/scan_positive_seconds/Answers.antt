use Rattle.std.proofs.Common.{◌∙◌, arith}
use Rattle.cal_text.specs.Shape.{End, Byte, SomeUpTo, from_one}
use Rattle.cal_text.proofs.UnixShapes.{put_decimals}
use Rattle.cal_text.proofs.unix.parsing.scan_positive_seconds.Goals as goal

pub returns-in_ok-end-in-Some-clause-value : goal.returns-in_ok-end-in-Some-clause-value
returns-in_ok-end-in-Some-clause-value c =
    (put_decimals _ _ _ _ _ c.in-Some.ensures.value c.in_ok-byte-in-Some.ensures.value c.in_ok-nanosecond-in-Some.ensures.value c.in_ok-end-in-Some.ensures.value).0

pub returns-in_ok-end-in-Some-clause-found : goal.returns-in_ok-end-in-Some-clause-found
returns-in_ok-end-in-Some-clause-found c =
    let found = put_decimals _ _ _ _ _ c.in-Some.ensures.value c.in_ok-byte-in-Some.ensures.value c.in_ok-nanosecond-in-Some.ensures.value c.in_ok-end-in-Some.ensures.value in
    omega (arith, found.1)

pub returns-in_err-nanosecond-in-Some-clause-scans : goal.returns-in_err-nanosecond-in-Some-clause-scans
returns-in_err-nanosecond-in-Some-clause-scans c =
    rw c.from_residual-in_err-nanosecond-in-Some.ensures
    (c.in-Some.ensures.branches (Byte 46 (SomeUpTo 8 End)) from_one ∙ c.in_ok-byte-in-Some.ensures.scans (SomeUpTo 8 End) ∙ c.in_err-nanosecond-in-Some.ensures.scans End)
