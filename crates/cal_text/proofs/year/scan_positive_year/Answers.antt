use Rattle.std.proofs.Common.{lit≤}
use Rattle.cal_text.proofs.ReadDigits.{kept}
use Rattle.cal_text.proofs.YearDigits.{put_more, put_above_0, put_zero}
use Rattle.cal_text.proofs.year.scan_positive_year.Goals as goal

pub returns-in_ok-byte-in-Some-clause-value : goal.returns-in_ok-byte-in-Some-clause-value
returns-in_ok-byte-in-Some-clause-value c =
    put_above_0 _ _ _
    (put_more _ 3 _ _ 5 _ _ _ _ _ _ c.in-Some.ensures.value c.in_ok-three-in-Some.ensures.value (lit≤ tt) (lit≤ tt) c.from.ensures c.scan_more_digits-number.ensures.value c.in_ok-byte-in-Some.ensures.value)

pub returns-in_ok-byte-in-None-clause-value : goal.returns-in_ok-byte-in-None-clause-value
returns-in_ok-byte-in-None-clause-value c =
    let number = c.in_ok-number-in-None.ensures in
    put_zero _ _ _ _ (kept _ _ _ _ _ c.in-None.ensures.unchanged number.value) number.range c.in_ok-byte-in-None.ensures.value
