use Rattle.std.proofs.Common.{lit≤}
use Rattle.cal_text.proofs.YearDigits.{put_more, put_above_9999}
use Rattle.cal_text.proofs.year.scan_year_above_9999.Goals as goal

pub returns-clause-value : goal.returns-clause-value
returns-clause-value c =
    put_above_9999 _ _ _
    (put_more _ 4 _ _ 4 _ _ _ _ _ _ c.in_ok-first.ensures.value c.in_ok-four.ensures.value (lit≤ tt) (lit≤ tt) c.from.ensures c.scan_more_digits-number.ensures.value c.in_ok-byte.ensures.value)
