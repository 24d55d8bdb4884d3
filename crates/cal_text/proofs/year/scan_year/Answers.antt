use Rattle.std.proofs.Common.{◌∙◌}
use Rattle.cal_text.proofs.ReadDigits.{kept}
use Rattle.cal_text.proofs.YearDigits.{put_plain}
use Rattle.cal_text.proofs.year.scan_year.Goals as goal

pub returns-in_ok-byte-in-None-clause-value : goal.returns-in_ok-byte-in-None-clause-value
returns-in_ok-byte-in-None-clause-value c =
    let number = c.in_ok-number-in-None.ensures in
    put_plain _ _ _ _ number.range (kept _ _ _ _ _ (c.in-None.ensures.unchanged ∙ c.in_default.ensures.unchanged) number.value) c.in_ok-byte-in-None.ensures.value
