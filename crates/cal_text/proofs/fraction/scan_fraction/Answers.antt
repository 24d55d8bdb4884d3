use Rattle.cal_text.proofs.Decimals.{put_fraction, no_fraction}
use Rattle.cal_text.proofs.fraction.scan_fraction.Goals as goal

pub returns-in_ok-first-in-Some-clause-value : goal.returns-in_ok-first-in-Some-clause-value
returns-in_ok-first-in-Some-clause-value c = put_fraction _ _ _ _ _ _ _ c.in-Some.ensures.value c.in_ok-first-in-Some.ensures.value c.scan_more_decimals.ensures.value

pub returns-in-None-clause-value : goal.returns-in-None-clause-value
returns-in-None-clause-value c = no_fraction _ _ _ c.in-None.ensures.unchanged
