use Rattle.std.proofs.Common.{sym, ◌∙◌}
use Rattle.cal_text.proofs.ReadDigits.{one_digit, one_more, zero_first}
use Rattle.cal_text.proofs.year.scan_some_of_three.Goals as goal

pub returns-in_ok-last-in-Some-clause-value : goal.returns-in_ok-last-in-Some-clause-value
returns-in_ok-last-in-Some-clause-value c =
    let a = c.in-Some.ensures.value in
    let b = c.in_ok-second-in-Some.ensures.value in
    let d = c.in_ok-last-in-Some.ensures.value in
    one_more _ _ _ _ _ _ (one_more _ _ _ _ _ _ (one_digit _ _ _ a.1 a.2) b.0 b.1) d.0 d.1

pub returns-in_ok-others-in-None-clause-value : goal.returns-in_ok-others-in-None-clause-value
returns-in_ok-others-in-None-clause-value c =
    zero_first _ _ _ _ _ (sym c.in-None.ensures.unchanged ∙ c.in_ok-byte-in-None.ensures.value) c.in_ok-others-in-None.ensures.value
