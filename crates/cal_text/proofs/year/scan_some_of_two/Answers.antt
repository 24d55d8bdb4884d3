use Rattle.std.proofs.Common.{sym, ◌∙◌}
use Rattle.cal_text.proofs.ReadDigits.{one_digit, one_more, zero_first}
use Rattle.cal_text.proofs.year.scan_some_of_two.Goals as goal

pub returns-in_ok-last-in-Some-clause-value : goal.returns-in_ok-last-in-Some-clause-value
returns-in_ok-last-in-Some-clause-value c =
    let a = c.in-Some.ensures.value in
    let b = c.in_ok-last-in-Some.ensures.value in
    one_more _ _ _ _ _ _ (one_digit _ _ _ a.1 a.2) b.0 b.1

pub returns-in_ok-last-in-None-clause-value : goal.returns-in_ok-last-in-None-clause-value
returns-in_ok-last-in-None-clause-value c =
    let d = c.in_ok-last-in-None.ensures.value in
    zero_first _ _ _ _ _ (sym c.in-None.ensures.unchanged ∙ c.in_ok-byte-in-None.ensures.value) (one_digit _ _ _ d.1 d.2)
