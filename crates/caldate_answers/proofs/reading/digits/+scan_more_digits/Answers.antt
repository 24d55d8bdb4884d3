use Rattle.std.proofs.Common.{◌^◌, arith}
use Rattle.cal_text.proofs.ReadDigits.{more_after, more-scans, room, small}
use Rattle.caldate_answers.proofs.reading.digits.+scan_more_digits.Goals as goal

pub overflow_mul-number : goal.overflow_mul-number
overflow_mul-number t c =
    let next = room (10 ^ 27) _ _ _ c.if-most-eq0.false c.in-Some.ensures.value.0 c.requires in
    omega (arith, small _ _ _ next)

pub overflow_add-number : goal.overflow_add-number
overflow_add-number t c =
    let next = room (10 ^ 27) _ _ _ c.if-most-eq0.false c.in-Some.ensures.value.0 c.requires in
    omega (arith, small _ _ _ next)

pub scan_more_digits-requires : goal.scan_more_digits-requires
scan_more_digits-requires t c = (omega (arith, c.if-most-eq0.false), rw c.from.ensures (room (10 ^ 27) _ _ _ c.if-most-eq0.false c.in-Some.ensures.value.0 c.requires))

pub returns-in-Some-clause-scans : goal.returns-in-Some-clause-scans
returns-in-Some-clause-scans t c f = more-scans f _ _ _ _ c.if-most-eq0.false c.in-Some.ensures.branches (c.scan_more_digits.ensures.scans f)

pub returns-in-Some-clause-value : goal.returns-in-Some-clause-value
returns-in-Some-clause-value t c = more_after _ _ _ _ _ _ _ c.if-most-eq0.false c.in-Some.ensures.value (rw c.from.ensures at c.scan_more_digits.ensures.value)
