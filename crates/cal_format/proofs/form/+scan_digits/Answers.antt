use Rattle.std.proofs.Common.{◌+◌, ◌-◌, ◌*◌, ◌<◌, ◌≤◌, ◌^◌, arith}
use Rattle.cal_text.specs.Shape.{Digits, ParsesMoreDigits}
use Rattle.cal_text.proofs.ReadDigits.{more_after, room, small}
use Rattle.cal_format.proofs.Forms.{carried, mapped, digits-past, digits-stop}
use Rattle.cal_format.proofs.form.+scan_digits.Goals as goal

pub overflow_mul-number : goal.overflow_mul-number
overflow_mul-number t c =
    let next = room (10 ^ 9) _ _ _ c.if-count-eq0.false c.in_ok-digit.ensures.value.0 c.requires in
    omega (arith, small _ _ _ next)

pub overflow_add-number : goal.overflow_add-number
overflow_add-number t c =
    let next = room (10 ^ 9) _ _ _ c.if-count-eq0.false c.in_ok-digit.ensures.value.0 c.requires in
    omega (arith, small _ _ _ next)

pub scan_digits-requires : goal.scan_digits-requires
scan_digits-requires t c = (omega (arith, c.if-count-eq0.false), rw c.from.ensures (room (10 ^ 9) _ _ _ c.if-count-eq0.false c.in_ok-digit.ensures.value.0 c.requires))

pub returns-in_err-digit-clause-scans : goal.returns-in_err-digit-clause-scans
returns-in_err-digit-clause-scans t c = rw c.from_residual.ensures (λ f. digits-stop c.args.count _ f _ c.if-count-eq0.false c.in_err-digit.ensures.scans)

pub returns-clause-scans : goal.returns-clause-scans
returns-clause-scans t c = carried (Digits c.args.count) (Digits (c.args.count - 1)) _ _ _ _ (λ f. digits-past c.args.count f _ _ c.if-count-eq0.false c.in_ok-digit.ensures.scans) c.scan_digits.ensures.scans

pub returns-clause-value : goal.returns-clause-value
returns-clause-value t c =
    mapped (ParsesMoreDigits _ _ (c.args.count - 1) (c.args.number * 10 + c.from.result)) (ParsesMoreDigits _ _ c.args.count c.args.number) _
    (λ n h. more_after c.args.count _ n c.args.number _ _ _ c.if-count-eq0.false c.in_ok-digit.ensures.value (rw c.from.ensures at h)) c.scan_digits.ensures.value

pub returns-clause-range : goal.returns-clause-range
returns-clause-range t c =
    let limit = (c.args.number + 1) * 10 ^ c.args.count in
    let same : limit ≤ limit = omega arith in
    let next = room limit _ _ _ c.if-count-eq0.false c.in_ok-digit.ensures.value.0 same in
    mapped (λ n. n < (c.args.number * 10 + c.from.result + 1) * 10 ^ (c.args.count - 1)) (λ n. n < limit) _ (λ n h. omega (arith, next, rw c.from.ensures at h)) c.scan_digits.ensures.range
