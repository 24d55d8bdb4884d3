use Rattle.std.proofs.Common.{arith}
use Rattle.cal_text.proofs.NumberShapes.{most_digits, put_number}
use Rattle.cal_text.proofs.digits.scan_positive_number.Goals as goal

pub scan_more_digits-number-requires : goal.scan_more_digits-number-requires
scan_more_digits-number-requires c = most_digits c.from.result c.args.more c.requires (omega (arith, c.in_ok-first.ensures.value.1))

pub returns-clause-value : goal.returns-clause-value
returns-clause-value c = put_number c.args.more c.in_ok-first.first _ _ _ _ c.requires c.in_ok-first.ensures.value (rw c.from.ensures at c.scan_more_digits-number.ensures.value)
