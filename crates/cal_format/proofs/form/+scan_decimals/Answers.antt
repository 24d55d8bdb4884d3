use Rattle.std.proofs.Common.{◌-◌, ◌/◌, false, arith, sym, ◌∙◌}
use Rattle.cal_text.proofs.Decimals.{at_most_nine}
use Rattle.cal_format.specs.Form.{ParsesDecimals}
use Rattle.cal_format.proofs.Forms.{mapped}
use Rattle.cal_format.proofs.FormDecimals.{first-decimal, next-decimal, zero-decimal, no-decimal}
use Rattle.cal_format.proofs.form.+scan_decimals.Goals as goal

pub returns-then-more-eq0-clause-value : goal.returns-then-more-eq0-clause-value
returns-then-more-eq0-clause-value t c = rw c.from.ensures (first-decimal _ _ _ _ _ _ c.in-Some.ensures.value)

pub returns-then-more-eq0-clause-range : goal.returns-then-more-eq0-clause-range
returns-then-more-eq0-clause-range t c = rw c.from.ensures (omega (arith, at_most_nine c.in-Some.digit c.args.unit c.in-Some.ensures.value.1))

pub returns-in-Some-clause-value : goal.returns-in-Some-clause-value
returns-in-Some-clause-value t c = rw c.from-in-Some.ensures (next-decimal _ _ _ _ _ _ _ _ c.if-more-eq0.false c.in-Some.ensures.value c.in_ok-others.ensures.value)

pub returns-then-may_end-clause-value : goal.returns-then-may_end-clause-value
returns-then-may_end-clause-value t c = no-decimal _ _ _ _ _ c.if-may_end.true c.in_default.ensures.unchanged

pub returns-in-Some-byte-clause-value : goal.returns-in-Some-byte-clause-value
returns-in-Some-byte-clause-value t c =
    mapped (ParsesDecimals c.byte.new.self.rest.now _ false (c.args.more - 1) (c.args.unit / 10)) (ParsesDecimals _ _ c.args.may_end c.args.more c.args.unit) _
    (λ n h. zero-decimal n _ _ _ _ _ _ c.if-more-eq0-2.false (sym c.in_default.ensures.unchanged ∙ c.in-Some-byte.ensures.value) h) c.scan_decimals-in-Some-byte.ensures.value

pub returns-then-may_end-2-clause-value : goal.returns-then-may_end-2-clause-value
returns-then-may_end-2-clause-value t c = no-decimal _ _ _ _ _ c.if-may_end-2.true (c.in-None.ensures.unchanged ∙ c.in_default.ensures.unchanged)
