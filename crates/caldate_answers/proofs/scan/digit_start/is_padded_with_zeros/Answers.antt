use Rattle.std.proofs.Common.{◌≡◌, subst}
use Rattle.cal_format.specs.Form.{ItemShape}
use Rattle.cal_format.specs.declared.item.Item.TheVariants.{Number}
use Rattle.cal_text.specs.Shape.{unmatched_bytes}
use Rattle.caldate_answers.proofs.DigitStarts.{padded_starts}
use Rattle.caldate_answers.proofs.scan.digit_start.is_padded_with_zeros.Goals as goal

pub returns-then-is_zero : goal.returns-then-is_zero
returns-then-is_zero c = λ on others bytes e.
    let component = c.in-Number.component in
    let number = subst (λ i. unmatched_bytes (ItemShape i others) bytes ≡ 0) c.in-Number.is e in
    padded_starts component others bytes (c.is_wide.ensures on)
    (subst (λ p. unmatched_bytes (ItemShape (Number component p) others) bytes ≡ 0) (c.is_zero.ensures c.if-is_zero.true) number)
