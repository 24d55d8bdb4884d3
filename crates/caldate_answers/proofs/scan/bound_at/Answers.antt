use Rattle.std.proofs.Common.{◌∙◌, ap, arith, sym}
use Rattle.caldate_answers.specs.Offsets.{is_digit}
use Rattle.caldate_answers.proofs.TextEnds.{none_longer}
use Rattle.caldate_answers.proofs.scan.bound_at.Goals as goal

pub returns-then-is_digit-clause-none : goal.returns-then-is_digit-clause-none
returns-then-is_digit-clause-none c = λ n more fits is.
    let digit = ap is_digit (sym c.byte_at.ensures) ∙ sym c.is_digit.ensures ∙ c.if-is_digit.true in
    let within = none_longer c.args.filter.now c.args.bytes.now (c.requires c.if-usual.true) digit n fits is in
    omega (arith, more, fits, within, c.min.ensures, c.digit_bound.ensures)
