use Rattle.std.proofs.Common.{◌++◌, ◌∙◌, ◌≤◌, ap, arith}
use Rattle.caldate_answers.proofs.Durations.{few_digits, no_zeros}
use Rattle.caldate_answers.proofs.answer.durations.push_at_least_two_digits.Goals as goal

pub push_number-requires : goal.push_number-requires
push_number-requires c = omega (arith, c.requires.room, few_digits c.args.number c.ranges.number.fits)

pub returns-else-number-lt100-clause-appended : goal.returns-else-number-lt100-clause-appended
returns-else-number-lt100-clause-appended c =
    let wide : 100 ≤ c.args.number = omega (arith, c.if-number-lt100.false) in
    c.push_number.ensures.appended ∙ ap (λ digits. c.args.text.now ++ digits) (no_zeros c.args.number wide c.ranges.number.fits)

pub returns-else-number-lt100-clause-max_length : goal.returns-else-number-lt100-clause-max_length
returns-else-number-lt100-clause-max_length c = omega (arith, c.push_number.ensures.length, few_digits c.args.number c.ranges.number.fits)
