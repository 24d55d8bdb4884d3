use Rattle.caldate_answers.specs.Scans.{StartsWithDigits}
use Rattle.caldate_answers.proofs.TextStarts.{each_text}
use Rattle.caldate_answers.proofs.scan.digit_start.start_with_digits.Goals as goal

pub returns : goal.returns
returns c = λ on. each_text StartsWithDigits c.args.filter.now c.as_slice.result.now c.as_slice.ensures (c.are_digits.ensures.found on) (c.are_digits.ensures.rejected on)
