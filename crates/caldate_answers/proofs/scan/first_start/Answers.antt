use Rattle.caldate_answers.proofs.TextStarts.{none_digits, none_usual}
use Rattle.caldate_answers.proofs.scan.first_start.Goals as goal

pub returns-then-usual-clause-none : goal.returns-then-usual-clause-none
returns-then-usual-clause-none c = λ j n least less.
    none_usual c.args.filter.now c.args.line.now j n (c.requires.usual c.if-usual.true) (c.usual_place.ensures.none j least less)

pub returns-then-digits-clause-none : goal.returns-then-digits-clause-none
returns-then-digits-clause-none c = λ j n least less.
    none_digits c.args.filter.now c.args.line.now j n (c.requires.digits c.if-digits.true) (c.digits_place.ensures.none j least less)
