use Rattle.caldate_answers.proofs.OneAnswer.{one_answer}
use Rattle.caldate_run.proofs.laws.one_answer.Goals as goal

pub returns : goal.returns
returns c = λ words others.
    one_answer c.args.filter.now c.args.text.now c.read_with.result words others (c.one_clock.ensures, c.one_place.ensures) c.read_with.ensures.every c.read_with.ensures.every_error
