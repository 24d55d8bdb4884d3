use Rattle.std.proofs.Common.{◌∙◌, ◌++◌, ◌∷◌, [], ap}
use Rattle.caldate_answers.proofs.reading.readers.Readers.try_push.Goals as goal

pub returns-clause-value : goal.returns-clause-value
returns-clause-value c = λ _. c.put.ensures.front ∙ ap (λ l. l ++ c.args.reader ∷ []) c.self.view_is
