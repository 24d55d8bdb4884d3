use Rattle.std.proofs.Common.{sym, ◌∙◌}
use Rattle.cal_format.proofs.Rejections.{no-date}
use Rattle.cal_format.proofs.parsing.date_of_numbers.Goals as goal

pub returns-then-not-shows_date-clause-value : goal.returns-then-not-shows_date-clause-value
returns-then-not-shows_date-clause-value c = no-date _ _ _ (sym c.if-not-shows_date.true ∙ c.shows_date.ensures) c.first_date.ensures.value
