use Rattle.std.proofs.Common.{◌∙◌, ap}
use Rattle.std.specs.Result.{result_ok}
use Rattle.guide.proofs.names.date_in.Goals as goal

pub returns-clause-every : goal.returns-clause-every
returns-clause-every c back n held printed = c.ok.ensures.value ∙ ap result_ok (c.parse_date.ensures.every n held printed)
