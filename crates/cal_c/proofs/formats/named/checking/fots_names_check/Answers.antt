use Rattle.std.proofs.lemmas.Option.{none-some}
use Rattle.cal_c.proofs.formats.named.checking.fots_names_check.Goals as goal

pub returns-in-None-clause-invalid_names : goal.returns-in-None-clause-invalid_names
returns-in-None-clause-invalid_names c is _ = absurd (none-some is.0 (c.in-None.ensures.every is.0 is.1))
