use Rattle.std.proofs.lemmas.Bool.{false≢true}
use Rattle.cal_named_format.proofs.Ambiguities.{no-error}
use Rattle.cal_named_format.proofs.reading.check_names.Goals as goal

pub returns-in-Some-clause-reads : goal.returns-in-Some-clause-reads
returns-in-Some-clause-reads c =
    (λ t. absurd (false≢true t), λ reads. absurd (no-error c.args.names.now c.args.items.now 0 c.in-Some.error c.in-Some.ensures.error reads))
