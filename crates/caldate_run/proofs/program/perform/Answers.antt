use Rattle.std.proofs.Common.{refl}
use Rattle.caldate_run.proofs.Named.{named_for}
use Rattle.caldate_run.proofs.program.perform.Goals as goal

pub returns-in-Ok-Named-clause-named : goal.returns-in-Ok-Named-clause-named
returns-in-Ok-Named-clause-named g c = λ filter field given.
    named_for _ filter _ field _ _ _ (cc) (cc) c.run_named.ensures.ended

pub returns-in-Ok-NamedOnce-clause-named_once : goal.returns-in-Ok-NamedOnce-clause-named_once
returns-in-Ok-NamedOnce-clause-named_once g c = λ filter field given.
    let ended = c.run_named_once.ensures.ended in (refl, (ended.0, ended.1, named_for _ filter _ field _ _ _ (cc) (cc) ended.2))
