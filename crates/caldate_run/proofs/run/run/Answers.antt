use Rattle.std.proofs.Common.{ℕ, List, subst, sym}
use Rattle.std.specs.Io.KnownBytes.{Consumes}
use Rattle.std.proofs.KnownBytes.{Consumes-nil}
use Rattle.caldate_run.proofs.run.run.Goals as goal

pub returns-clause-ended : goal.returns-clause-ended
returns-clause-ended g c =
    let r = g.R.Source.remaining c.args.reader.now in
    c.answer_input.ensures.ended.bytes r (subst (λ (bytes : List ℕ). Consumes r r bytes) (sym c.new-input.ensures) (Consumes-nil r))

pub returns-clause-reads : goal.returns-clause-reads
returns-clause-reads g c = c.answer_input.ensures.ended.reads

pub returns-clause-writes : goal.returns-clause-writes
returns-clause-writes g c = c.answer_input.ensures.ended.writes
