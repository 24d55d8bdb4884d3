use Rattle.caldate_run.proofs.Rounds.{HasRunOn}
use Rattle.caldate_run.proofs.run.answer_input.Given as goal

-- the lines before the pending bytes are answered
abbrev pub invariant-loop-error : goal.invariant-loop-error
invariant-loop-error g l =
    HasRunOn g.R.Source.remaining g.R.Source.read_gives g.W.Sink.contents g.W.Sink.write_gives l.filter l.most l.initial.input l.initial.reader l.initial.writer
    l.reads l.reader l.output l.writer l.input l.progress

abbrev pub decreases-loop-error : goal.decreases-loop-error
decreases-loop-error g l = l.reads
