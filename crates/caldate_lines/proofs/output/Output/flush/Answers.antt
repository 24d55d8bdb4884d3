use Rattle.std.proofs.Common.{rules}
use Rattle.caldate_lines.proofs.Outputs.{cleared, written}
use Rattle.caldate_lines.proofs.output.Output.flush.Goals as goal

pub returns-in-Ok-clause-passes_on : goal.returns-in-Ok-clause-passes_on
returns-in-Ok-clause-passes_on g c = λ given start outputs.
    written g.W.Sink.contents g.W.Sink.write_gives given c.as_bytes.result.now c.clear.new.self start _ _ c.args.self.now c.write_all-self.result (search rules) c.as_bytes.ensures c.clear.ensures
    c.write_all-self.ensures.page c.write_all-self.ensures.sends outputs

pub returns-in-Err-clause-passes_on : goal.returns-in-Err-clause-passes_on
returns-in-Err-clause-passes_on g c = λ given start outputs.
    cleared g.W.Sink.contents g.W.Sink.write_gives given c.clear-in-Err.new.self start _ c.args.self.now c.in-Err.field-0 (search rules) outputs
