use Rattle.caldate_lines.proofs.Cuts.{first_of}
use Rattle.caldate_lines.proofs.input.fields.first_length.Goals as goal

pub returns-in-Some-clause-first : goal.returns-in-Some-clause-first
returns-in-Some-clause-first c = first_of c.args.field c.args.bytes.now c.in-Some.at c.in-Some.ensures
