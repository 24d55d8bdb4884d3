use Rattle.caldate_lines.proofs.Cuts.{separator_at}
use Rattle.caldate_lines.proofs.input.fields.separator_index.Goals as goal

pub returns : goal.returns
returns c = separator_at c.args.field c.quotes_of-start.result c.args.bytes.now c.part_end.result c.quotes_of-start.ensures c.part_end.ensures
