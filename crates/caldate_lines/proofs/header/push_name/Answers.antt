use Rattle.std.proofs.Common.{ap, arith, length}
use Rattle.caldate_lines.proofs.FieldTexts.{text_few}
use Rattle.caldate_lines.proofs.header.push_name.Goals as goal

pub returns : goal.returns
returns c = record { short = omega (arith, c.push_quoted.ensures.short, ap length c.as_bytes.ensures.value, ap length c.new.ensures, text_few c.args.field.csv c.args.part.now) }
