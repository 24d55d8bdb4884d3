use Rattle.std.proofs.Common.{arith, inl, inr}
use Rattle.caldate_lines.proofs.HeaderNames.{has_line}
use Rattle.caldate_run.proofs.run.named.has_header.Goals as goal

pub returns-in-Some-clause-whole : goal.returns-in-Some-clause-whole
returns-in-Some-clause-whole c = λ e. inl (has_line c.args.field c.args.bytes.now c.in-Some._line.now c.in-Some._after.now c.in-Some.ensures.parts)

pub returns-then-bytes-gt-MAX_KEPT-clause-whole : goal.returns-then-bytes-gt-MAX_KEPT-clause-whole
returns-then-bytes-gt-MAX_KEPT-clause-whole c = λ e. inr (omega arith)
