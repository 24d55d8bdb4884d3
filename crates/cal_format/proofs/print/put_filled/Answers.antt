use Rattle.std.proofs.Common.{rules, arith, ◌-◌, ◌++◌, length, replicate, decimal}
use Rattle.cal_format.proofs.Digits.{short_decimals}
use Rattle.cal_format.proofs.Printing.{writes-all}
use Rattle.cal_format.proofs.print.put_filled.Goals as goal

pub returns : goal.returns
returns c =
    writes-all (replicate (c.args.width - length (decimal c.args.number)) c.args.byte ++ decimal c.args.number) (replicate c.saturating_sub-fill.result c.args.byte) c.as_bytes.result.now c.args.at c.in_ok-next.next
    c.args.buffer.now c.put_fill.new.buffer c.put.new.buffer c.put.result (grind (arith, short_decimals)) c.requires.at (search rules) c.in_ok-next.ensures c.put.ensures.written
