use Rattle.std.proofs.Common.{rules, arith, ◌∷◌, []}
use Rattle.cal_time.specs.Digits.{decimals}
use Rattle.cal_format.specs.Text.{fraction_text}
use Rattle.cal_format.proofs.Fractions.{fraction-some}
use Rattle.cal_format.proofs.Printing.{writes-all}
use Rattle.cal_format.proofs.print.print_fraction.Goals as goal

pub returns : goal.returns
returns c =
    writes-all (fraction_text c.args.nanosecond) (46 ∷ []) (decimals c.args.nanosecond) c.args.at c.in_ok-next.next c.args.buffer.now c.put-2.new.buffer c.print_decimals.new.buffer c.print_decimals.result
    (fraction-some c.args.nanosecond (omega (arith, c.if-nanosecond-eq0.false))) c.requires.at (search rules) c.in_ok-next.ensures.written c.print_decimals.ensures
