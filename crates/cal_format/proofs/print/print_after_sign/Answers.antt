use Rattle.std.proofs.Common.{rules, arith, ◌++◌}
use Rattle.cal_format.specs.Moment.{number, width}
use Rattle.cal_format.specs.Text.{padded}
use Rattle.cal_format.proofs.Printing.{writes-all}
use Rattle.cal_format.proofs.print.print_after_sign.Goals as goal

pub returns : goal.returns
returns c =
    writes-all (c.args.sign.now ++ padded c.args.pad (width c.args.component) (number c.args.component c.args.moment.now)) c.args.sign.now
    (padded c.args.pad c.width.result c.number.result) c.args.at c.in_ok-next.next c.args.buffer.now c.put.new.buffer c.put_padded.new.buffer c.put_padded.result (grind arith) c.requires (search rules)
    c.in_ok-next.ensures.written c.put_padded.ensures
