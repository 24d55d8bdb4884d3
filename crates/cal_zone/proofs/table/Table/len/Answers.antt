use Rattle.std.proofs.Common.{sym, arith}
use Rattle.cal_zone.proofs.Tables.{length-view}
use Rattle.cal_zone.proofs.table.Table.len.Goals as goal

pub returns : goal.returns
returns c =
    let size = length-view c.self.inside.bytes.now c.self.inside.layout c.args.self.now c.self.view_is in
    let few = c.self.invariant.few in
    record { len = sym size; room = omega arith }
