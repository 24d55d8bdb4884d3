use Rattle.std.proofs.Common.{arith}
use Rattle.cal_zone.proofs.Tables.{read, same_kind}
use Rattle.cal_zone.proofs.table.Table.kind.Goals as goal

pub overflow_add-layout : goal.overflow_add-layout
overflow_add-layout c =
    let r = read c.self.inside.bytes.now c.self.inside.layout c.args.self.now c.args.index c.self.invariant c.self.view_is c.requires in
    let index = r.index in
    omega arith

pub bounds-bytes-layout : goal.bounds-bytes-layout
bounds-bytes-layout c =
    let r = read c.self.inside.bytes.now c.self.inside.layout c.args.self.now c.args.index c.self.invariant c.self.view_is c.requires in
    let index = r.index in
    omega arith

pub returns-clause-value : goal.returns-clause-value
returns-clause-value c =
    let r = read c.self.inside.bytes.now c.self.inside.layout c.args.self.now c.args.index c.self.invariant c.self.view_is c.requires in
    same_kind c.self.inside.bytes.now c.self.inside.layout c.args.self.now c.args.index _ c.from-kind.result c.self.view_is r.inside c.local_type.ensures.value c.from-kind.ensures
