use Rattle.std.proofs.Common.{◌∙◌, arith, w64}
use Rattle.std.proofs.lemmas.Int.{ints, to_z-of_z}
use Rattle.cal_zone.proofs.Tables.{read, same_time}
use Rattle.cal_zone.proofs.table.Table.time.Goals as goal

pub overflow_mul-index : goal.overflow_mul-index
overflow_mul-index c =
    let r = read c.self.inside.bytes.now c.self.inside.layout c.args.self.now c.args.index c.self.invariant c.self.view_is c.requires in
    let time = r.time in
    let index = r.index in
    omega arith

pub overflow_add-self-inside : goal.overflow_add-self-inside
overflow_add-self-inside c =
    let r = read c.self.inside.bytes.now c.self.inside.layout c.args.self.now c.args.index c.self.invariant c.self.view_is c.requires in
    let time = r.time in
    let index = r.index in
    omega arith

pub signed_long-requires : goal.signed_long-requires
signed_long-requires c =
    let r = read c.self.inside.bytes.now c.self.inside.layout c.args.self.now c.args.index c.self.invariant c.self.view_is c.requires in
    let time = r.time in
    let index = r.index in
    omega arith

pub returns : goal.returns
returns c =
    let r = read c.self.inside.bytes.now c.self.inside.layout c.args.self.now c.args.index c.self.invariant c.self.view_is c.requires in
    same_time c.self.inside.bytes.now c.self.inside.layout c.args.self.now c.args.index _ c.self.view_is r.inside
    (to_z-of_z w64 c.signed_long.result (omega (arith, ints)) ∙ c.signed_long.ensures)
