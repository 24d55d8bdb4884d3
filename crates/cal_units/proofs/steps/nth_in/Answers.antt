use Rattle.std.proofs.Common.{◌+◌, ◌%◌, ◌<◌, arith}
use Rattle.std.proofs.Math.Nat.{add-mod-mod}
use Rattle.cal_units.proofs.steps.nth_in.Goals as goal

pub returns : goal.returns
returns g c =
    let index = g.C.Cycle.index_of c.args.start in
    let length = g.C.Cycle.LENGTH in
    let below : index < length = g.met.C.Cycle.index_below c.args.start in
    let e = add-mod-mod index c.args.n length in
    let back = g.met.C.Cycle.index_of_value ((index + c.args.n % length) % length) (omega arith) in
    cc
