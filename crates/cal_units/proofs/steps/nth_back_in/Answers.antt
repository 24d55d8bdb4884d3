use Rattle.std.proofs.Common.{◌≡◌, ◌+◌, ◌-◌, ◌*◌, ◌/◌, ◌%◌, ◌<◌, arith}
use Rattle.std.proofs.Math.Nat.{mod-add-mod, add-mod_right, add-mul-mod_self_left, mod-eq_of_lt}
use Rattle.cal_units.proofs.steps.nth_back_in.Goals as goal

pub returns : goal.returns
returns g c =
    let index = g.C.Cycle.index_of c.args.start in
    let length = g.C.Cycle.LENGTH in
    let n = c.args.n in
    let below : index < length = g.met.C.Cycle.index_below c.args.start in
    let moved = index + (length - n % length) in
    let back = g.met.C.Cycle.index_of_value (moved % length) (omega arith) in
    let around = mod-add-mod moved length n in
    let whole : moved + n ≡ (index + length * (n / length)) + length = omega arith in
    let once = add-mod_right (index + length * (n / length)) length in
    let all = add-mul-mod_self_left index length (n / length) in
    let small = mod-eq_of_lt below in
    cc
