use Rattle.std.proofs.Common.{◌*ℤ◌, FitsSigned, rules}
use Rattle.std.specs.Int.{w128}
use Rattle.std.proofs.lemmas.Int.{to_z-of_z}
use Rattle.cal_zoned.proofs.Instants.{times_fits, times_is, times_within}
use Rattle.cal_zoned.proofs.unchecked.times.Goals as goal

pub returns-clause-value : goal.returns-clause-value
returns-clause-value c =
    let n = c.ranges.n in
    let d = c.whole_nanoseconds.ensures in
    let e = simp to_z-of_z at c.from.ensures in
    let f : FitsSigned w128 c.from.result = search rules in
    let g : FitsSigned w128 c.whole_nanoseconds.result = search rules in
    let h : FitsSigned w128 (c.from.result *ℤ c.whole_nanoseconds.result) = times_fits c.args.n c.args.duration c.from.result c.whole_nanoseconds.result n e d.value d.range in
    simp to_z-of_z (times_is c.args.n c.args.duration c.from.result c.whole_nanoseconds.result e d.value)

pub returns-clause-range : goal.returns-clause-range
returns-clause-range c =
    let n = c.ranges.n in
    let d = c.whole_nanoseconds.ensures in
    let e = simp to_z-of_z at c.from.ensures in
    let f : FitsSigned w128 c.from.result = search rules in
    let g : FitsSigned w128 c.whole_nanoseconds.result = search rules in
    let h : FitsSigned w128 (c.from.result *ℤ c.whole_nanoseconds.result) = times_fits c.args.n c.args.duration c.from.result c.whole_nanoseconds.result n e d.value d.range in
    simp to_z-of_z (times_within c.args.n c.args.duration c.from.result c.whole_nanoseconds.result n e d.value d.range)
