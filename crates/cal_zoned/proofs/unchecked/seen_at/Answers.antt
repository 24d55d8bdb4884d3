use Rattle.std.proofs.Common.{◌∙◌, subst, sym, arith, w64, w32, FitsSigned, refl}
use Rattle.std.specs.Int.{w128}
use Rattle.std.proofs.lemmas.Int.{ints, to_z-of_z}
use Rattle.cal_datetime.specs.DateTime.{IsDateTime}
use Rattle.cal_datetime.specs.UnixTimeLaws.{seconds-and_past}
use Rattle.cal_zone.specs.Timeline.{offset_at}
use Rattle.cal_zone.proofs.Readings.{offset_in}
use Rattle.cal_zoned.proofs.Instants.{found, fits, within, magnitude_of}
use Rattle.cal_zoned.proofs.ZoneResults.{none_seen, some_seen}
use Rattle.cal_zoned.proofs.unchecked.seen_at.Goals as goal

pub returns-in_default : goal.returns-in_default
returns-in_default c = λ order. λ h.
    let f = c.ranges.nanoseconds in
    let x = simp to_z-of_z at c.div_euclid.ensures in
    let k : FitsSigned w64 c.div_euclid.result = fits c.args.nanoseconds c.div_euclid.result (offset_at c.args.zone.now _) x (magnitude_of _ (offset_in c.args.zone.now order _)) h in
    let l : FitsSigned w128 c.div_euclid.result = omega (arith, ints, k.sfits) in
    let out = simp to_z-of_z at c.in_default.ensures in
    out k

pub returns-in_err-local : goal.returns-in_err-local
returns-in_err-local c = λ order.
    let f = c.ranges.nanoseconds in
    let cut = seconds-and_past c.args.nanoseconds in
    let x = simp to_z-of_z at c.div_euclid.ensures in
    let y = simp to_z-of_z at c.rem_euclid-past.ensures.value in
    let past = c.rem_euclid-past.result in
    let i : FitsSigned w32 past = omega (arith, ints, c.rem_euclid-past.ensures.lower_bound, c.rem_euclid-past.ensures.upper_bound) in
    let j : FitsSigned w128 past = omega (arith, ints, i.sfits) in
    let k : FitsSigned w128 c.div_euclid.result = omega (arith, ints, cut, x, y, f.sfits) in
    let s = simp to_z-of_z at c.in-Ok.ensures in
    let l : FitsSigned w64 c.in-Ok.seconds = rw s.1 s.0 in
    let o = simp to_z-of_z at c.in_ok-offset.ensures.some in
    let g = simp to_z-of_z at c.in_err-local.ensures in
    let at = found c.args.zone.now c.args.nanoseconds c.in-Ok.seconds past c.in_ok-offset.offset _ (s.1 ∙ x) y (o order) refl in
    none_seen c.args.zone.now _ _ _ at g c.from_residual-in_err-local.ensures

pub returns : goal.returns
returns c = λ order.
    let f = c.ranges.nanoseconds in
    let cut = seconds-and_past c.args.nanoseconds in
    let x = simp to_z-of_z at c.div_euclid.ensures in
    let y = simp to_z-of_z at c.rem_euclid-past.ensures.value in
    let past = c.rem_euclid-past.result in
    let i : FitsSigned w32 past = omega (arith, ints, c.rem_euclid-past.ensures.lower_bound, c.rem_euclid-past.ensures.upper_bound) in
    let j : FitsSigned w128 past = omega (arith, ints, i.sfits) in
    let k : FitsSigned w128 c.div_euclid.result = omega (arith, ints, cut, x, y, f.sfits) in
    let s = simp to_z-of_z at c.in-Ok.ensures in
    let l : FitsSigned w64 c.in-Ok.seconds = rw s.1 s.0 in
    let o = simp to_z-of_z at c.in_ok-offset.ensures.some in
    let g = simp to_z-of_z at c.in_ok-local.ensures in
    let at = found c.args.zone.now c.args.nanoseconds c.in-Ok.seconds past c.in_ok-offset.offset c.in_ok-local.local (s.1 ∙ x) y (o order) g.1 in
    let m = c.assume_offset.ensures.value ∙ at in
    some_seen c.args.zone.now c.assume_offset.result _ m (within c.assume_offset.result c.in_ok-local.local c.in_ok-offset.offset c.assume_offset.ensures.value (subst IsDateTime (sym g.1) g.0))
