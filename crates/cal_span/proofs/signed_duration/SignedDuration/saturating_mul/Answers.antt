use Rattle.std.proofs.Common.{◌*ℤ◌, sym, ◌∙◌}
use Rattle.std.proofs.lemmas.Int.{to_z-of_z}
use Rattle.cal_span.proofs.Clamp.{clamp-inside, clamp-below, clamp-above, product-at_least, product-at_most}
use Rattle.cal_span.proofs.signed_duration.SignedDuration.saturating_mul.Goals as goal

pub returns-in-Some : goal.returns-in-Some
returns-in-Some c =
    let k = c.ranges.rhs in
    let exact = simp to_z-of_z at c.in-Some.ensures in
    exact.1 ∙ sym (clamp-inside (c.args.self *ℤ c.args.rhs) exact.0)

pub returns-in-None : goal.returns-in-None
returns-in-None c =
    let k = c.ranges.rhs in
    let outside = simp to_z-of_z at c.in-None.ensures in
    sym (clamp-above (c.args.self *ℤ c.args.rhs) (product-at_least c.args.self c.args.rhs c.is_negative.result c.is_negative.ensures (simp to_z-of_z at c.if-is_negative-rhs.true)) outside)

pub returns-in-None-2 : goal.returns-in-None-2
returns-in-None-2 c =
    let k = c.ranges.rhs in
    let outside = simp to_z-of_z at c.in-None.ensures in
    sym (clamp-below (c.args.self *ℤ c.args.rhs) (product-at_most c.args.self c.args.rhs c.is_negative.result c.is_negative.ensures (simp to_z-of_z at c.if-is_negative-rhs.false)) outside)
