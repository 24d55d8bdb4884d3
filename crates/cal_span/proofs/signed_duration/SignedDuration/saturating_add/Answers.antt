use Rattle.std.proofs.Common.{pos, ◌+ℤ◌, ◌<ℤ◌, ◌≤ℤ◌, FitsSigned, sym, ◌∙◌, rules, arith}
use Rattle.std.specs.Int.{int_min, w64}
use Rattle.std.proofs.lemmas.Int.{ints, to_z-of_z}
use Rattle.cal_span.proofs.Clamp.{clamp-inside, clamp-below, clamp-above, sum-at_most, sum-at_least}
use Rattle.cal_span.proofs.signed_duration.SignedDuration.saturating_add.Goals as goal

pub returns-in-Some : goal.returns-in-Some
returns-in-Some c =
    let exact = c.in-Some.ensures in
    exact.1 ∙ sym (clamp-inside (c.args.self +ℤ c.args.rhs) exact.0)

pub returns-in-None : goal.returns-in-None
returns-in-None c =
    let a : FitsSigned w64 c.self.inside.seconds = search rules in
    let b : FitsSigned w64 c.rhs.inside.seconds = search rules in
    let m : FitsSigned w64 c.min.result = search rules in
    let is_min = simp to_z-of_z at c.min.ensures.value in
    let side : int_min c.self.inside.seconds c.rhs.inside.seconds <ℤ pos 0 = omega (arith, ints) in
    sym (clamp-below (c.args.self +ℤ c.args.rhs) (sum-at_most c.self.inside c.rhs.inside c.args.self c.args.rhs c.self.invariant c.rhs.invariant a b c.self.view_is c.rhs.view_is side) c.in-None.ensures)

pub returns-in-None-2 : goal.returns-in-None-2
returns-in-None-2 c =
    let a : FitsSigned w64 c.self.inside.seconds = search rules in
    let b : FitsSigned w64 c.rhs.inside.seconds = search rules in
    let m : FitsSigned w64 c.min.result = search rules in
    let is_min = simp to_z-of_z at c.min.ensures.value in
    let neither : pos 0 ≤ℤ int_min c.self.inside.seconds c.rhs.inside.seconds = omega (arith, ints) in
    sym (clamp-above (c.args.self +ℤ c.args.rhs) (sum-at_least c.self.inside c.rhs.inside c.args.self c.args.rhs c.self.invariant c.rhs.invariant a b c.self.view_is c.rhs.view_is neither) c.in-None.ensures)
