use Rattle.std.proofs.Common.{◌+ℤ◌, ℤ, Option, FitsSigned, SomeIff, sym, subst, rules, arith}
use Rattle.std.specs.Int.{w32, w64}
use Rattle.std.proofs.lemmas.Int.{ints, to_z-of_z}
use Rattle.cal_span.specs.SignedDuration.{IsDuration}
use Rattle.cal_span.proofs.Carry.{add-fits, CanCarry-sum, sum-fields, exact-along}
use Rattle.cal_span.proofs.signed_duration.SignedDuration.checked_add.Goals as goal

pub returns-in_err-seconds : goal.returns-in_err-seconds
returns-in_err-seconds c =
    let a : FitsSigned w64 c.self.inside.seconds = search rules in
    let b : FitsSigned w64 c.rhs.inside.seconds = search rules in
    let h = simp to_z-of_z at c.in_err-seconds.ensures in
    let P : Option ℤ → Type 0 = λ r. SomeIff r (IsDuration (c.args.self +ℤ c.args.rhs)) (c.args.self +ℤ c.args.rhs) in
    subst P (sym c.from_residual.ensures) (λ d. h (add-fits c.self.inside c.rhs.inside c.args.self c.args.rhs c.self.invariant c.rhs.invariant a b c.self.view_is c.rhs.view_is d))

pub checked_new-requires : goal.checked_new-requires
checked_new-requires c =
    let can = CanCarry-sum c.self.inside c.rhs.inside c.self.invariant c.rhs.invariant in
    let a : FitsSigned w64 c.self.inside.seconds = search rules in
    let b : FitsSigned w64 c.rhs.inside.seconds = search rules in
    let m : FitsSigned w32 c.self.inside.nanoseconds = search rules in
    let n : FitsSigned w32 c.rhs.inside.nanoseconds = search rules in
    let mn : FitsSigned w32 (c.self.inside.nanoseconds +ℤ c.rhs.inside.nanoseconds) = omega (arith, ints, can.above, can.below) in
    let s : FitsSigned w64 c.in_ok-seconds.seconds = search rules in
    let k = simp to_z-of_z at c.in_ok-seconds.ensures in
    simp to_z-of_z (rw k.1 can)

pub returns : goal.returns
returns c =
    let can = CanCarry-sum c.self.inside c.rhs.inside c.self.invariant c.rhs.invariant in
    let a : FitsSigned w64 c.self.inside.seconds = search rules in
    let b : FitsSigned w64 c.rhs.inside.seconds = search rules in
    let m : FitsSigned w32 c.self.inside.nanoseconds = search rules in
    let n : FitsSigned w32 c.rhs.inside.nanoseconds = search rules in
    let mn : FitsSigned w32 (c.self.inside.nanoseconds +ℤ c.rhs.inside.nanoseconds) = omega (arith, ints, can.above, can.below) in
    let s : FitsSigned w64 c.in_ok-seconds.seconds = search rules in
    let k = simp to_z-of_z at c.in_ok-seconds.ensures in
    exact-along c.checked_new.result _ (c.args.self +ℤ c.args.rhs) (rw k.1 (sum-fields c.self.inside c.rhs.inside c.args.self c.args.rhs c.self.view_is c.rhs.view_is)) (simp to_z-of_z at c.checked_new.ensures)
