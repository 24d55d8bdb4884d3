use Rattle.std.proofs.Common.{◌*ℤ◌, ℤ, Option, FitsSigned, SomeIff, subst, sym, ◌∙◌, rules}
use Rattle.std.specs.Int.{w32, w64}
use Rattle.std.proofs.lemmas.Int.{to_z-of_z}
use Rattle.cal_span.specs.SignedDuration.{IsDuration}
use Rattle.cal_span.proofs.Carry.{seconds-fit, IsDuration-fields}
use Rattle.cal_span.proofs.Product.{IsProduct-of}
use Rattle.cal_span.proofs.signed_duration.SignedDuration.checked_product.Goals as goal

pub checked_mul_add-requires : goal.checked_mul_add-requires
checked_mul_add-requires c =
    let k = c.ranges.factor in
    let a : FitsSigned w64 c.self.inside.seconds = search rules in
    let b : FitsSigned w64 c.past.inside.seconds = search rules in
    let is_past = simp to_z-of_z at c.subsec_nanoseconds_times-past.ensures in
    let p = IsProduct-of c.self.inside c.past.inside c.args.self c.args.factor c.self.invariant c.past.invariant c.self.view_is (c.past.view_is ∙ is_past) in
    simp to_z-of_z (record { small = p.small; positive = p.positive; negative = p.negative })

pub returns-in_err-checked_mul_add : goal.returns-in_err-checked_mul_add
returns-in_err-checked_mul_add c =
    let k = c.ranges.factor in
    let a : FitsSigned w64 c.self.inside.seconds = search rules in
    let b : FitsSigned w64 c.past.inside.seconds = search rules in
    let is_past = simp to_z-of_z at c.subsec_nanoseconds_times-past.ensures in
    let p = IsProduct-of c.self.inside c.past.inside c.args.self c.args.factor c.self.invariant c.past.invariant c.self.view_is (c.past.view_is ∙ is_past) in
    let not_fits = simp to_z-of_z at c.in_err-checked_mul_add.ensures in
    let P : Option ℤ → Type 0 = λ r. SomeIff r (IsDuration (c.args.self *ℤ c.args.factor)) (c.args.self *ℤ c.args.factor) in
    subst P (sym c.from_residual.ensures) (λ d. not_fits (seconds-fit _ _ p.normal.positive p.normal.negative (subst IsDuration (sym p.whole) d)))

pub invariant_of-result : goal.invariant_of-result
invariant_of-result c =
    let k = c.ranges.factor in
    let a : FitsSigned w64 c.self.inside.seconds = search rules in
    let b : FitsSigned w64 c.past.inside.seconds = search rules in
    let n : FitsSigned w32 c.past.inside.nanoseconds = search rules in
    let s : FitsSigned w64 c.in_ok-checked_mul_add.field-0 = search rules in
    let is_past = simp to_z-of_z at c.subsec_nanoseconds_times-past.ensures in
    let p = IsProduct-of c.self.inside c.past.inside c.args.self c.args.factor c.self.invariant c.past.invariant c.self.view_is (c.past.view_is ∙ is_past) in
    let sum = simp to_z-of_z at c.in_ok-checked_mul_add.ensures in
    simp to_z-of_z (rw sum.1 p.normal)

pub returns : goal.returns
returns c =
    let k = c.ranges.factor in
    let a : FitsSigned w64 c.self.inside.seconds = search rules in
    let b : FitsSigned w64 c.past.inside.seconds = search rules in
    let n : FitsSigned w32 c.past.inside.nanoseconds = search rules in
    let s : FitsSigned w64 c.in_ok-checked_mul_add.field-0 = search rules in
    let is_past = simp to_z-of_z at c.subsec_nanoseconds_times-past.ensures in
    let p = IsProduct-of c.self.inside c.past.inside c.args.self c.args.factor c.self.invariant c.past.invariant c.self.view_is (c.past.view_is ∙ is_past) in
    let sum = simp to_z-of_z at c.in_ok-checked_mul_add.ensures in
    (subst IsDuration p.whole (IsDuration-fields _ p.normal sum.0), simp to_z-of_z (rw sum.1 p.whole))
