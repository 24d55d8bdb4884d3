use Rattle.std.proofs.Common.{◌≡◌, ◌*ℤ◌, ℤ, FitsSigned, to_z, of_z, ap, ◌∙◌, rules}
use Rattle.std.specs.Int.{w32, w64}
use Rattle.std.proofs.lemmas.Int.{to_z-of_z}
use Rattle.cal_span.specs.SignedDuration.{subsec_nanoseconds}
use Rattle.cal_span.proofs.Product.{past-fits}
use Rattle.cal_span.proofs.signed_duration.SignedDuration.subsec_nanoseconds_times.Goals as goal

-- The factor in 64 bits that the code multiplies.
widened : (v m n : ℤ) → FitsSigned w32 m → m ≡ subsec_nanoseconds v → n ≡ to_z w32 (of_z w32 m) → n ≡ subsec_nanoseconds v
widened v m n fits past wide = wide ∙ to_z-of_z w32 m fits ∙ past

pub overflow_mul-from : goal.overflow_mul-from
overflow_mul-from c =
    let k = c.ranges.factor in
    let n : FitsSigned w64 c.from.result = search rules in
    let wide = widened c.args.self c.subsec_nanoseconds.result c.from.result (search rules) c.subsec_nanoseconds.ensures c.from.ensures in
    simp to_z-of_z (rw wide (past-fits c.args.self c.args.factor c.requires))

pub returns : goal.returns
returns c =
    let k = c.ranges.factor in
    let wide = widened c.args.self c.subsec_nanoseconds.result c.from.result (search rules) c.subsec_nanoseconds.ensures c.from.ensures in
    let n : FitsSigned w64 c.from.result = search rules in
    let fits : FitsSigned w64 (c.from.result *ℤ c.args.factor) = rw wide (past-fits c.args.self c.args.factor c.requires) in
    simp to_z-of_z at c.nanoseconds.ensures ∙ ap (λ n. n *ℤ c.args.factor) wide
