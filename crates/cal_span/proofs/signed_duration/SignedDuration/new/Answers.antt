use Rattle.std.proofs.Common.{◌≡◌, pos, ◌+ℤ◌, ◌*ℤ◌, ℤ, Option, Some, None, SomeIff, IsSome, FitsSigned, int_rem, subst, ◌∙◌, rules, arith}
use Rattle.std.specs.Int.{w32, w64}
use Rattle.std.proofs.lemmas.Int.{ints, to_z-of_z, quot-rem, rem_below}
use Rattle.cal_span.specs.SignedDuration.{second, IsDuration, cut}
use Rattle.cal_span.proofs.Carry.{IsDuration-sum}
use Rattle.cal_span.proofs.signed_duration.SignedDuration.new.Goals as goal

is-some : (r : Option ℤ) (P : Type 0) (v : ℤ) → SomeIff r P v → P → IsSome r
is-some None P v h p = absurd (h p)
is-some (Some x) P v h p = search rules

pub unwrap-requires : goal.unwrap-requires
unwrap-requires c =
    let s = c.ranges.seconds in
    let n = c.ranges.nanoseconds in
    let small = rem_below c.args.nanoseconds (pos second) (omega arith) in
    let past : FitsSigned w32 (int_rem c.args.nanoseconds (pos second)) = omega (arith, ints) in
    let whole : FitsSigned w64 c.from-carry.result = search rules in
    let carry : c.from-carry.result ≡ cut c.args.nanoseconds (pos second) = omega (arith, ints, c.from-carry.ensures) in
    let fits : FitsSigned w64 (c.args.seconds +ℤ c.from-carry.result) = omega (arith, ints, c.requires) in
    let sum = (c.args.seconds +ℤ c.from-carry.result) *ℤ pos second +ℤ int_rem c.args.nanoseconds (pos second) in
    is-some c.checked_new.result (IsDuration sum) sum (simp to_z-of_z at c.checked_new.ensures) (IsDuration-sum (c.args.seconds +ℤ c.from-carry.result) (int_rem c.args.nanoseconds (pos second)) fits (omega (arith, ints), omega (arith, ints)))

pub returns : goal.returns
returns c =
    let s = c.ranges.seconds in
    let n = c.ranges.nanoseconds in
    let small = rem_below c.args.nanoseconds (pos second) (omega arith) in
    let past : FitsSigned w32 (int_rem c.args.nanoseconds (pos second)) = omega (arith, ints) in
    let whole : FitsSigned w64 c.from-carry.result = search rules in
    let carry : c.from-carry.result ≡ cut c.args.nanoseconds (pos second) = omega (arith, ints, c.from-carry.ensures) in
    let fits : FitsSigned w64 (c.args.seconds +ℤ c.from-carry.result) = omega (arith, ints, c.requires) in
    let sum = (c.args.seconds +ℤ c.from-carry.result) *ℤ pos second +ℤ int_rem c.args.nanoseconds (pos second) in
    let parts = quot-rem c.args.nanoseconds (pos second) in
    let same : sum ≡ c.args.seconds *ℤ pos second +ℤ c.args.nanoseconds = omega (arith, ints) in
    let P : Option ℤ → Type 0 = λ r. SomeIff r (IsDuration sum) sum in
    let exact : P (Some c.unwrap.result) = subst P c.unwrap.ensures (simp to_z-of_z at c.checked_new.ensures) in
    exact.1 ∙ same
