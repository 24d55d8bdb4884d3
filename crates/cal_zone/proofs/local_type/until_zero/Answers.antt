use Rattle.std.proofs.Common.{◌≡◌, ℕ, ◌<◌, ◌≤◌, nat_lt, length, take, slice_index, sym, ap, ◌∙◌, arith, rules, true}
use Rattle.std.proofs.lemmas.Bool.Decides.{nat_tests}
use Rattle.std.proofs.lemmas.List.Sums.{prefix_len_is}
use Rattle.std.specs.List.{prefix_len}
use Rattle.std.proofs.Math.Seq.{take_all}
use Rattle.cal_zone.proofs.local_type.until_zero.Goals as goal

pub returns-then-b-eq0 : goal.returns-then-b-eq0
returns-then-b-eq0 c =
    let bytes = c.args.bytes.now in
    let zero : slice_index bytes c.loop-index.index ≡ 0 = search rules in
    let passes : (k : ℕ) → k < c.loop-index.index → nat_lt 0 (slice_index bytes k) ≡ true = λ k h. grind (arith, nat_tests, c.loop-index.invariant k h) in
    sym (ap (λ (n : ℕ). take n bytes) (prefix_len_is (nat_lt 0) bytes c.loop-index.index 0 (omega arith) passes (λ _. grind (arith, nat_tests))))

pub returns : goal.returns
returns c =
    let bytes = c.args.bytes.now in
    let all : length bytes ≤ c.loop-index.index = omega arith in
    let passes : (k : ℕ) → k < length bytes → nat_lt 0 (slice_index bytes k) ≡ true = λ k h. grind (arith, nat_tests, c.loop-index.invariant k (omega arith)) in
    let whole : prefix_len (nat_lt 0) bytes ≡ length bytes = prefix_len_is (nat_lt 0) bytes (length bytes) 0 (omega arith) passes (λ h. absurd (omega arith)) in
    sym (ap (λ (n : ℕ). take n bytes) whole ∙ take_all (length bytes) bytes (omega arith))
