-- Changes in order: instants rise, and so do the ends of what the changes leave out or show twice.
use Rattle.std.proofs.Common.{◌≡◌, ℕ, zero, suc, ◌<◌, ◌≤◌, length, arith, inl, inr}
use Rattle.std.proofs.lemmas.Int.{ints, clamps}
use Rattle.std.proofs.lemmas.Bool.{cases_lt}
use Rattle.std.specs.Prelude.{ℤ, ◌<ℤ◌, ◌≤ℤ◌, ◌+ℤ◌}
use Rattle.cal_zone.specs.Timeline.{Timeline, IsOrdered, at, begins, ends, after_changes}
use Rattle.std.specs.Int.{int_min, int_max}

least_below_most : (a x y : ℤ) → (a +ℤ int_min x y) ≤ℤ (a +ℤ int_max x y)
least_below_most a x y = omega (arith, ints, clamps)

pub begins_below_ends : (zone : Timeline) (k : ℕ) → begins zone.first.offset zone.changes k ≤ℤ ends zone.first.offset zone.changes k
begins_below_ends zone k = least_below_most (at zone.changes k) (after_changes zone.first.offset zone.changes k) (after_changes zone.first.offset zone.changes (suc k))

pub trans : (a b c : ℤ) → a ≤ℤ b → b ≤ℤ c → a ≤ℤ c
trans a b c p q = omega (arith, ints)

pub less_trans : (a b c : ℤ) → a <ℤ b → b ≤ℤ c → a <ℤ c
less_trans a b c p q = omega (arith, ints)

pub not_less : (a b : ℤ) → a <ℤ b → b ≤ℤ a → ⊥
not_less a b h k = omega (arith, ints)

pub same : (a : ℤ) → a ≤ℤ a
same a = omega (arith, ints)

pub weaken : (a b : ℤ) → a <ℤ b → a ≤ℤ b
weaken a b h = omega (arith, ints)

-- what rises from each index to the next rises
pub rises : (f : ℕ → ℤ) (n : ℕ) → ((k : ℕ) → suc k < n → f k ≤ℤ f (suc k)) → (j k : ℕ) → j ≤ k → k < n → f j ≤ℤ f k
rises f n next j zero h inside = let e : j ≡ zero = omega arith in rw e (same (f zero))
rises f n next j (suc k) h inside =
    elim (cases_lt k j) as (λ _. f j ≤ℤ f (suc k)) [
      | inl past ↦ let e : j ≡ suc k = omega arith in rw e (same (f (suc k)))
      | inr within ↦ trans (f j) (f k) (f (suc k)) (rises f n next j k within (omega arith)) (next k inside)
    ]

pub at_rises : (zone : Timeline) → IsOrdered zone.first.offset zone.changes → (j k : ℕ) → j ≤ k → k < length zone.changes → at zone.changes j ≤ℤ at zone.changes k
at_rises zone order = rises (at zone.changes) (length zone.changes) (λ k inside. weaken (at zone.changes k) (at zone.changes (suc k)) (order.rising k inside))

pub ends_rise : (zone : Timeline) → IsOrdered zone.first.offset zone.changes → (j k : ℕ) → j ≤ k → k < length zone.changes → ends zone.first.offset zone.changes j ≤ℤ ends zone.first.offset zone.changes k
ends_rise zone order = rises (ends zone.first.offset zone.changes) (length zone.changes)
    (λ k inside. trans (ends zone.first.offset zone.changes k) (begins zone.first.offset zone.changes (suc k)) (ends zone.first.offset zone.changes (suc k)) (order.apart k inside) (begins_below_ends zone (suc k)))
