use Rattle.std.proofs.Common.{◌≡◌, ◌∙◌, subst, refl, true, false, ℕ, ◌+◌, ◌*◌, ◌≤◌, ℤ, pos, negsuc, neg_ℤ, ◌-ℤ◌, ◌≤ℤ◌, ◌<ℤ◌, FitsSigned, unsigned_abs, to_z, of_z, rules, arith}
use Rattle.std.specs.Int.{w8, w32}
use Rattle.std.specs.Int.Signed.{lt_z}
use Rattle.std.proofs.lemmas.Int.{ints, to_z-of_z}
use Rattle.cal_clock.specs.UtcOffset.{leading_component, with_sign_from, max_offset_seconds}
use Rattle.cal_clock.proofs.utc_offset.UtcOffset.from_components.Goals as goal
use Rattle.cal_clock.proofs.utc_offset.UtcOffset.from_components.Goals.{After-from-3}

-- The magnitude in seconds, as the code computes it.
same : (a b d h m s : ℕ) → a ≡ h → b ≡ m → d ≡ s → a * 3_600 + b * 60 + d ≡ 3_600 * h + 60 * m + s
same a b d h m s e f g = omega arith

most : (h m s : ℕ) → h ≤ 25 → m ≤ 59 → s ≤ 59 → 3_600 * h + 60 * m + s ≤ max_offset_seconds
most h m s e f g = omega arith

record Computed (c : After-from-3) : Type 0 where
  magnitude : c.from.result * 3_600 + c.from-2.result * 60 + c.from-3.result ≡ 3_600 * unsigned_abs c.args.hours + 60 * unsigned_abs c.args.minutes + unsigned_abs c.args.seconds
  small : 3_600 * unsigned_abs c.args.hours + 60 * unsigned_abs c.args.minutes + unsigned_abs c.args.seconds ≤ max_offset_seconds

computed : (c : After-from-3) → Computed c
computed c =
    let h = c.ranges.hours in
    let m = c.ranges.minutes in
    let s = c.ranges.seconds in
    record {
      magnitude = same _ _ _ (unsigned_abs c.args.hours) (unsigned_abs c.args.minutes) (unsigned_abs c.args.seconds)
          (c.from.ensures ∙ (simp to_z-of_z at c.unsigned_abs.ensures.value)) (c.from-2.ensures ∙ (simp to_z-of_z at c.unsigned_abs-2.ensures.value)) (c.from-3.ensures ∙ (simp to_z-of_z at c.unsigned_abs-3.ensures.value));
      small = most _ _ _ c.requires.hour c.requires.minute c.requires.second;
    }

-- The magnitude with the sign of a number.
negative : (lead : ℤ) (n : ℕ) → lead <ℤ pos 0 → neg_ℤ (pos n) ≡ with_sign_from lead n
negative (pos k) n below = absurd (omega (arith, ints, below))
negative (negsuc k) n below = refl

positive : (lead : ℤ) (n : ℕ) → pos 0 ≤ℤ lead → pos n ≡ with_sign_from lead n
positive (pos k) n from = refl
positive (negsuc k) n from = absurd (omega (arith, ints, from))

stored : (n m : ℕ) → n ≡ m → m ≤ max_offset_seconds → to_z w32 n ≡ pos m
stored n m e small = omega (arith, ints)

opposite : (z : ℤ) (m : ℕ) → z ≡ pos m → m ≤ max_offset_seconds → to_z w32 (of_z w32 (pos 0 -ℤ z)) ≡ neg_ℤ (pos m)
opposite z m e small = omega (arith, ints)

-- What the test of a sign says.
is-below : (z : ℤ) → lt_z z (pos 0) ≡ true → z <ℤ pos 0
is-below z e = omega (arith, ints)

is-not-below : (z : ℤ) → lt_z z (pos 0) ≡ false → pos 0 ≤ℤ z
is-not-below z e = omega (arith, ints)

pub returns-then-leading_component-lt0 : goal.returns-then-leading_component-lt0
returns-then-leading_component-lt0 c =
    let is = computed c.before.before in
    let h = c.ranges.hours in
    let m = c.ranges.minutes in
    let s = c.ranges.seconds in
    let small : FitsSigned w8 c.leading_component.result = search rules in
    let below = is-below c.leading_component.result (simp to_z-of_z at c.if-leading_component-lt0.true) in
    opposite _ _ (stored _ _ is.magnitude is.small) is.small
    ∙ negative (leading_component c.args.hours c.args.minutes c.args.seconds) _ (subst (λ z. z <ℤ pos 0) (simp to_z-of_z at c.leading_component.ensures) below)

pub returns-else-leading_component-lt0 : goal.returns-else-leading_component-lt0
returns-else-leading_component-lt0 c =
    let is = computed c.before.before in
    let h = c.ranges.hours in
    let m = c.ranges.minutes in
    let s = c.ranges.seconds in
    let small : FitsSigned w8 c.leading_component.result = search rules in
    let from = is-not-below c.leading_component.result (simp to_z-of_z at c.if-leading_component-lt0.false) in
    stored _ _ is.magnitude is.small
    ∙ positive (leading_component c.args.hours c.args.minutes c.args.seconds) _ (subst (λ z. pos 0 ≤ℤ z) (simp to_z-of_z at c.leading_component.ensures) from)
