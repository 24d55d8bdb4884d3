-- Contracts that leave one result, if search doesn't find why.
use Rattle.std.proofs.Common.{◌≡◌, ℕ, suc, ◌+◌, ◌-◌, ◌*◌, ◌/◌, ◌%◌, ◌<◌, ◌≤◌, ◌⊎◌, List, [], ◌∷◌, ◌++◌, length, Option, Some, None, inl, inr, refl, sym, ap, subst, ◌∙◌, arith, ℤ, pos, ◌+ℤ◌, ◌*ℤ◌, Bool, true, false, Result, Ok, Err}
use Rattle.std.proofs.lemmas.Bool.{cases_lt}
use Rattle.std.proofs.lemmas.Int.{ints}
use Rattle.std.proofs.lemmas.List.{length-append}
use Rattle.std.proofs.Math.Nat.{mod-add-mod, add-mod_right, add-mul-mod_self_left, mod-eq_of_lt}
use Rattle.std.specs.Prelude.{IfOk, IfErr, MatchOption, IsSomeAnd, ◌↔◌, ◌<ℤ◌, ◌≤ℤ◌, not}
use Rattle.std.specs.List.{All}
use Rattle.cal_units.specs.Counted.{IsExtent, IsFirstMaximum, IsFirstMinimum, IsItemBetween}
use Rattle.cal_units.specs.declared.cycle.Cycle.{Ghosts}
use Rattle.cal_units.specs.ComponentError.{FailsWith}
use Rattle.cal_units.specs.declared.error.ComponentRange.{ComponentRange}
use Rattle.cal_units.specs.CycleSteps.{IsBehind, ShortCircuits, at_end, stops, goes_on}
use Rattle.cal_units.specs.declared.util.date_adjustment.DateAdjustment.{DateAdjustment}
use Rattle.cal_span.specs.SignedDuration.{day}
use Rattle.cal_clock.specs.Time.{carry}
use Rattle.cal_date.specs.Date.{IsDate, julian_day_at}
use Rattle.cal_time.specs.Pair.{HasPairNumber, IsPairWithNumber}
use Rattle.cal_time.proofs.Pairs.{same_number}

-- An error with a reason is the error of this reason.
refused-err : {V : Type 0} (why : ComponentRange) (r : Result V ComponentRange) → FailsWith why r → r ≡ Err why
refused-err why (Ok v) h = absurd h
refused-err why (Err e) h = ap Err h

same_refusal : {V : Type 0} (why : ComponentRange) (Says : Type 0) (r s : Result V ComponentRange)
    → (FailsWith why r ↔ Says) → (FailsWith why s ↔ Says) → FailsWith why s → r ≡ s
same_refusal why Says r s h k refused = refused-err why r (h.1 (k.0 refused)) ∙ sym (refused-err why s refused)

-- The day that was asked for, or one of two errors, each exactly as its clause says.
pub of_two_refusals-one : (Has : ℕ → Type 0) (a b : ComponentRange) (A B : Type 0) (r s : Result ℕ ComponentRange)
    → ((n : ℕ) → IsDate n → Has n → r ≡ Ok n) → IfOk s (λ n. IsDate n × Has n) → IfErr s (λ e. (e ≡ a) ⊎ (e ≡ b))
    → (FailsWith a r ↔ A) → (FailsWith a s ↔ A) → (FailsWith b r ↔ B) → (FailsWith b s ↔ B) → r ≡ s
of_two_refusals-one Has a b A B r (Ok n) every has reason ra sa rb sb = every n has.0 has.1
of_two_refusals-one Has a b A B r (Err e) every has reason ra sa rb sb =
    elim reason [
      | inl first ↦ same_refusal a A r (Err e) ra sa first
      | inr second ↦ same_refusal b B r (Err e) rb sb second
    ]

-- The same for three errors.
pub of_three_refusals-one : (Has : ℕ → Type 0) (a b c : ComponentRange) (A B C : Type 0) (r s : Result ℕ ComponentRange)
    → ((n : ℕ) → IsDate n → Has n → r ≡ Ok n) → IfOk s (λ n. IsDate n × Has n) → IfErr s (λ e. (e ≡ a) ⊎ (e ≡ b) ⊎ (e ≡ c))
    → (FailsWith a r ↔ A) → (FailsWith a s ↔ A) → (FailsWith b r ↔ B) → (FailsWith b s ↔ B)
    → (FailsWith c r ↔ C) → (FailsWith c s ↔ C) → r ≡ s
of_three_refusals-one Has a b c A B C r (Ok n) every has reason ra sa rb sb rc sc = every n has.0 has.1
of_three_refusals-one Has a b c A B C r (Err e) every has reason ra sa rb sb rc sc =
    elim reason [
      | inl first ↦ same_refusal a A r (Err e) ra sa first
      | inr later ↦ elim later [
        | inl second ↦ same_refusal b B r (Err e) rb sb second
        | inr third ↦ same_refusal c C r (Err e) rc sc third
      ]
    ]

-- A value if three numbers are within their bounds, else the error of the first that isn't.
pub of_three_bounds-one : {V : Type 0} (a b c : ComponentRange) (x y z i j k : ℕ) (v : V) (r s : Result V ComponentRange)
    → (FailsWith a r ↔ (i < x)) → (FailsWith a s ↔ (i < x))
    → (FailsWith b r ↔ (x ≤ i) × (j < y)) → (FailsWith b s ↔ (x ≤ i) × (j < y))
    → (FailsWith c r ↔ (x ≤ i) × (y ≤ j) × (k < z)) → (FailsWith c s ↔ (x ≤ i) × (y ≤ j) × (k < z))
    → (x ≤ i → y ≤ j → z ≤ k → r ≡ Ok v) → (x ≤ i → y ≤ j → z ≤ k → s ≡ Ok v) → r ≡ s
of_three_bounds-one a b c x y z i j k v r s ra sa rb sb rc sc rv sv =
    elim (cases_lt i x) [
      | inl past ↦ same_refusal a (i < x) r s ra sa (sa.1 past)
      | inr first ↦ elim (cases_lt j y) [
        | inl past ↦ same_refusal b ((x ≤ i) × (j < y)) r s rb sb (sb.1 (first, past))
        | inr second ↦ elim (cases_lt k z) [
          | inl past ↦ same_refusal c ((x ≤ i) × (y ≤ j) × (k < z)) r s rc sc (sc.1 (first, second, past))
          | inr third ↦ rv first second third ∙ sym (sv first second third)
        ]
      ]
    ]

-- The adjustment and the time of one pair.
carry-one : (a b : DateAdjustment) → carry a ≡ carry b → a ≡ b
carry-one a b e = grind (arith, ints)

pub step-one : (days : DateAdjustment → ℤ) → ((a b : DateAdjustment) → days a ≡ days b → carry a ≡ carry b)
    → (v : ℤ) (r s : DateAdjustment × ℕ)
    → v ≡ days r.0 *ℤ pos day +ℤ pos r.1 → r.1 < day → v ≡ days s.0 *ℤ pos day +ℤ pos s.1 → s.1 < day → r ≡ s
step-one days one v r s e below f under =
    let same = same_number (days r.0) (days s.0) r.1 s.1 below under (sym e ∙ f) in
    let steps = carry-one r.0 s.0 (one r.0 s.0 same.0) in
    λ i. (steps i, same.1 i)

-- A number of steps back and the same number of steps forward return to the start.
come_back : (a n length : ℕ) → a < length → ((a + n) % length + (length - n % length)) % length ≡ a
come_back a n length below =
    let back = length - n % length in
    let around = mod-add-mod (a + n) length back in
    let whole : a + n + back ≡ (a + length * (n / length)) + length = omega arith in
    let once = add-mod_right (a + length * (n / length)) length in
    let all = add-mul-mod_self_left a length (n / length) in
    let small = mod-eq_of_lt below in
    cc

-- A step back has one result, because two values don't have the same index.
back-one : {C : Type 0} (cycle : Ghosts C)
    → ((x : C) → cycle.index_of x < cycle.LENGTH) → ((x : C) → cycle.value_at (cycle.index_of x) ≡ x)
    → (n : ℕ) (x y z : C) → IsBehind cycle n x y → IsBehind cycle n x z → y ≡ z
back-one cycle below at_index n x y z e f =
    let length = cycle.LENGTH in
    let there = come_back (cycle.index_of y) n length (below y) in
    let other = come_back (cycle.index_of z) n length (below z) in
    let same : cycle.index_of y ≡ cycle.index_of z = sym there ∙ ap (λ p. (p + (length - n % length)) % length) (e ∙ sym f) ∙ other in
    sym (at_index y) ∙ ap cycle.value_at same ∙ at_index z

pub nth_back-one : {C : Type 0} (cycle : Ghosts C)
    → ((x : C) → cycle.index_of x < cycle.LENGTH) → ((x : C) → cycle.value_at (cycle.index_of x) ≡ x)
    → (n : ℕ) (x : C) (r s : Option C × C)
    → IsSomeAnd r.0 (λ y. IsBehind cycle n x y × IsBehind cycle 1 y r.1)
    → IsSomeAnd s.0 (λ y. IsBehind cycle n x y × IsBehind cycle 1 y s.1) → r ≡ s
nth_back-one cycle below at_index n x (None, after) (end, left) h k = absurd h
nth_back-one cycle below at_index n x (Some y, after) (None, left) h k = absurd k
nth_back-one cycle below at_index n x (Some y, after) (Some z, left) h k =
    let items : y ≡ z = back-one cycle below at_index n x y z h.0 k.0 in
    let rest : after ≡ left = back-one cycle below at_index 1 z after left (rw items at h.1) k.1 in
    λ i. (Some (items i), rest i)

-- The calls of a closure, if each call leaves one result.
not-itself : (go : Bool) → go ≡ not go → ⊥
not-itself true e = cc
not-itself false e = cc

-- The state of the calls from one index on.
abbrev Seen : {F C : Type 0} (cycle : Ghosts C) (calls : F → C → Bool → F → Type 0) (go : Bool) → ℕ → F → Bool → Type 0
Seen cycle calls go i f r =
    ((i ≡ cycle.LENGTH) × (r ≡ go))
    ⊎ (((i < cycle.LENGTH) × (g : _) × calls f (cycle.value_at i) (not go) g × (r ≡ not go))
    ⊎ ((i < cycle.LENGTH) × (g : _) × calls f (cycle.value_at i) go g × ShortCircuits cycle calls go (i + 1) g r))

seen : {F C : Type 0} (cycle : Ghosts C) (calls : F → C → Bool → F → Type 0) (go : Bool) (i : ℕ) (f : F) (r : Bool)
    → ShortCircuits cycle calls go i f r → Seen cycle calls go i f r
seen cycle calls go i f r (at_end _) = inl (refl, refl)
seen cycle calls go i f r (stops _ _ g below call) = inr (inl (below, g, call, refl))
seen cycle calls go i f r (goes_on _ _ g _ below call rest) = inr (inr (below, g, call, rest))

pub asked-one : {F C : Type 0} (cycle : Ghosts C) (calls : F → C → Bool → F → Type 0) (go : Bool)
    → ((x : C) (f g h : F) (p q : Bool) → calls f x p g → calls f x q h → (p ≡ q) × (g ≡ h))
    → (i : ℕ) (f : F) (r s : Bool) → ShortCircuits cycle calls go i f r → ShortCircuits cycle calls go i f s → r ≡ s
asked-one cycle calls go one i f r s (at_end _) other =
    elim (seen cycle calls go _ f s other) [
      | inl end ↦ sym end.1
      | inr more ↦ elim more [
        | inl stop ↦ absurd (omega (arith, stop.0))
        | inr on ↦ absurd (omega (arith, on.0))
      ]
    ]
asked-one cycle calls go one i f r s (stops _ _ g below call) other =
    elim (seen cycle calls go _ f s other) [
      | inl end ↦ absurd (omega (arith, end.0))
      | inr more ↦ elim more [
        | inl stop ↦ sym stop.3
        | inr on ↦ absurd (not-itself go (one _ f _ _ _ _ on.2 call).0)
      ]
    ]
asked-one cycle calls go one i f r s (goes_on _ _ g _ below call rest) other =
    elim (seen cycle calls go _ f s other) [
      | inl end ↦ absurd (omega (arith, end.0))
      | inr more ↦ elim more [
        | inl stop ↦ absurd (not-itself go (one _ f _ _ _ _ call stop.2).0)
        | inr on ↦
            let after = subst (λ h. ShortCircuits cycle calls go (i + 1) h s) (one _ f _ _ _ _ on.2 call).1 on.3 in
            asked-one cycle calls go one (i + 1) g r s rest after
      ]
    ]

-- The pair with a number, or none.
pair-one : (z : ℤ) (p q : ℕ × ℕ) → HasPairNumber z p.0 p.1 → HasPairNumber z q.0 q.1 → p ≡ q
pair-one z p q h k =
    let same = same_number (julian_day_at p.0) (julian_day_at q.0) p.1 q.1 h.time.below_day k.time.below_day (h.number_is ∙ sym k.number_is) in
    let dates : p.0 ≡ q.0 = omega (arith, ints, same.0) in
    λ i. (dates i, same.1 i)

pub pair_at-one : (z : ℤ) (r s : Option (ℕ × ℕ)) → IsPairWithNumber z r → IsPairWithNumber z s → r ≡ s
pair_at-one z None None h k = refl
pair_at-one z None (Some p) h k = absurd (h p.0 p.1 k)
pair_at-one z (Some p) None h k = absurd (k p.0 p.1 h)
pair_at-one z (Some p) (Some q) h k = ap Some (pair-one z p q h k)

-- The first minimum and the first maximum of a slice.
none-of_empty : {T : Type 0} {P Q : T → Type 0} (items : List T) (x : T) → items ≡ [] → IsItemBetween P Q items x → ⊥
none-of_empty items x e m = absurd (omega (arith, ap length (sym e ∙ m.place), length-append m.before (x ∷ m.after)))

at_middle : {T : Type 0} (P : T → Type 0) (before : List T) (y : T) (after : List T) → All P (before ++ y ∷ after) → P y
at_middle P [] y after h = h 0 y (omega arith)
at_middle P (b ∷ before) y after h = at_middle P before y after (λ k d lt. h (suc k) d (omega (arith, lt)))

one-place : {T : Type 0} (P Q P' Q' : T → Type 0) (x y : T) → (P' x → Q y → ⊥) → (P y → Q' x → ⊥)
    → (before after before' after' : List T) → before ++ x ∷ after ≡ before' ++ y ∷ after'
    → All P before → All Q after → All P' before' → All Q' after' → x ≡ y
one-place P Q P' Q' x y not_later not_earlier [] after [] after' e p q p' q' = cc
one-place P Q P' Q' x y not_later not_earlier [] after (b ∷ before') after' e p q p' q' =
    let head : b ≡ x = cc in
    let tail : after ≡ before' ++ y ∷ after' = cc in
    absurd (not_later (subst P' head (p' 0 b (omega arith))) (at_middle Q before' y after' (subst (All Q) tail q)))
one-place P Q P' Q' x y not_later not_earlier (a ∷ before) after [] after' e p q p' q' =
    let head : a ≡ y = cc in
    let tail : after' ≡ before ++ x ∷ after = cc in
    absurd (not_earlier (subst P head (p 0 a (omega arith))) (at_middle Q' before x after (subst (All Q') tail q')))
one-place P Q P' Q' x y not_later not_earlier (a ∷ before) after (b ∷ before') after' e p q p' q' =
    let tail : before ++ x ∷ after ≡ before' ++ y ∷ after' = cc in
    one-place P Q P' Q' x y not_later not_earlier before after before' after' tail (λ k d lt. p (suc k) d (omega (arith, lt))) q (λ k d lt. p' (suc k) d (omega (arith, lt))) q'

minimum-one : {T : Type 0} (number : T → ℤ) (items : List T) (x y : T) → IsFirstMinimum number items x → IsFirstMinimum number items y → x ≡ y
minimum-one number items x y h k =
    one-place (λ z. number x <ℤ number z) (λ z. number x ≤ℤ number z) (λ z. number y <ℤ number z) (λ z. number y ≤ℤ number z) x y
    (λ a b. omega (arith, ints, a, b)) (λ a b. omega (arith, ints, a, b)) h.before h.after k.before k.after (sym h.place ∙ k.place) h.earlier h.later k.earlier k.later

maximum-one : {T : Type 0} (number : T → ℤ) (items : List T) (x y : T) → IsFirstMaximum number items x → IsFirstMaximum number items y → x ≡ y
maximum-one number items x y h k =
    one-place (λ z. number z <ℤ number x) (λ z. number z ≤ℤ number x) (λ z. number z <ℤ number y) (λ z. number z ≤ℤ number y) x y
    (λ a b. omega (arith, ints, a, b)) (λ a b. omega (arith, ints, a, b)) h.before h.after k.before k.after (sym h.place ∙ k.place) h.earlier h.later k.earlier k.later

pub extent-one : {T : Type 0} (number : T → ℤ) (items : List T) (r s : Option (T × T))
    → MatchOption r (items ≡ []) (IsExtent number items) → MatchOption s (items ≡ []) (IsExtent number items) → r ≡ s
extent-one number items None None h k = refl
extent-one number items None (Some q) h k = absurd (none-of_empty items q.0 h k.minimum)
extent-one number items (Some p) None h k = absurd (none-of_empty items p.0 k h.minimum)
extent-one number items (Some p) (Some q) h k =
    let minimum = minimum-one number items p.0 q.0 h.minimum k.minimum in
    let maximum = maximum-one number items p.1 q.1 h.maximum k.maximum in
    ap Some (λ i. (minimum i, maximum i))
