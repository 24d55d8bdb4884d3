-- The number of open components, line after line.
use Rattle.std.proofs.Common.{◌≡◌, ℕ, ◌+◌, Bool, true, false, cond, List, [], ◌∷◌, ◌++◌, length, Option, Some, None, ap, refl, ◌∙◌, arith}
use Rattle.std.specs.Prelude.{option_map, slice_get}
use Rattle.cal_ics.specs.EventSet.{has_name, set_line, set_lines, values_within}
use Rattle.cal_ics.specs.Events.{depth_after, is_last, lines_within}
use Rattle.cal_ics.proofs.Begins.{skip}
use Rattle.cal_recurrence.specs.Words.{rest_outside}

-- the number of open components after some lines
abbrev pub depth_past : ℕ → List (List ℕ) → ℕ
depth_past depth [] = depth
depth_past depth (line ∷ lines) = depth_past (depth_after depth line) lines

pub depth-more : (depth : ℕ) (xs : List (List ℕ)) (y : List ℕ) → depth_past depth (xs ++ y ∷ []) ≡ depth_after (depth_past depth xs) y
depth-more depth [] y = refl
depth-more depth (x ∷ xs) y = depth-more (depth_after depth x) xs y

-- the lines that a set has
pub set-append : (depth : ℕ) (xs ys : List (List ℕ)) → set_lines depth (xs ++ ys) ≡ set_lines depth xs ++ set_lines (depth_past depth xs) ys
set-append depth [] ys = refl
set-append depth (x ∷ xs) ys = ap (λ lines. set_line depth x ∷ lines) (set-append (depth_after depth x) xs ys)

pub length-set : (depth : ℕ) (xs : List (List ℕ)) → length (set_lines depth xs) ≡ length xs
length-set depth [] = refl
length-set depth (x ∷ xs) = omega (arith, length-set (depth_after depth x) xs)

-- the line that ends the last open component comes after some lines
inner : (o : Option ℕ) → option_map (λ (n : ℕ). n + 1) o ≡ None → o ≡ None
inner None e = refl
inner (Some n) e = absurd (cc)

pub ends-here : (depth : ℕ) (xs : List (List ℕ)) (y : List ℕ) (ys : List (List ℕ)) → lines_within depth xs ≡ None → is_last (depth_past depth xs) y ≡ true
    → lines_within depth (xs ++ y ∷ ys) ≡ Some (length xs)
ends-here depth [] y ys none here = ap (λ b. cond b (Some 0) (option_map (λ n. n + 1) (lines_within (depth_after depth y) ys))) here
ends-here depth (x ∷ xs) y ys none here =
    let after = depth_after depth x in
    skip (is_last depth x) 0 (option_map (λ n. n + 1) (lines_within after xs)) (Some 0) (option_map (λ n. n + 1) (lines_within after (xs ++ y ∷ ys))) (Some (length (x ∷ xs))) none
    (λ e. ap (option_map (λ n. n + 1)) (ends-here after xs y ys (inner (lines_within after xs) e) here) ∙ ap Some (omega arith))

-- it doesn't
pub open-more : (depth : ℕ) (xs : List (List ℕ)) (y : List ℕ) → lines_within depth xs ≡ None → is_last (depth_past depth xs) y ≡ false → lines_within depth (xs ++ y ∷ []) ≡ None
open-more depth [] y none here = ap (λ b. cond b (Some 0) None) here
open-more depth (x ∷ xs) y none here =
    let after = depth_after depth x in
    skip (is_last depth x) 0 (option_map (λ n. n + 1) (lines_within after xs)) (Some 0) (option_map (λ n. n + 1) (lines_within after (xs ++ y ∷ []))) None none
    (λ e. ap (option_map (λ n. n + 1)) (open-more after xs y (inner (lines_within after xs) e) here))

-- the values of a name
skip-value : {Y : Type 0} (b : Bool) (v : List ℕ) (o : List (List ℕ)) (f : List (List ℕ) → Y) (all : List (List ℕ)) (d : Y) → cond b (v ∷ o) o ≡ [] → (o ≡ [] → f all ≡ d) → f (cond b (v ∷ all) all) ≡ d
skip-value true v o f all d e h = absurd (cc)
skip-value false v o f all d e h = h e

pub value-here : (depth : ℕ) (name : List ℕ) (xs : List (List ℕ)) (y : List ℕ) (ys : List (List ℕ)) → values_within depth name xs ≡ [] → has_name (depth_past depth xs) name y ≡ true
    → slice_get (values_within depth name (xs ++ y ∷ ys)) 0 ≡ Some (rest_outside 58 y)
value-here depth name [] y ys none here =
    let others = values_within (depth_after depth y) name ys in
    ap (λ b. slice_get (cond b (rest_outside 58 y ∷ others) others) 0) here
value-here depth name (x ∷ xs) y ys none here =
    let after = depth_after depth x in
    skip-value (has_name depth name x) (rest_outside 58 x) (values_within after name xs) (λ values. slice_get values 0) (values_within after name (xs ++ y ∷ ys)) (Some (rest_outside 58 y)) none
    (λ e. value-here after name xs y ys e here)

pub no-value-more : (depth : ℕ) (name : List ℕ) (xs : List (List ℕ)) (y : List ℕ) → values_within depth name xs ≡ [] → has_name (depth_past depth xs) name y ≡ false
    → values_within depth name (xs ++ y ∷ []) ≡ []
no-value-more depth name [] y none here = ap (λ b. cond b (rest_outside 58 y ∷ []) []) here
no-value-more depth name (x ∷ xs) y none here =
    let after = depth_after depth x in
    skip-value (has_name depth name x) (rest_outside 58 x) (values_within after name xs) (λ values. values) (values_within after name (xs ++ y ∷ [])) [] none
    (λ e. no-value-more after name xs y e here)
