use Rattle.std.proofs.Common.{◌≡◌, ◌∙◌, ◌∷◌, ◌++◌, [], ◌+◌, ◌≤ℤ◌, ◌<ℤ◌, ℤ, true, false, Option, Some, ap, sym, subst, take, List, Ordering, arith}
use Rattle.std.specs.Ordering.{int_cmp, partial_lt, partial_gt}
use Rattle.std.proofs.Math.Seq.{take-length}
use Rattle.std.proofs.lemmas.Bool.Decides.{nat_tests}
use Rattle.std.proofs.lemmas.Int.{ints}
use Rattle.std.proofs.lemmas.List.{take_more}
use Rattle.cal_units.specs.Counted.{IsExtent, IsFirstMinimum, IsFirstMaximum}
use Rattle.cal_units.proofs.Extents.{between-one, between-keeps, between-takes}
use Rattle.cal_units.proofs.counted.extent.Goals as goal
use Rattle.cal_units.proofs.counted.extent.Goals.{then-lt, else-lt, then-gt, else-gt}

-- `<` and `>` compare the numbers.
record Compares {T : Type 0} (number : T → ℤ) (partial_cmp : T → T → Option Ordering) : Type 0 where
  cmp : T → T → Ordering
  ordered : (x y : T) → cmp x y ≡ int_cmp (number x) (number y)
  agrees : (x y : T) → partial_cmp x y ≡ Some (cmp x y)

less : {T : Type 0} (number : T → ℤ) (p : T → T → Option Ordering) → Compares number p → (x y : T) → partial_lt p x y ≡ true → number x <ℤ number y
less number p compares x y = let agrees = compares.agrees x y in let ordered = compares.ordered x y in grind (arith, ints, nat_tests)

not_less : {T : Type 0} (number : T → ℤ) (p : T → T → Option Ordering) → Compares number p → (x y : T) → partial_lt p x y ≡ false → number y ≤ℤ number x
not_less number p compares x y = let agrees = compares.agrees x y in let ordered = compares.ordered x y in grind (arith, ints, nat_tests)

greater : {T : Type 0} (number : T → ℤ) (p : T → T → Option Ordering) → Compares number p → (x y : T) → partial_gt p x y ≡ true → number y <ℤ number x
greater number p compares x y = let agrees = compares.agrees x y in let ordered = compares.ordered x y in grind (arith, ints, nat_tests)

not_greater : {T : Type 0} (number : T → ℤ) (p : T → T → Option Ordering) → Compares number p → (x y : T) → partial_gt p x y ≡ false → number x ≤ℤ number y
not_greater number p compares x y = let agrees = compares.agrees x y in let ordered = compares.ordered x y in grind (arith, ints, nat_tests)

minimum-takes : {T : Type 0} (number : T → ℤ) (seen : List T) (x y : T) → IsFirstMinimum number seen x → number y <ℤ number x → IsFirstMinimum number (seen ++ y ∷ []) y
minimum-takes number seen x y old lt = between-takes _ _ _ _ seen x y old (λ z h. omega (arith, ints, h, lt)) lt (λ z h. omega (arith, ints, h, lt))

maximum-takes : {T : Type 0} (number : T → ℤ) (seen : List T) (x y : T) → IsFirstMaximum number seen x → number x <ℤ number y → IsFirstMaximum number (seen ++ y ∷ []) y
maximum-takes number seen x y old gt = between-takes _ _ _ _ seen x y old (λ z h. omega (arith, ints, h, gt)) gt (λ z h. omega (arith, ints, h, gt))

pub loop-item-init : goal.loop-item-init
loop-item-init g c =
    let first = c.in_ok-first.first.now in
    (first, (c.in_ok-first.ensures.cases.0, record { minimum = between-one _ _ first; maximum = between-one _ _ first }))

pub loop-item-preserved : goal.loop-item-preserved
loop-item-preserved g c =
    let number = g.T.Counted.number_of in
    let item = c.item-item.result in
    let (first, so_far) = c.loop-item.invariant in
    let are = so_far.0 in
    let old = so_far.1 in
    let rest = c.in_ok-first.rest.now in
    let i = c.loop-item.item-index in
    let seen = first ∷ take i rest in
    let compares : Compares number g.T.PartialOrd.partial_cmp = record { cmp = g.T.Ord.cmp; ordered = g.met.T.Counted.cmp_by_number; agrees = g.met.T.Ord.matches_partial_cmp } in
    let more : first ∷ take (i + 1) rest ≡ seen ++ item ∷ [] = ap (λ l. first ∷ l) (take_more rest i item c.loop-item-test.true ∙ ap (λ x. take i rest ++ x ∷ []) (sym c.item-item.is)) in
    let minimum : IsFirstMinimum number (seen ++ item ∷ []) c.if-lt.minimum = elim c.if-lt.branch [
      | then-lt w ↦ subst (IsFirstMinimum number (seen ++ item ∷ [])) (sym w.minimum-is) (minimum-takes number seen c.loop-item.minimum item old.minimum (less number _ compares _ _ (sym w.if-lt.ensures)))
      | else-lt w ↦ subst (IsFirstMinimum number (seen ++ item ∷ [])) (sym w.minimum-is) (between-keeps _ _ seen c.loop-item.minimum item old.minimum (not_less number _ compares _ _ (sym w.if-lt.ensures)))
    ] in
    let maximum : IsFirstMaximum number (seen ++ item ∷ []) c.if-gt.maximum = elim c.if-gt.branch [
      | then-gt w ↦ subst (IsFirstMaximum number (seen ++ item ∷ [])) (sym w.maximum-is) (maximum-takes number seen c.loop-item.maximum item old.maximum (greater number _ compares _ _ (sym w.if-gt.ensures)))
      | else-gt w ↦ subst (IsFirstMaximum number (seen ++ item ∷ [])) (sym w.maximum-is) (between-keeps _ _ seen c.loop-item.maximum item old.maximum (not_greater number _ compares _ _ (sym w.if-gt.ensures)))
    ] in
    (first, (are, subst (λ items. IsExtent number items (c.if-lt.minimum, c.if-gt.maximum)) (sym more) (record { minimum = minimum; maximum = maximum })))

pub returns : goal.returns
returns g c =
    let (first, so_far) = c.loop-item.invariant in
    let are = so_far.0 in
    let old = so_far.1 in
    let rest = c.in_ok-first.rest.now in
    let all : take c.loop-item.item-index rest ≡ rest = ap (λ i. take i rest) (omega arith) ∙ take-length rest in
    subst (λ items. IsExtent g.T.Counted.number_of items (c.loop-item.minimum, c.loop-item.maximum)) (ap (λ l. first ∷ l) all ∙ sym are) old
