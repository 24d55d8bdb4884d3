use Rattle.std.proofs.Common.{◌≡◌, ℕ, ◌+◌, List, ℤ, arith, get_or, length, pos, rules, subst, sym, FitsSigned, w32}
use Rattle.std.proofs.lemmas.Int.{to_z-of_z}
use Rattle.cal_c.specs.SortedDates.{IsAgain, IsGreater}
use Rattle.cal_c.proofs.Distinct.{done, moved, skipped, AreMoved}
use Rattle.cal_c.proofs.schedule.workdays.sorting.move_distinct.Goals.{then-is_greater, else-is_greater}
use Rattle.cal_c.proofs.schedule.workdays.sorting.move_distinct.Goals as goal

pub loop-index-preserved : goal.loop-index-preserved
loop-index-preserved c =
    let s = c.args.numbers.now in
    let xs = c.loop-index.numbers in
    let kept = c.loop-index.kept in
    let index = c.loop-index.index in
    let at : (ys : List ℤ) (k : ℕ) → c.if-is_greater.numbers ≡ ys → c.if-is_greater.kept ≡ k → AreMoved s ys k (index + 1) → AreMoved s c.if-is_greater.numbers c.if-is_greater.kept (index + 1) =
    λ ys k e f h. subst (λ n. AreMoved s n c.if-is_greater.kept (index + 1)) (sym e) (subst (λ m. AreMoved s ys m (index + 1)) (sym f) h) in
    elim c.if-is_greater.branch [
      | then-is_greater w ↦
          let greater : IsGreater xs kept index = search rules in
          let f : FitsSigned w32 (get_or xs index (pos 0)) = search rules in
          let written = simp to_z-of_z at w.numbers-is in
          at _ _ written w.kept-is (moved s xs kept index c.loop-index.invariant (omega arith) greater)
      | else-is_greater w ↦
          let again : IsAgain xs kept index = search rules in
          at _ _ w.numbers-is w.kept-is (skipped s xs kept index c.requires c.loop-index.invariant (omega arith) again)
    ]

pub returns : goal.returns
returns c =
    let end : c.loop-index.index ≡ length c.loop-index.numbers = omega (arith, c.loop-index.auto.index-end, c.loop-index-test.false, c.loop-index.invariant.room) in
    done c.args.numbers.now c.loop-index.numbers c.loop-index.kept c.loop-index.index c.loop-index.invariant end
