use Rattle.std.proofs.Common.{◌≡◌, ◌+◌, Bool, true, false, refl, ap, sym, ◌∙◌, arith, subst, take}
use Rattle.std.specs.Prelude.{◌||◌}
use Rattle.std.specs.List.{list_any}
use Rattle.std.proofs.lemmas.List.{take_all}
use Rattle.std.proofs.lemmas.List.Folds.{list_any_more}
use Rattle.cal_recurrence.specs.Nearest.{is_past, IsNearest}
use Rattle.cal_recurrence.proofs.NearestValues.{alike}
use Rattle.cal_recurrence.proofs.nearest.nearest.Goals as goal

or_right : (a b c : Bool) → (a || (b || c)) ≡ ((a || b) || c)
or_right true b c = refl
or_right false b c = refl

pub loop-one-preserved : goal.loop-one-preserved
loop-one-preserved g c = λ test found.
    let eq = g.T.PartialEq.eq in
    let xs = c.args.listed.now in
    let i = c.loop-one.one-index in
    let one = c.one-item.result in
    let past = is_past g.T.Ord.cmp c.args.forward in
    alike past (λ x. (test x || list_any (λ y. eq y x) (take i xs)) || eq one x) (λ x. test x || list_any (λ y. eq y x) (take (i + 1) xs)) c.args.value _
    (λ x. ap (λ b. test x || b) (list_any_more (λ y. eq y x) xs i one (omega (arith, c.loop-one-test.true)) ∙ ap (λ y. list_any (λ z. eq z x) (take i xs) || eq y x) (sym c.one-item.is)) ∙ or_right (test x) (list_any (λ y. eq y x) (take i xs)) (eq one x))
    (c.nearer-nearest.ensures (λ x. test x || list_any (λ y. eq y x) (take i xs)) (c.loop-one.invariant test found))

pub returns : goal.returns
returns g c =
    let same : take c.loop-one.one-index c.args.listed.now ≡ c.args.listed.now = take_all _ _ (omega (arith, c.loop-one-test.false)) in
    λ test found. subst (λ xs. IsNearest (is_past g.T.Ord.cmp c.args.forward) (λ x. test x || list_any (λ y. g.T.PartialEq.eq y x) xs) c.args.value c.loop-one.nearest) same (c.loop-one.invariant test found)
