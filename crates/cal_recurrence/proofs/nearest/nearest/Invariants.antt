use Rattle.std.proofs.Common.{take, ◌||◌, Bool}
use Rattle.std.specs.List.{list_any}
use Rattle.cal_recurrence.specs.Nearest.{is_past, IsNearest}
use Rattle.cal_recurrence.proofs.nearest.nearest.Given as goal

abbrev pub invariant-loop-one : goal.invariant-loop-one
invariant-loop-one g l = (test : g.row.T.Denot → Bool) → IsNearest (is_past g.T.Ord.cmp l.fn.forward) test l.fn.value l.fn.found
    → IsNearest (is_past g.T.Ord.cmp l.fn.forward) (λ x. test x || list_any (λ y. g.T.PartialEq.eq y x) (take l.one-index l.listed)) l.fn.value l.nearest
