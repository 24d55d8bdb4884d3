use Rattle.std.proofs.Common.{Bool, false}
use Rattle.cal_units.specs.CycleSteps.{ShortCircuits}
use Rattle.cal_units.proofs.steps.any_in.Given as goal

-- The outcome from here on is the outcome of all calls.
abbrev pub invariant-loop-index : goal.invariant-loop-index
invariant-loop-index g l =
    goal.F-IsAlwaysCallable g l.f
    × ((r : Bool) → ShortCircuits g.C.Cycle (goal.F-step g) false l.index l.f r → ShortCircuits g.C.Cycle (goal.F-step g) false 0 l.fn.f r)
