use Rattle.std.proofs.Common.{ℕ, ◌-◌, ◌≤◌, List}
use Rattle.caldate_lines.specs.Outputs.{Outputs}
use Rattle.caldate_args.specs.Lists.{AreListed, line_of}
use Rattle.caldate_run.proofs.Listed.{Follows}
use Rattle.caldate_run.proofs.list.list.Given as goal

-- the lines of the first days were given, and the next day has the next count
abbrev pub invariant-loop-day : goal.invariant-loop-day
invariant-loop-day g l =
    ((given : List ℕ) × Outputs g.W.Sink.contents g.W.Sink.write_gives given l.initial.writer l.output l.writer × Follows line_of (AreListed l.listing) 0 l.count given)
    × (l.count ≤ 60000000000)

abbrev pub decreases-loop-day : goal.decreases-loop-day
decreases-loop-day g l = 60000000000 - l.count
