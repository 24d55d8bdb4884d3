use Rattle.std.proofs.Common.{length, ◌-◌, ◌≡◌, ◌<◌, true}
use Rattle.std.specs.Prelude.{slice_index}
use Rattle.caldate_answers.specs.Scans.{is_mark}
use Rattle.caldate_answers.proofs.Marks.{Passes}
use Rattle.caldate_answers.proofs.scan.start.usual_place.Given as goal

-- a mark, before which no start came
abbrev pub invariant-loop-index : goal.invariant-loop-index
invariant-loop-index l = record {
  passes : Passes l.line l.from l.index;
  mark : l.index < length l.line → is_mark (slice_index l.line l.index) ≡ true;
}

abbrev pub decreases-loop-index : goal.decreases-loop-index
decreases-loop-index l = length l.line - l.index
