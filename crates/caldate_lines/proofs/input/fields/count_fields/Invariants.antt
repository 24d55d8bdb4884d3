use Rattle.std.proofs.Common.{◌≡◌, ◌+◌, ◌≤◌, length}
use Rattle.caldate_lines.specs.Fields.{fields_of}
use Rattle.caldate_lines.proofs.input.fields.count_fields.Given as goal

-- the fields before the rest, and one more, are counted
abbrev pub invariant-loop-others : goal.invariant-loop-others
invariant-loop-others l =
    (l.count + length (fields_of l.field l.rest) ≡ length (fields_of l.field l.text) + 1) × (l.count + length l.rest ≤ length l.text + 1)

abbrev pub decreases-loop-others : goal.decreases-loop-others
decreases-loop-others l = length l.rest
