use Rattle.std.proofs.Common.{◌≡◌, ◌+◌, ◌≤◌, length}
use Rattle.caldate_lines.specs.Fields.{fields_of}
use Rattle.caldate_lines.specs.Header.{name_number}
use Rattle.caldate_lines.proofs.header.name_number.Given as goal

-- none of the fields before the rest has the name
abbrev pub invariant-loop-part : goal.invariant-loop-part
invariant-loop-part l =
    (name_number l.number l.field l.name (fields_of l.field l.rest) ≡ name_number 1 l.field l.name (fields_of l.field l.header))
    × (l.number + length l.rest ≤ length l.header + 1) × (1 ≤ l.number)

abbrev pub decreases-loop-part : goal.decreases-loop-part
decreases-loop-part l = length l.rest
