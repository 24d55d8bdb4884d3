use Rattle.std.proofs.Common.{◌+◌, ◌≤◌, length, take}
use Rattle.caldate_args.proofs.HolidayLines.{IsSoFar}
use Rattle.caldate_args.proofs.holidays.parse_lines.Given as goal

-- the holidays of the lines so far
abbrev pub invariant-loop-rest : goal.invariant-loop-rest
invariant-loop-rest l = record {
  most : l.count ≤ 8192;
  numbered : l.number + length l.rest ≤ 16385;
  so_far : IsSoFar l.bytes l.rest l.number (take l.count l.days);
}

abbrev pub decreases-loop-rest : goal.decreases-loop-rest
decreases-loop-rest l = length l.rest
