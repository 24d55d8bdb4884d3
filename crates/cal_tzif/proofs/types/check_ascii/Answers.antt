use Rattle.std.proofs.Common.{rules}
use Rattle.cal_tzif.specs.Types.{IsAsciiError}
use Rattle.cal_tzif.proofs.types.check_ascii.Goals as goal

pub returns-then-bytes-start-gt127-clause-error : goal.returns-then-bytes-start-gt127-clause-error
returns-then-bytes-start-gt127-clause-error c =
    IsAsciiError.byte c.each.index (search rules) c.each.invariant (search rules) c.at.ensures
