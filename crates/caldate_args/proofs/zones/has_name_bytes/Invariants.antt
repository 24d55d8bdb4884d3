use Rattle.std.proofs.Common.{◌≡◌, length}
use Rattle.std.specs.Prelude.{is_none, not, position}
use Rattle.caldate_args.specs.Zones.{is_name_byte}
use Rattle.caldate_args.proofs.zones.has_name_bytes.Given as goal

-- the bytes before the rest may be in a name
abbrev pub invariant-loop-rest : goal.invariant-loop-rest
invariant-loop-rest l = is_none (position (λ b. not (is_name_byte b)) l.word) ≡ is_none (position (λ b. not (is_name_byte b)) l.rest)

abbrev pub decreases-loop-rest : goal.decreases-loop-rest
decreases-loop-rest l = length l.rest
