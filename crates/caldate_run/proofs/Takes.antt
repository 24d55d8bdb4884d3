-- Reads of a text in memory.
use Rattle.std.proofs.Common.{◌≡◌, ℕ, ◌<◌, Bool, false, List, length, Err, Ok, Result, arith, refl}
use Rattle.std.specs.declared.io.Error.{Error}
use Rattle.caldate_lines.specs.Calls.{Gives, Reads, Takes, most_retries}
use Rattle.caldate_lines.specs.Calls.Gives.{ok, fails, again}
use Rattle.caldate_lines.specs.Calls.Reads.{no_more, given, ended, failed, too_many}

gives_takes : (retries : ℕ) (s end : List ℕ) (outcome : Result ℕ Error) → Gives Takes retries s outcome end → Takes s outcome end
gives_takes retries s end outcome (ok _ n _ _ takes) = takes
gives_takes retries s end outcome (fails _ _ _ error final takes) = absurd takes
gives_takes retries s end outcome (again _ _ t _ error _ interrupted takes more) = absurd takes

pub never_fails : (most : ℕ) (s end : List ℕ) (fault : Bool) → length s < most → Reads Takes most s fault end → fault ≡ false
never_fails most s end fault few (no_more _ _) = refl
never_fails most s end fault few (given left n _ t _ _ some gives more) =
    let fewer = gives_takes most_retries s t (Ok n) gives in
    never_fails left t end fault (omega (arith, fewer, some, few)) more
never_fails most s end fault few (ended _ _ t _ _ gives more) =
    let fewer = gives_takes most_retries s t (Ok 0) gives in
    never_fails most t end fault (omega (arith, fewer, few)) more
never_fails most s end fault few (failed left _ _ error gives) = absurd (gives_takes most_retries s end (Err error) gives)
never_fails most s end fault few (too_many _) = absurd (omega (arith, few))
