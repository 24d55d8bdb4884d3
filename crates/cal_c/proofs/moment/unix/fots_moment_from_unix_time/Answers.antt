use Rattle.std.proofs.Common.{pos, ◌+ℤ◌, subst}
use Rattle.cal_datetime.specs.OffsetDateTime.{unix_epoch}
use Rattle.cal_c.specs.Moments.{IsMomentOrError}
use Rattle.cal_c.specs.declared.status.TheConstants.{TIMESTAMP_OUT_OF_RANGE}
use Rattle.cal_c.proofs.moment.unix.fots_moment_from_unix_time.Goals as goal

pub returns-clause-value : goal.returns-clause-value
returns-clause-value c = λ d. subst (λ v. IsMomentOrError TIMESTAMP_OUT_OF_RANGE (unix_epoch +ℤ v) (pos 0) c.moment_at_unix_time.result) c.in-Some.ensures.1 c.moment_at_unix_time.ensures
