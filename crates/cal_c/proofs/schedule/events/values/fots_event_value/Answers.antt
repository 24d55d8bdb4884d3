use Rattle.std.proofs.Common.{subst, MatchOption}
use Rattle.std.proofs.Math.Seq.{take-length}
use Rattle.cal_c.specs.FormatTexts.{length_error, IsUnprinted, IsWritten}
use Rattle.cal_c.specs.declared.status.TheConstants.{RESULT_OUT_OF_RANGE}
use Rattle.cal_c.proofs.schedule.events.values.fots_event_value.Goals as goal

pub returns-in-Some : goal.returns-in-Some
returns-in-Some c =
    let r = c.write.result in
    let old = c.args.bytes.now in
    let new = c.write.new.bytes in
    subst (λ found. MatchOption found (IsUnprinted old new r (length_error RESULT_OUT_OF_RANGE)) (λ text. IsWritten text old new r)) c.in-Some.ensures
    (subst (λ text. IsWritten text old new r) (take-length c.in-Some.value.now) c.write.ensures.some)
