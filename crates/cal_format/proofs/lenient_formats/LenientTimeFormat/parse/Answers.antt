use Rattle.std.proofs.Common.{subst}
use Rattle.cal_format.specs.Lenient.{IsRead, IsLenientRejection}
use Rattle.cal_format.specs.Moment.{moment_of_time}
use Rattle.cal_format.proofs.Known.{time-read}
use Rattle.cal_format.proofs.lenient_formats.LenientTimeFormat.parse.Goals as goal

pub returns-in-Ok-clause-value : goal.returns-in-Ok-clause-value
returns-in-Ok-clause-value c =
    let v = c.in-Ok.moment in
    (c.in-Ok.ensures.range.time, subst (λ f. IsRead f (moment_of_time v.time) c.args.text.now) c.self.view_is (time-read c.self.inside.format c.args.text.now v c.self.invariant.1 c.in-Ok.ensures.value))

pub returns-in-Err-clause-error : goal.returns-in-Err-clause-error
returns-in-Err-clause-error c = subst (λ f. IsLenientRejection f c.args.text.now c.in-Err.error) c.self.view_is c.in-Err.ensures.error
