use Rattle.std.proofs.Common.{ap, sym, subst, Ok, Err}
use Rattle.cal_format.specs.Lenient.{IsRead, IsLenientRejection}
use Rattle.cal_format.specs.Moment.{moment_of_date}
use Rattle.cal_format.proofs.Known.{IsParsedLeniently, date-every, date-read}
use Rattle.cal_format.proofs.Outcomes.{result-or, no-result}
use Rattle.cal_format.proofs.lenient_formats.LenientDateFormat.parse.Goals as goal

pub returns-in-Err-clause-every : goal.returns-in-Err-clause-every
returns-in-Err-clause-every c n date read =
    let parsed : IsParsedLeniently c.self.inside.format c.self.inside.known c.args.text.now (Err c.in-Err.error) = record { every = c.in-Err.ensures.every; range = c.in-Err.ensures.range; value = c.in-Err.ensures.value; error = c.in-Err.ensures.error } in
    absurd (no-result c.in-Err.error (moment_of_date n) (date-every _ _ _ _ c.self.invariant.0 c.self.invariant.1 parsed n date (subst (λ f. IsRead f (moment_of_date n) c.args.text.now) (sym c.self.view_is) read)))

pub returns-in-Ok-clause-every : goal.returns-in-Ok-clause-every
returns-in-Ok-clause-every c n date read =
    let parsed : IsParsedLeniently c.self.inside.format c.self.inside.known c.args.text.now (Ok c.in-Ok.moment) = record { every = c.in-Ok.ensures.every; range = c.in-Ok.ensures.range; value = c.in-Ok.ensures.value; error = c.in-Ok.ensures.error } in
    ap (λ r. Ok (result-or c.in-Ok.moment r).date) (date-every _ _ _ _ c.self.invariant.0 c.self.invariant.1 parsed n date (subst (λ f. IsRead f (moment_of_date n) c.args.text.now) (sym c.self.view_is) read))

pub returns-in-Ok-clause-value : goal.returns-in-Ok-clause-value
returns-in-Ok-clause-value c =
    let v = c.in-Ok.moment in
    (c.in-Ok.ensures.range.date, subst (λ f. IsRead f (moment_of_date v.date) c.args.text.now) c.self.view_is (date-read c.self.inside.format c.args.text.now v c.self.invariant.1 c.in-Ok.ensures.value))

pub returns-in-Err-clause-error : goal.returns-in-Err-clause-error
returns-in-Err-clause-error c = subst (λ f. IsLenientRejection f c.args.text.now c.in-Err.error) c.self.view_is c.in-Err.ensures.error
