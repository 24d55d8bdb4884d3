use Rattle.std.proofs.Common.{◌≡◌, ◌∙◌, ap, sym, subst, Ok, Err}
use Rattle.cal_datetime.specs.DateTime.{date_time, date_at, time_at}
use Rattle.cal_datetime.specs.DateTimeLaws.{IsDateTime-date_time, date_at-date_time, time_at-date_time, date_time-parts}
use Rattle.cal_format.specs.Lenient.{IsRead, IsLenientRejection}
use Rattle.cal_format.specs.Moment.{moment_of_date_time}
use Rattle.cal_format.proofs.Known.{IsParsedLeniently, date_time-every, date_time-read}
use Rattle.cal_format.proofs.Outcomes.{result-or, no-result}
use Rattle.cal_format.proofs.lenient_formats.LenientDateTimeFormat.parse.Goals as goal

pub returns-in-Err-clause-every : goal.returns-in-Err-clause-every
returns-in-Err-clause-every c z range read =
    let parsed : IsParsedLeniently c.self.inside.format c.self.inside.known c.args.text.now (Err c.in-Err.error) = record { every = c.in-Err.ensures.every; range = c.in-Err.ensures.range; value = c.in-Err.ensures.value; error = c.in-Err.ensures.error } in
    absurd (no-result c.in-Err.error (moment_of_date_time z) (date_time-every _ _ _ _ c.self.invariant.0 c.self.invariant.1 parsed z range (subst (λ f. IsRead f (moment_of_date_time z) c.args.text.now) (sym c.self.view_is) read)))

pub returns-in-Ok-clause-every : goal.returns-in-Ok-clause-every
returns-in-Ok-clause-every c z range read =
    let parsed : IsParsedLeniently c.self.inside.format c.self.inside.known c.args.text.now (Ok c.in-Ok.moment) = record { every = c.in-Ok.ensures.every; range = c.in-Ok.ensures.range; value = c.in-Ok.ensures.value; error = c.in-Ok.ensures.error } in
    let same = ap (result-or c.in-Ok.moment) (date_time-every _ _ _ _ c.self.invariant.0 c.self.invariant.1 parsed z range (subst (λ f. IsRead f (moment_of_date_time z) c.args.text.now) (sym c.self.view_is) read)) in
    ap Ok (c.new.ensures.value ∙ (λ i. date_time (same i).date (same i).time) ∙ date_time-parts z range)

pub returns-in-Ok-clause-value : goal.returns-in-Ok-clause-value
returns-in-Ok-clause-value c =
    let v = c.in-Ok.moment in
    let range = c.in-Ok.ensures.range in
    let z = date_time v.date v.time in
    let below = range.time.below_day in
    let d : date_at z ≡ v.date = date_at-date_time v.date v.time below in
    let t : time_at z ≡ v.time = time_at-date_time v.date v.time below in
    rw c.new.ensures.value (IsDateTime-date_time v.date v.time range.date below, subst (λ f. IsRead f (moment_of_date_time z) c.args.text.now) c.self.view_is (date_time-read c.self.inside.format c.args.text.now v z c.self.invariant.1 d t c.in-Ok.ensures.value))

pub returns-in-Err-clause-error : goal.returns-in-Err-clause-error
returns-in-Err-clause-error c = subst (λ f. IsLenientRejection f c.args.text.now c.in-Err.error) c.self.view_is c.in-Err.ensures.error
