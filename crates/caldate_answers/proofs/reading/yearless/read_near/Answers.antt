use Rattle.std.proofs.Common.{◌≡◌, ap, arith, of_z, subst, sym, to_z, Err}
use Rattle.std.proofs.lemmas.Int.{ints}
use Rattle.std.proofs.lemmas.Option.{none-some, same_Some}
use mir.Syntax.{w32}
use Rattle.cal_time.specs.Date.{year_at}
use Rattle.cal_time.specs.DateText.{year_text}
use Rattle.caldate_answers.specs.FormatErrors.{IsReasonBy}
use Rattle.caldate_answers.specs.Found.{day_of}
use Rattle.caldate_answers.specs.Nearness.{IsNearestTo}
use Rattle.caldate_answers.specs.Readers.{IsErrorInYear, IsTextNear}
use Rattle.caldate_answers.proofs.InYear.{no_form}
use Rattle.caldate_answers.proofs.Rejected.{read}
use Rattle.caldate_answers.proofs.reading.yearless.read_near.Goals as goal

pub returns-then-not-may_lack_year : goal.returns-then-not-may_lack_year
returns-then-not-may_lack_year c =
    no_form (IsNearestTo c.args.day (IsTextNear c.args.offset c.args.format.now c.args.text.now c.args.day)) (IsErrorInYear c.args.format.now c.args.text.now (year_at c.args.day))
    (λ found is. c.may_lack_year.ensures.text c.if-not-may_lack_year.true c.args.offset (year_text (year_at (day_of found))) found is.has.text_is)
    (λ any is. c.may_lack_year.ensures.error c.if-not-may_lack_year.true (year_text (year_at c.args.day)) any is.error)

pub returns-in-Some : goal.returns-in-Some
returns-in-Some c =
    read (IsNearestTo c.args.day (IsTextNear c.args.offset c.args.format.now c.args.text.now c.args.day)) (IsErrorInYear c.args.format.now c.args.text.now (year_at c.args.day)) c.in-Some.found c.in-Some.ensures.has
    (λ other is. same_Some c.in-Some.found other (c.in-Some.ensures.every other is))

pub returns-in-None : goal.returns-in-None
returns-in-None c =
    let y = to_z w32 (of_z w32 c.year.result) in
    let e : y ≡ year_at c.args.day = omega (arith, ints, c.year.ensures.value, c.year.ensures.range) in
    record {
      every = λ found is. absurd (none-some found (c.in-None.ensures.every found is));
      value = tt;
      every_error = λ any _ h. ap (λ w. Err w) (c.error_in_year.ensures.only any (subst (λ z. IsReasonBy (IsErrorInYear c.args.format.now c.args.text.now z) any) (sym e) h));
      error = subst (λ z. IsReasonBy (IsErrorInYear c.args.format.now c.args.text.now z) c.error_in_year.result) e c.error_in_year.ensures.error;
    }
