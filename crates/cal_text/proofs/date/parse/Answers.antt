use Rattle.std.proofs.Common.{Ok, ap, subst, sym}
use Rattle.cal_text.specs.Parsing.{IsOnDay}
use Rattle.cal_text.proofs.DayForms.{form-of-day}
use Rattle.cal_text.proofs.Results.{one, not_ok}
use Rattle.cal_text.proofs.date.parse.Goals as goal

pub returns-in-Ok-date_from_numbers-clause-every : goal.returns-in-Ok-date_from_numbers-clause-every
returns-in-Ok-date_from_numbers-clause-every c n date t =
    let f = form-of-day c.args.text.now n date t in
    let form = one _ _ (c.in-Ok.ensures.every f.form f.has) in
    ap Ok (one _ _ (c.in-Ok-date_from_numbers.ensures.every n date (subst (λ g. IsOnDay g n) (sym form) f.on_day)))

pub returns-in-Err-date_from_numbers-clause-every : goal.returns-in-Err-date_from_numbers-clause-every
returns-in-Err-date_from_numbers-clause-every c n date t =
    let f = form-of-day c.args.text.now n date t in
    let form = one _ _ (c.in-Ok.ensures.every f.form f.has) in
    absurd (not_ok _ _ (c.in-Err-date_from_numbers.ensures.every n date (subst (λ g. IsOnDay g n) (sym form) f.on_day)))

pub returns-in-Err-clause-every : goal.returns-in-Err-clause-every
returns-in-Err-clause-every c n date t =
    let f = form-of-day c.args.text.now n date t in
    absurd (not_ok _ _ (c.in-Err.ensures.every f.form f.has))
