use Rattle.std.proofs.Common.{subst, sym}
use Rattle.caldate_run.proofs.OneList.{OneLocalIn, spans-one}
use Rattle.caldate_run.proofs.laws.one_list.Goals as goal

pub returns-in-Dates : goal.returns-in-Dates
returns-in-Dates c = λ held outcome other new later ok too.
    spans-one c.args.asked.now.span c.args.asked.now.recurrence held outcome other new later (subst OneLocalIn (sym c.in-Dates.is) tt) ok too

pub returns-in-Moments : goal.returns-in-Moments
returns-in-Moments c = λ held outcome other new later ok too.
    spans-one c.args.asked.now.span c.args.asked.now.recurrence held outcome other new later (subst OneLocalIn (sym c.in-Moments.is) tt) ok too

pub returns-in-InZone : goal.returns-in-InZone
returns-in-InZone c = λ held outcome other new later ok too.
    spans-one c.args.asked.now.span c.args.asked.now.recurrence held outcome other new later (subst OneLocalIn (sym c.in-InZone.is) c.one_local.ensures) ok too
