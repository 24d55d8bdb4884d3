use Rattle.std.proofs.Common.{◌≡◌, ◌∙◌, ap, arith, subst}
use Rattle.cal_time.specs.DateIter.{days_of}
use Rattle.cal_time.specs.DateLimits.{MAX-number, MIN-number}
use Rattle.cal_time.specs.Occurrences.{days_from}
use Rattle.cal_schedule.specs.Ranges.{day_count, Range}
use Rattle.cal_schedule.proofs.DateRanges.{days_up_to, empty_walk, no_days}
use Rattle.cal_schedule.proofs.date_range.DateRange.days.Goals as goal

pub returns-in-Some : goal.returns-in-Some
returns-in-Some c =
    let r = c.self.inside in
    let before = c.in-Some.ensures.value in
    subst (λ (v : Range). days_of c.iter_to.result ≡ days_from v.start (day_count v)) c.self.view_is
    (ap days_of c.iter_to.ensures ∙ days_up_to r.start r.end c.in-Some.last (omega (arith, before.0, before.1)) c.self.invariant)

pub returns-in-None : goal.returns-in-None
returns-in-None c =
    let r = c.self.inside in
    let first = c.in-None.ensures.value in
    subst (λ (v : Range). days_of c.iter_to-in-None.result ≡ days_from v.start (day_count v)) c.self.view_is
    (ap days_of c.iter_to-in-None.ensures ∙ empty_walk _ _ MAX-number MIN-number ∙ no_days r.start r.end (omega (arith, first)))
