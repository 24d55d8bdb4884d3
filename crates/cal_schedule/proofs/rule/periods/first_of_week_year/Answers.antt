use Rattle.std.proofs.Common.{◌≡◌, ◌≤◌, ◌+◌, ◌-◌, ap, arith}
use Rattle.cal_date.specs.CountLaws.{days_of_years, days_of_years-closed}
use Rattle.cal_time.specs.DateLimits.{years_in_range}
use Rattle.cal_schedule.proofs.Rules.{week_year-any, week_year-first, week_year-none}
use Rattle.cal_schedule.proofs.rule.periods.first_of_week_year.Goals.{then-index-gt400, else-index-gt400}
use Rattle.cal_schedule.proofs.rule.periods.first_of_week_year.Goals as goal

pub returns-then-index-eq0 : goal.returns-then-index-eq0
returns-then-index-eq0 c = week_year-any c.args.first c.args.index c.first_of_week.result c.if-index-eq0.true c.first_of_week.ensures

pub returns-in-Some : goal.returns-in-Some
returns-in-Some c =
    let at = c.if-index-gt400 in
    let index = c.args.index in
    let closed = days_of_years-closed (index - 1) in
    let january : c.in-Some.day + at.year.1 ≡ days_of_years (index - 1) = elim at.branch as (λ _. c.in-Some.day + at.year.1 ≡ days_of_years (index - 1)) [
      | then-index-gt400 w ↦
          omega (arith, c.in-Some.ensures.value, ap (λ p. days_of_years p.0) w.year-is, ap (λ p. p.1) w.year-is, w.if-index-gt400.true, closed, days_of_years-closed (index - 401))
      | else-index-gt400 w ↦ omega (arith, c.in-Some.ensures.value, ap (λ p. days_of_years p.0) w.year-is, ap (λ p. p.1) w.year-is)
    ] in
    week_year-first c.args.first index _ (c.in-Some.day + at.year.1) c.first_of_week-in-Some.result (omega (arith, c.if-index-eq0.false)) january
    (omega (arith, c.from.ensures, c.place.ensures)) c.first_of_week-in-Some.ensures

pub returns-in-None : goal.returns-in-None
returns-in-None c =
    let index = c.args.index in
    let past : years_in_range + 401 ≤ index = elim c.if-index-gt400.branch as (λ _. years_in_range + 401 ≤ index) [
      | then-index-gt400 w ↦ omega (arith, c.in-None.ensures.value, ap (λ p. p.0) w.year-is)
      | else-index-gt400 w ↦ absurd (omega (arith, c.in-None.ensures.value, ap (λ p. p.0) w.year-is, w.if-index-gt400.false))
    ] in
    week_year-none c.args.first index past
