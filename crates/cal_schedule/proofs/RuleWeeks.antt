-- The weeks of a rule agree with a count of days, whatever weekday they begin on.
use Rattle.std.proofs.Common.{◌≡◌, ℕ, ◌+◌, ◌*◌, ap, ◌∙◌, sym, arith, pos, negsuc}
use Rattle.std.proofs.lemmas.Int.{ints}
use Rattle.cal_time.specs.Date.{year_at}
use Rattle.cal_time.specs.Laws.{weekday_at-is}
use Rattle.cal_time.specs.WeekdayCycle.{index-below}
use Rattle.cal_time.specs.declared.Weekday.{Weekday}
use Rattle.cal_schedule.specs.Rule.{fourth_day}
use Rattle.cal_schedule.specs.RuleLaws.{IsFourthDay, WeeksByCount}
use Rattle.cal_schedule.proofs.RuleNumbers.{numbers_by_count}
use Rattle.cal_schedule.proofs.RulePeriods.{fourth-is, is_week-places, periods, pos-week_years, weeks-is}

-- The fourth day 400 years later is one period after the fourth day.
fourth_day-later : (first : Weekday) (n d : ℕ) → IsFourthDay first n d → fourth_day first n ≡ d + 146097 * 1
fourth_day-later first n d is =
    omega (arith, fourth-is first n, weeks-is first n, weekday_at-is d, is.weekday, is.latest, is.earliest, index-below first)

pub weeks_by_count : (first : Weekday) (n : ℕ) → WeeksByCount first n
weeks_by_count first n = record {
  year = λ d is.
      let later = fourth_day-later first n d is in
      omega (arith, ints, pos-week_years first n, ap year_at later, (periods d 1).year);
  week = λ d h is k.
      let same = is_week-places first n 1 d (pos k) (fourth_day-later first n d is) in
      let count = (numbers_by_count d h).of_year k in
      (λ on. count.0 (sym same ∙ on), λ has. same ∙ count.1 has);
  week_from_end = λ d h is k.
      let same = is_week-places first n 1 d (negsuc k) (fourth_day-later first n d is) in
      let count = (numbers_by_count d h).of_year_from_end k in
      (λ on. count.0 (sym same ∙ on), λ has. same ∙ count.1 has);
}
