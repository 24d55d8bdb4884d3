-- The Thursday of a week is its fourth day, if weeks begin on Monday.
use Rattle.std.proofs.Common.{◌≡◌, ℕ, suc, ◌+◌, ◌-◌, ◌*◌, ◌/◌, ◌%◌, ◌==◌, ◌↔◌, refl, sym, ap, ◌∙◌, arith, Bool, true, pos, negsuc, ◌+ℤ◌}
use Rattle.std.proofs.lemmas.Bool.{eq-eqb, eqb-true}
use Rattle.cal_units.specs.Weeks.{weeks_in_year}
use Rattle.cal_units.specs.Lengths.{days_in_year}
use Rattle.cal_date.specs.Date.{year_at, ordinal_at}
use Rattle.cal_date.specs.IsoWeekDate.{iso_week_at, iso_year_at}
use Rattle.cal_date.proofs.Dates.{stands}
use Rattle.cal_date.proofs.IsoWeeks.{week_of_thursday}
use Rattle.cal_date.proofs.Weekdays.{weeks_in_year-days_before}
use Rattle.cal_time.specs.declared.Weekday.TheVariants.{Monday}
use Rattle.cal_schedule.specs.Rule.{fourth_day, is_nth_weekday}
use Rattle.cal_schedule.proofs.RulePeriods.{fourth-is, is_week-places, periods, weeks-is}
use Rattle.cal_schedule_tests.specs.IsoWeeks.{AreIsoWeeks}

abbrev thursday : ℕ → ℕ
thursday n = n - n % 7 + 3

fourth_is_thursday : (n : ℕ) → fourth_day Monday n ≡ thursday n + 146097 * 1
fourth_is_thursday n = omega (arith, fourth-is Monday n, weeks-is Monday n)

up : (t k : ℕ) → is_nth_weekday true t (pos k) ≡ ((ordinal_at t + 6) / 7 == k)
unfolding is_nth_weekday
up t k = refl

back : (t k : ℕ) → is_nth_weekday true t (negsuc k) ≡ ((days_in_year (year_at t) - ordinal_at t) / 7 + 1 == suc k)
unfolding is_nth_weekday
back t k = refl

-- The weeks of a year are those up to a Thursday and those after it.
all_weeks : (n : ℕ) → weeks_in_year (year_at (thursday n)) ≡ (ordinal_at (thursday n) + 6) / 7 + (days_in_year (year_at (thursday n)) - ordinal_at (thursday n)) / 7
all_weeks n =
    let at = stands (thursday n) in
    omega (arith, at.number_is, at.ordinal.0, at.ordinal.1, weeks_in_year-days_before (year_at (thursday n)) at.year)

same : (b : Bool) (a i : ℕ) (X : Type 0) → b ≡ (a == i) → (a ≡ i → X) → (X → a ≡ i) → (b ≡ true) ↔ X
same b a i X e to from = (λ on. to (eqb-true a i (sym e ∙ on)), λ x. e ∙ eq-eqb a i (from x))

pub are_iso_weeks : (n : ℕ) → AreIsoWeeks n
are_iso_weeks n =
    let t = thursday n in
    let o = ordinal_at t in
    let iso = week_of_thursday n (year_at t) o (refl, refl) in
    let year : iso_year_at n ≡ year_at t = iso.0 in
    let week : iso_week_at n ≡ (o + 6) / 7 = iso.1 in
    let fourth = fourth_is_thursday n in
    let all : weeks_in_year (iso_year_at n) ≡ (o + 6) / 7 + (days_in_year (year_at t) - o) / 7 = ap weeks_in_year year ∙ all_weeks n in
    record {
      year = ap year_at fourth ∙ (periods t 1).year ∙ ap (λ y. y +ℤ pos 400) (sym year);
      week = λ k. same _ ((o + 6) / 7) k (iso_week_at n ≡ k) (is_week-places Monday n 1 t (pos k) fourth ∙ up t k) (λ e. week ∙ e) (λ e. sym week ∙ e);
      week_from_end = λ k. same _ ((days_in_year (year_at t) - o) / 7 + 1) (suc k) (iso_week_at n + k ≡ weeks_in_year (iso_year_at n))
          (is_week-places Monday n 1 t (negsuc k) fourth ∙ back t k)
          (λ e. omega (arith, e, week, all))
          (λ e. omega (arith, e, week, all));
    }
