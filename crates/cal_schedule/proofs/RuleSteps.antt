-- The index of a rule's period rises by 1 when a period begins.
use Rattle.std.proofs.Common.{◌≡◌, ℕ, suc, ◌+◌, ◌/◌, ◌<◌, ◌≤◌, refl, sym, ap, ◌∙◌, subst, arith, pos, ◌+ℤ◌, ◌-ℤ◌, ◌<ℤ◌, unsigned_abs, ◌⊎◌, inl, inr}
use Rattle.std.specs.Prelude.{◌==◌}
use Rattle.std.proofs.lemmas.Bool.{cases_lt, eq-eqb, eqb-true}
use Rattle.std.proofs.lemmas.Int.{ints}
use Rattle.cal_time.specs.CalendarDay.{calendar_day}
use Rattle.cal_time.specs.Date.{first_year, day_at, year_at, month_at, day_of_month_at, ordinal_at, IsDate, HasCalendarDate}
use Rattle.cal_time.specs.Days.{day_of_month_at-range, day_with, days-follow, month-next, month_at-range, year-next, year_at-range}
use Rattle.cal_time.specs.Laws.{weekday_at-is}
use Rattle.cal_date.specs.CountLaws.{days_of_years, days_of_years-closed, days_of_years-suc}
use Rattle.cal_time.specs.Components.{ordinals-apart, ordinals-apart_a_year, year_at-rises}
use Rattle.cal_time.specs.Lengths.{days_in_month, days_in_year}
use Rattle.cal_time.proofs.Dates.{ordinal_of_date, stands}
use Rattle.cal_time.specs.WeekdayCycle.{index-below}
use Rattle.cal_time.specs.declared.Weekday.{Weekday}
use Rattle.cal_schedule.specs.declared.rule.unit.PeriodUnit.{PeriodUnit}
use Rattle.cal_schedule.specs.declared.rule.unit.PeriodUnit.TheVariants as unit
use Rattle.cal_schedule.specs.Rule.{fourth_day, is_nth_weekday, is_week, period_index}
use Rattle.cal_schedule.specs.RuleLaws.{BeginsPeriod, RisesAtBeginning}
use Rattle.cal_schedule.proofs.MonthMoves.{first_before}
use Rattle.cal_schedule.proofs.RulePeriods.{days-is, fourth-is, weeks-is, pos-months, pos-week_years, pos-years, year_until}

-- The day after a day is the next one of its month, the first of the next month, or 1 January of
-- the next year.
abbrev IsNextDay : ℕ → Type 0
IsNextDay n =
    HasCalendarDate (year_at n) (month_at n) (day_of_month_at n + 1) (n + 1)
    ⊎ (((month_at n < 12) × HasCalendarDate (year_at n) (month_at n + 1) 1 (n + 1)) ⊎ ((month_at n ≡ 12) × HasCalendarDate (year_at n +ℤ pos 1) 1 1 (n + 1)))

next_day : (n : ℕ) → IsDate n → IsNextDay n
next_day n h =
    let y = year_at n in
    let m = month_at n in
    let d = day_of_month_at n in
    let month = month_at-range n in
    let day = day_of_month_at-range n in
    let first = day_with y m 1 (year_at-range n h) month (omega arith, omega (arith, day.0, day.1)) in
    let next : first.day + d ≡ n + 1 = first_before first.day n first.has in
    elim (cases_lt d (days_in_month y m)) as (λ _. IsNextDay n) [
      | inl within ↦ inl (ap day_at (sym next) ∙ days-follow y m first.day d first.has within)
      | inr last ↦
          let length : d ≡ days_in_month y m = omega (arith, day.1) in
          elim (cases_lt m 12) as (λ _. IsNextDay n) [
            | inl less ↦ inr (inl (less, ap day_at (sym (subst (λ k. first.day + k ≡ n + 1) length next)) ∙ month-next y m first.day less first.has))
            | inr most ↦
                let december : m ≡ 12 = omega (arith, month.1) in
                let days : d ≡ days_in_month y 12 = length ∙ ap (days_in_month y) december in
                inr (inr (december, ap day_at (sym (subst (λ k. first.day + k ≡ n + 1) days next)) ∙ year-next y first.day (first.has ∙ ap (λ k. calendar_day y k 1) december)))
          ]
    ]

-- both ways, from one step
abbrev IsStep : PeriodUnit → ℕ → Type 0
IsStep u n = (BeginsPeriod u (n + 1) × (period_index u (n + 1) ≡ period_index u n + 1)) ⊎ ((¬ BeginsPeriod u (n + 1)) × (period_index u (n + 1) ≡ period_index u n))

from_step : (u : PeriodUnit) (n : ℕ) → IsStep u n → RisesAtBeginning u n
from_step u n h =
    elim h as (λ _. RisesAtBeginning u n) [
      | inl on ↦ record { rises = (λ _. on.0, λ _. on.1); stays = (λ e. absurd (omega (arith, on.1)), λ off. absurd (off on.0)) }
      | inr off ↦ record { rises = (λ e. absurd (omega (arith, off.1)), λ b. absurd (off.0 b)); stays = (λ _. off.0, λ _. off.1) }
    ]

week_step : (w : Weekday) (n : ℕ) → IsStep (unit.Week w) n
week_step w n =
    let here = weeks-is w n in
    let next = weeks-is w (n + 1) in
    let below = index-below w in
    let day = weekday_at-is (n + 1) in
    elim (cases_lt (period_index (unit.Week w) n) (period_index (unit.Week w) (n + 1))) as (λ _. IsStep (unit.Week w) n) [
      | inl less ↦ inl (omega arith, omega arith)
      | inr most ↦ inr (λ e. omega arith, omega arith)
    ]

month_step : (n : ℕ) → IsNextDay n → IsStep unit.Month n
month_step n h =
    let here = pos-months n in
    let next = pos-months (n + 1) in
    let some = (day_of_month_at-range n).0 in
    elim h as (λ _. IsStep unit.Month n) [
      | inl day ↦ inr (λ e. omega (arith, ap (λ c. c.day) day), omega (arith, ints, ap (λ c. c.year) day, ap (λ c. c.month) day))
      | inr further ↦ elim further as (λ _. IsStep unit.Month n) [
        | inl month ↦ inl (ap (λ c. c.day) month.1, omega (arith, ints, ap (λ c. c.year) month.1, ap (λ c. c.month) month.1))
        | inr year ↦ inl (ap (λ c. c.day) year.1, omega (arith, ints, year.0, ap (λ c. c.year) year.1, ap (λ c. c.month) year.1))
      ]
    ]

year_step : (n : ℕ) → IsNextDay n → IsStep unit.Year n
year_step n h =
    let here = pos-years n in
    let next = pos-years (n + 1) in
    let day_some = (day_of_month_at-range n).0 in
    let month_some = (month_at-range n).0 in
    elim h as (λ _. IsStep unit.Year n) [
      | inl day ↦ inr (λ e. omega (arith, e.1, ap (λ c. c.day) day), omega (arith, ints, ap (λ c. c.year) day))
      | inr further ↦ elim further as (λ _. IsStep unit.Year n) [
        | inl month ↦ inr (λ e. omega (arith, e.0, ap (λ c. c.month) month.1), omega (arith, ints, ap (λ c. c.year) month.1))
        | inr year ↦ inl ((ap (λ c. c.month) year.1, ap (λ c. c.day) year.1), omega (arith, ints, ap (λ c. c.year) year.1))
      ]
    ]

-- A week later the year is the same, or it is the next one and in its first seven days.
next_by_week : (m : ℕ) → year_at m <ℤ year_at (m + 7) → (year_at (m + 7) ≡ year_at m +ℤ pos 1) × (ordinal_at (m + 7) ≤ 7)
next_by_week m h =
    let k = unsigned_abs (year_at m -ℤ first_year) in
    let here = stands m in
    let year : first_year +ℤ pos k ≡ year_at m = omega (arith, ints, here.year) in
    let less : m < days_of_years (suc k) = omega (arith, here.number_is, here.ordinal.0, here.ordinal.1, days_of_years-suc k, ap days_in_year year) in
    let until = year_until (suc (suc k)) (m + 7) (omega (arith, less, days_of_years-closed (suc k), days_of_years-closed (suc (suc k)))) in
    let next : year_at (m + 7) ≡ year_at m +ℤ pos 1 = omega (arith, ints, year, h, until) in
    (next, omega (arith, ordinals-apart_a_year (year_at m) m (m + 7) refl next, here.ordinal.1))

first_week : (w : Weekday) (n : ℕ) → is_week w n (pos 1) ≡ ((ordinal_at (fourth_day w n) + 6) / 7 == 1)
unfolding is_week is_nth_weekday
first_week w n = refl

week_year_step : (w : Weekday) (n : ℕ) → IsStep (unit.WeekYear w) n
week_year_step w n =
    let u = unit.WeekYear w in
    let m = fourth_day w n in
    let here = pos-week_years w n in
    let there = pos-week_years w (n + 1) in
    elim (week_step w n) as (λ _. IsStep u n) [
      | inl on ↦
          let later : fourth_day w (n + 1) ≡ m + 7 = omega (arith, fourth-is w n, fourth-is w (n + 1), on.1) in
          let year = ap year_at later in
          elim (cases_lt (period_index u n) (period_index u (n + 1))) as (λ _. IsStep u n) [
            | inl less ↦
                let next = next_by_week m (omega (arith, ints, here, there, year)) in
                let one = eq-eqb ((ordinal_at (fourth_day w (n + 1)) + 6) / 7) 1 (omega (arith, ap ordinal_at later, next.1, (ordinal_of_date (m + 7)).0)) in
                inl ((on.0, first_week w (n + 1) ∙ one), omega (arith, ints, here, there, year, next.0))
            | inr most ↦
                let same : year_at m ≡ year_at (m + 7) = omega (arith, ints, here, there, year, year_at-rises m (m + 7) (omega arith)) in
                let days = ordinals-apart m (m + 7) same in
                inr (λ b. omega (arith, eqb-true _ _ (sym (first_week w (n + 1)) ∙ b.1), ap ordinal_at later, days, (ordinal_of_date m).0), omega (arith, ints, here, there, year, same))
          ]
      | inr off ↦
          let same : fourth_day w (n + 1) ≡ m = omega (arith, fourth-is w n, fourth-is w (n + 1), off.1) in
          inr (λ b. off.0 b.0, omega (arith, ints, here, there, ap year_at same))
    ]

pub rises_at_beginning : (u : PeriodUnit) (n : ℕ) → IsDate n → RisesAtBeginning u n
rises_at_beginning unit.Day n h = from_step unit.Day n (inl (tt, omega (arith, days-is n, days-is (n + 1))))
rises_at_beginning (unit.Week w) n h = from_step (unit.Week w) n (week_step w n)
rises_at_beginning unit.Month n h = from_step unit.Month n (month_step n (next_day n h))
rises_at_beginning unit.Year n h = from_step unit.Year n (year_step n (next_day n h))
rises_at_beginning (unit.WeekYear w) n h = from_step (unit.WeekYear w) n (week_year_step w n)
