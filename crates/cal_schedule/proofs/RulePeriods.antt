-- After 400 years the days of a rule come back.
use Rattle.std.proofs.Common.{◌≡◌, ℕ, zero, suc, ◌+◌, ◌-◌, ◌*◌, ◌/◌, ◌%◌, ◌<◌, ◌≤◌, refl, ap, ◌∙◌, arith, ℤ, pos, ◌+ℤ◌, ◌-ℤ◌, ◌*ℤ◌, ◌≤ℤ◌, ◌<ℤ◌, List, Option, Some, None, true, false, Bool, ◌&&◌, inl, inr}
use Rattle.std.specs.Prelude.{if◌then◌else◌}
use Rattle.std.proofs.lemmas.Int.{ints}
use Rattle.std.proofs.lemmas.Bool.{cases_lt, leb-true, le-leb}
use Rattle.std.proofs.Math.Nat.{add-mul-mod_self_right}
use Rattle.cal_time.specs.Date.{first_year, year_at, month_at, day_of_month_at, ordinal_at, weekday_at}
use Rattle.cal_time.specs.Days.{day_at-period, days_in_month-period, month_at-range, ordinal_at-period, weekday_at-period}
use Rattle.cal_time.specs.Lengths.{days_in_month, days_in_year}
use Rattle.cal_time.specs.Components.{ordinals-apart, year_at-rises}
use Rattle.cal_time.specs.Laws.{weekday_at-is}
use Rattle.cal_time.proofs.Dates.{ordinal_of_date, stands}
use Rattle.cal_date.specs.CountLaws.{days_of_years, days_of_years-closed, year_start}
use Rattle.cal_time.specs.Weekday.{index}
use Rattle.cal_time.specs.WeekdayCycle.{index-below}
use Rattle.cal_time.specs.declared.Weekday.{Weekday}
use Rattle.cal_schedule.specs.declared.rule.rule.Frequency.{Frequency}
use Rattle.cal_schedule.specs.declared.rule.rule.Frequency.TheVariants.{Daily, Weekly, Monthly, Yearly}
use Rattle.cal_schedule.specs.declared.rule.rule.ByDay.{ByDay}
use Rattle.cal_schedule.specs.declared.rule.rule.ByDay.TheVariants.{Every, Nth}
use Rattle.cal_schedule.specs.declared.rule.rule.Rule.{Rule}
use Rattle.cal_schedule.specs.declared.rule.unit.PeriodUnit.{PeriodUnit}
use Rattle.cal_schedule.specs.declared.rule.unit.PeriodUnit.TheVariants as unit
use Rattle.cal_schedule.specs.Months.{month_number_at}
use Rattle.cal_schedule.specs.Rule.{allows, fourth_day, matches_start, matches_until, is_empty, matches_months, is_month_day, is_year_day, is_nth_weekday, is_week, matches_days, matches_weeks, matches_by_day, is_yearly, interval_or_1, passes, period_index, periods_past, unit_of}
use Rattle.cal_schedule.proofs.MonthMoves.{month_numbers-rise}

-- Two days that differ only in number and year, as far as a rule can see.
pub record IsAlike (m n : ℕ) : Type 0 where
  pub month : month_at m ≡ month_at n
  pub day : day_of_month_at m ≡ day_of_month_at n
  pub length : days_in_month (year_at m) (month_at m) ≡ days_in_month (year_at n) (month_at n)
  pub weekday : weekday_at m ≡ weekday_at n
  pub ordinal : ordinal_at m ≡ ordinal_at n
  pub days : days_in_year (year_at m) ≡ days_in_year (year_at n)

days_in_year-period : (y : ℤ) → days_in_year (y +ℤ pos 400) ≡ days_in_year y
days_in_year-period y = grind (arith, ints)

-- one period, and more of them
pub record IsPeriods (n j k : ℕ) : Type 0 where
  pub alike : IsAlike k n
  pub year : year_at k ≡ year_at n +ℤ pos (400 * j)

IsPeriods-one : (n : ℕ) → IsPeriods n 1 (n + 146097)
IsPeriods-one n =
    let e = day_at-period n in
    record {
      alike = record {
        month = ap (λ d. d.month) e;
        day = ap (λ d. d.day) e;
        length = ap (λ d. days_in_month d.year d.month) e ∙ days_in_month-period (year_at n) (month_at n);
        weekday = weekday_at-period n;
        ordinal = ordinal_at-period n;
        days = ap (λ d. days_in_year d.year) e ∙ days_in_year-period (year_at n);
      };
      year = ap (λ d. d.year) e;
    }

IsAlike-and : (l m n : ℕ) → IsAlike l m → IsAlike m n → IsAlike l n
IsAlike-and l m n a b = record {
  month = a.month ∙ b.month;
  day = a.day ∙ b.day;
  length = a.length ∙ b.length;
  weekday = a.weekday ∙ b.weekday;
  ordinal = a.ordinal ∙ b.ordinal;
  days = a.days ∙ b.days;
}

IsAlike-same : (m n : ℕ) → m ≡ n → IsAlike m n
IsAlike-same m n e = record {
  month = ap month_at e;
  day = ap day_of_month_at e;
  length = ap (λ k. days_in_month (year_at k) (month_at k)) e;
  weekday = ap weekday_at e;
  ordinal = ap ordinal_at e;
  days = ap (λ k. days_in_year (year_at k)) e;
}

pub periods : (n j : ℕ) → IsPeriods n j (n + 146097 * j)
periods n zero =
    let e : n + 146097 * 0 ≡ n = omega arith in
    record { alike = IsAlike-same _ _ e; year = omega (arith, ints, ap year_at e) }
periods n (suc j) =
    let e : n + 146097 * suc j ≡ n + 146097 * j + 146097 = omega arith in
    let less = periods n j in
    let last = IsPeriods-one (n + 146097 * j) in
    record {
      alike = IsAlike-and _ _ _ (IsAlike-same _ _ e) (IsAlike-and _ _ _ last.alike less.alike);
      year = omega (arith, ints, ap year_at e, less.year, last.year);
    }

-- the turns rise, and a period has whole ones
year_low : (n : ℕ) → first_year ≤ℤ year_at n
year_low n = (stands n).year

pub pos-months : (n : ℕ) → pos (period_index unit.Month n) ≡ month_number_at n -ℤ first_year *ℤ pos 12
unfolding period_index
pos-months n = omega (arith, ints, year_low n, (month_at-range n).0)

pub pos-years : (n : ℕ) → pos (period_index unit.Year n) ≡ year_at n -ℤ first_year
unfolding period_index
pos-years n = omega (arith, ints, year_low n)

pub days-is : (n : ℕ) → period_index unit.Day n ≡ n
unfolding period_index
days-is n = refl

pub weeks-is : (w : Weekday) (n : ℕ) → period_index (unit.Week w) n ≡ (n + 7 - index w) / 7
unfolding period_index
weeks-is w n = refl

-- the fourth days of weeks
pub fourth-is : (w : Weekday) (n : ℕ) → fourth_day w n ≡ 7 * period_index (unit.Week w) n + index w + 146093
unfolding fourth_day
fourth-is w n = omega (arith, weeks-is w n, weekday_at-is n, index-below w)

-- The years of weeks by calendar years, which begin on these days.
pub year_from : (k n : ℕ) → days_of_years k ≤ n → (first_year +ℤ pos k) ≤ℤ year_at n
year_from k n h = omega (arith, ints, year_at-rises (days_of_years k) n h, ap (λ d. d.year) (year_start k).day_is)

pub year_until : (k n : ℕ) → n < days_of_years k → year_at n <ℤ (first_year +ℤ pos k)
year_until k n h =
    let start = year_start k in
    let d = days_of_years k in
    let years : year_at d ≡ first_year +ℤ pos k = ap (λ c. c.year) start.day_is in
    elim (cases_lt (period_index unit.Year n) (period_index unit.Year d)) as (λ _. year_at n <ℤ (first_year +ℤ pos k)) [
      | inl less ↦ omega (arith, ints, pos-years n, pos-years d, years)
      | inr most ↦
          let same : year_at n ≡ year_at d = omega (arith, ints, pos-years n, pos-years d, year_at-rises n d (omega arith)) in
          absurd (omega (arith, ordinals-apart n d same, start.ordinal_is, (ordinal_of_date n).0))
    ]

pub pos-week_years : (w : Weekday) (n : ℕ) → pos (period_index (unit.WeekYear w) n) ≡ year_at (fourth_day w n) -ℤ (first_year +ℤ pos 399)
unfolding period_index
pos-week_years w n = omega (arith, ints, fourth-is w n, year_from 399 (fourth_day w n) (omega (arith, fourth-is w n, days_of_years-closed 399)))

pub period_index-rises : (u : PeriodUnit) (m n : ℕ) → m ≤ n → period_index u m ≤ period_index u n
period_index-rises unit.Day m n h = omega (arith, days-is m, days-is n)
period_index-rises (unit.Week w) m n h = omega (arith, weeks-is w m, weeks-is w n, index-below w)
period_index-rises unit.Month m n h = omega (arith, ints, pos-months m, pos-months n, month_numbers-rise m n h)
period_index-rises unit.Year m n h = omega (arith, ints, pos-years m, pos-years n, year_at-rises m n h)
period_index-rises (unit.WeekYear w) m n h =
    let fourth : fourth_day w m ≤ fourth_day w n = omega (arith, fourth-is w m, fourth-is w n, weeks-is w m, weeks-is w n, index-below w) in
    omega (arith, ints, pos-week_years w m, pos-week_years w n, year_at-rises (fourth_day w m) (fourth_day w n) fourth)

abbrev pub turns_in : PeriodUnit → ℕ
turns_in unit.Day = 146097
turns_in (unit.Week w) = 20871
turns_in unit.Month = 4800
turns_in unit.Year = 400
turns_in (unit.WeekYear w) = 400

fourth-periods : (w : Weekday) (n j : ℕ) → fourth_day w (n + 146097 * j) ≡ fourth_day w n + 146097 * j
fourth-periods w n j = omega (arith, fourth-is w n, fourth-is w (n + 146097 * j), weeks-is w n, weeks-is w (n + 146097 * j), index-below w)

pub period_index-periods : (u : PeriodUnit) (n j : ℕ) → period_index u (n + 146097 * j) ≡ period_index u n + turns_in u * j
period_index-periods unit.Day n j = omega (arith, days-is n, days-is (n + 146097 * j))
period_index-periods (unit.Week w) n j = omega (arith, weeks-is w n, weeks-is w (n + 146097 * j), index-below w)
period_index-periods unit.Month n j = omega (arith, ints, pos-months n, pos-months (n + 146097 * j), (periods n j).year, (periods n j).alike.month)
period_index-periods unit.Year n j = omega (arith, ints, pos-years n, pos-years (n + 146097 * j), (periods n j).year)
period_index-periods (unit.WeekYear w) n j = omega (arith, ints, pos-week_years w n, pos-week_years w (n + 146097 * j), ap year_at (fourth-periods w n j), (periods (fourth_day w n) j).year)

-- what the rule says of days that are alike
allows-alike : {X : Type 0} (s t : X → Bool) (xs : List X) → ((x : X) → s x ≡ t x) → allows s xs ≡ allows t xs
allows-alike s t xs h = ap (λ test. allows test xs) (λ i x. h x i)

is_nth_weekday-alike : (b : Bool) (m n : ℕ) → IsAlike m n → (k : ℤ) → is_nth_weekday b m k ≡ is_nth_weekday b n k
unfolding is_nth_weekday
is_nth_weekday-alike true m n h k = rw (h.ordinal, h.days) refl
is_nth_weekday-alike false m n h k = rw (h.day, h.length) refl

pub is_week-places : (w : Weekday) (m n k : ℕ) (z : ℤ) → fourth_day w m ≡ k + 146097 * n → is_week w m z ≡ is_nth_weekday true k z
unfolding is_week
is_week-places w m n k z e = ap (λ day. is_nth_weekday true day z) e ∙ is_nth_weekday-alike true (k + 146097 * n) k (periods k n).alike z

matches_weeks-periods : (rule : Rule) (n j : ℕ) → matches_weeks rule (n + 146097 * j) ≡ matches_weeks rule n
unfolding matches_weeks is_week
matches_weeks-periods rule n j =
    let w = rule.pattern.week_start in
    allows-alike (is_week w (n + 146097 * j)) (is_week w n) rule.pattern.weeks
    (λ z. is_week-places w (n + 146097 * j) j (fourth_day w n) z (fourth-periods w n j))

pub matches_months-alike : (rule : Rule) (m n : ℕ) → month_at m ≡ month_at n → matches_months rule m ≡ matches_months rule n
unfolding matches_months
matches_months-alike rule m n e = rw e refl

is_month_day-alike : (m n : ℕ) → IsAlike m n → (k : ℤ) → is_month_day m k ≡ is_month_day n k
unfolding is_month_day
is_month_day-alike m n h k = rw (h.day, h.length) refl

is_year_day-alike : (m n : ℕ) → IsAlike m n → (k : ℤ) → is_year_day m k ≡ is_year_day n k
unfolding is_year_day
is_year_day-alike m n h k = rw (h.ordinal, h.days) refl

matches_by_day-alike : (b : Bool) (m n : ℕ) → IsAlike m n → (by : ByDay) → matches_by_day b m by ≡ matches_by_day b n by
unfolding matches_by_day
matches_by_day-alike b m n h (Every w) = rw h.weekday refl
matches_by_day-alike b m n h (Nth k w) = rw (h.weekday, is_nth_weekday-alike b m n h k) refl

matches_start-alike : (f : Frequency) (start m n : ℕ) → IsAlike m n → matches_start f start m ≡ matches_start f start n
matches_start-alike Daily start m n h = refl
matches_start-alike Weekly start m n h = rw h.weekday refl
matches_start-alike Monthly start m n h = rw h.day refl
matches_start-alike Yearly start m n h = rw h.day refl

matches_days-alike : (rule : Rule) (m n : ℕ) → IsAlike m n → matches_days rule m ≡ matches_days rule n
unfolding matches_days
matches_days-alike rule m n h =
    let b = is_yearly rule.pattern.frequency && is_empty rule.pattern.months in
    rw (
      matches_start-alike (if is_empty rule.pattern.weeks then rule.pattern.frequency else Weekly) rule.start m n h,
      allows-alike (is_year_day m) (is_year_day n) rule.pattern.year_days (is_year_day-alike m n h),
      allows-alike (is_month_day m) (is_month_day n) rule.pattern.month_days (is_month_day-alike m n h),
      allows-alike (matches_by_day b m) (matches_by_day b n) rule.pattern.weekdays (matches_by_day-alike b m n h),
    ) refl

pub passes-periods : (rule : Rule) (n j : ℕ) → passes rule (n + 146097 * j) ≡ passes rule n
unfolding passes
passes-periods rule n j =
    let h = (periods n j).alike in
    rw (matches_months-alike rule _ n h.month, matches_weeks-periods rule n j, matches_days-alike rule _ n h) refl

pub matches_until-earlier : (last : Option ℕ) (m n : ℕ) → m ≤ n → matches_until last n ≡ true → matches_until last m ≡ true
matches_until-earlier None m n h on = refl
matches_until-earlier (Some last) m n h on = le-leb m last (omega (arith, leb-true n last on))

pub periods_past-periods : (rule : Rule) (n : ℕ) → rule.start ≤ n → periods_past rule (n + 146097 * interval_or_1 rule) ≡ periods_past rule n
unfolding periods_past
periods_past-periods rule n h =
    let u = unit_of rule in
    let rises = period_index-rises u rule.start n h in
    let sum : period_index u (n + 146097 * interval_or_1 rule) - period_index u rule.start ≡ period_index u n - period_index u rule.start + turns_in u * interval_or_1 rule =
    omega (arith, period_index-periods u n (interval_or_1 rule), rises) in
    ap (λ k. k % interval_or_1 rule) sum ∙ add-mul-mod_self_right (period_index u n - period_index u rule.start) (turns_in u) (interval_or_1 rule)
