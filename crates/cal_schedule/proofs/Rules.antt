-- The next day of a rule: the days that are skipped, and the end of the search.
use Rattle.std.proofs.Common.{◌≡◌, ◌≢◌, refl, ℕ, zero, suc, ◌+◌, ◌-◌, ◌*◌, ◌/◌, ◌%◌, ◌<◌, ◌≤◌, max, min, sym, ap, ◌∙◌, arith, Option, Some, None, true, false, inl, inr, [], ◌∷◌, filter, slice_get, take}
use Rattle.std.specs.Prelude.{MatchOption, SomeIff, IfSome, Bool, List, ◌==◌, ◌&&◌, if◌then◌else◌}
use Rattle.std.specs.List.{list_any}
use Rattle.std.proofs.lemmas.Int.{ints}
use Rattle.std.proofs.lemmas.Bool.{and_parts, cases_lt, false_from_ne_true, false≢true, or_cases, or_left, or_right}
use Rattle.std.proofs.lemmas.List.{take_all}
use Rattle.std.proofs.lemmas.List.Sums.{count_by-le-length, length-filter}
use Rattle.std.proofs.lemmas.Nat.{div-add-mod'}
use Rattle.std.proofs.Math.Nat.{mul-le-mul_left}
use Rattle.cal_time.specs.Date.{last_day, IsDate, year_at, month_at, day_of_month_at, weekday_at}
use Rattle.cal_date.specs.CountLaws.{days_of_years, days_of_years-closed, year_start}
use Rattle.cal_time.specs.DateLimits.{months_in_range, years_in_range}
use Rattle.cal_time.specs.Days.{day_at-last, day_of_month_at-range, month_at-range}
use Rattle.cal_time.specs.Filters.{IsFirstDay, filter-first, filter-none, first_matching, none_matching}
use Rattle.cal_time.specs.Laws.{weekday_at-is}
use Rattle.cal_time.specs.Lengths.{days_in_month}
use Rattle.cal_time.specs.Occurrences.{days_from}
use Rattle.cal_time.specs.Components.{day_of_month_at-rises}
use Rattle.cal_time.specs.Weekday.{index}
use Rattle.cal_time.specs.WeekdayCycle.{index-below}
use Rattle.cal_time.specs.declared.Weekday.{Weekday}
use Rattle.cal_time.proofs.DateIters.{length-days_from}
use Rattle.cal_schedule.specs.declared.rule.rule.ByDay.{ByDay}
use Rattle.cal_schedule.specs.declared.rule.rule.ByDay.TheVariants.{Every, Nth}
use Rattle.cal_schedule.specs.declared.rule.rule.Rule.{Rule}
use Rattle.cal_schedule.specs.declared.rule.unit.PeriodUnit.{PeriodUnit}
use Rattle.cal_schedule.specs.declared.rule.unit.PeriodUnit.TheVariants as unit
use Rattle.cal_schedule.specs.Months.{HasMonthIndex}
use Rattle.cal_schedule.specs.Rule.{allows, fourth_day, is_nth_weekday, is_week, matches_weeks, unit_of, occurrences_after, occurrences_left, occurrences, occurrences_from, is_empty, matches_months, matches_until, is_month_day, is_year_day, is_occurrence, passes, matches_days, matches_by_day, is_yearly, interval_or_1, period_index, periods_past}
use Rattle.cal_schedule.specs.RuleSearch.{may_fall_on, by_day_weekday, IsCandidate, IsFirstOfPeriod, IsNextBefore, IsNextFrom, IsSkip, NoDayBetween}
use Rattle.cal_schedule.proofs.MonthMoves.{IsMonthNumber-date, same_month}
use Rattle.cal_schedule.proofs.RulePeriods.{fourth-is, matches_months-alike, matches_until-earlier, pos-months, pos-week_years, pos-years, period_index-rises, weeks-is, year_from, year_until}
use Rattle.cal_schedule.proofs.RulePositions.{IsOn-is_occurrence, is_occurrence-period, is_off}

-- the first day of a month, of a year, and of a year of weeks
pub first_day-month : (p x : ℕ) → HasMonthIndex p x → IsDate x
    → day_of_month_at x ≡ min 1 (days_in_month (year_at x) (month_at x)) → IsFirstOfPeriod unit.Month p (Some x)
first_day-month p x e h day =
    let at : period_index unit.Month x ≡ p = omega (arith, ints, pos-months x) in (
      h,
      omega arith,
      λ k less.
          elim (cases_lt (period_index unit.Month k) p) as (λ _. period_index unit.Month k < p) [
            | inl before ↦ before
            | inr most ↦
                let same = same_month k x (omega (arith, ints, pos-months k, pos-months x, period_index-rises unit.Month k x (omega arith))) in
                absurd (omega (arith, day_of_month_at-rises k x less same.year same.month, (day_of_month_at-range k).0, (day_of_month_at-range x).0))
          ],
    )

pub no_month : (p : ℕ) → months_in_range ≤ p → IsFirstOfPeriod unit.Month p None
no_month p h = λ k date. omega (arith, ints, pos-months k, (IsMonthNumber-date k date).not_after)

pub first_of_year : (t : ℕ) (r : Option ℕ) → IsFirstOfPeriod unit.Month (12 * t) r → IsFirstOfPeriod unit.Year t r
first_of_year t None h = λ k date. omega (arith, ints, pos-months k, pos-years k, (month_at-range k).0, h k date)
first_of_year t (Some x) h = (
  h.0,
  omega (arith, ints, pos-months x, pos-years x, (month_at-range x).1, h.1),
  λ k less. omega (arith, ints, pos-months k, pos-years k, (month_at-range k).0, h.2 k less),
)

pub year_number : (t x : ℕ) → IsFirstOfPeriod unit.Month (12 * t) (Some x) → x ≡ days_of_years t
year_number t x first =
    let d = days_of_years t in
    let h = first_of_year t (Some x) first in
    let start : period_index unit.Year d ≡ t = omega (arith, ints, pos-years d, ap (λ c. c.year) (year_start t).day_is) in
    elim (cases_lt x d) as (λ _. x ≡ d) [
      | inl less ↦ absurd (omega (arith, ints, h.1, pos-years x, year_until t x less))
      | inr most ↦ elim (cases_lt d x) as (λ _. x ≡ d) [
        | inl less ↦ absurd (omega (arith, h.2 d less, start))
        | inr same ↦ omega arith
      ]
    ]

pub past_years : (t : ℕ) → IsFirstOfPeriod unit.Month (12 * t) None → years_in_range ≤ t
past_years t h = omega (arith, ints, first_of_year t None h last_day (omega arith), pos-years last_day, ap (λ c. c.year) day_at-last)

-- Each day is in the year before the range or a later one.
pub week_year-any : (w : Weekday) (t : ℕ) (r : Option ℕ) → t ≡ 0 → IsFirstOfPeriod (unit.Week w) 0 r → IsFirstOfPeriod (unit.WeekYear w) t r
week_year-any w t None e h = λ k date. absurd (omega (arith, h k date))
week_year-any w t (Some x) e h = (h.0, omega arith, λ k less. absurd (omega (arith, h.2 k less)))

pub week_year-none : (w : Weekday) (t : ℕ) → years_in_range + 401 ≤ t → IsFirstOfPeriod (unit.WeekYear w) t None
week_year-none w t h = λ k date.
    let fourth = year_until (years_in_range + 401) (fourth_day w k) (omega (arith, fourth-is w k, weeks-is w k, index-below w, days_of_years-closed (years_in_range + 401))) in
    omega (arith, ints, pos-week_years w k, fourth)

-- A year of weeks begins with the week that has 4 January.
week_year-from : (w : Weekday) (t i j k : ℕ) → 1 ≤ t → j ≡ days_of_years (t - 1) → i ≡ (j + 10 - index w) / 7
    → (i ≤ period_index (unit.Week w) k → t ≤ period_index (unit.WeekYear w) k) × (period_index (unit.Week w) k < i → period_index (unit.WeekYear w) k < t)
week_year-from w t i j k some e f =
    let first : days_of_years (t + 399) ≡ j + 146097 = omega (arith, days_of_years-closed (t + 399), days_of_years-closed (t - 1)) in (
      λ low. omega (arith, ints, pos-week_years w k, year_from (t + 399) (fourth_day w k) (omega (arith, fourth-is w k, index-below w))),
      λ less. omega (arith, ints, pos-week_years w k, year_until (t + 399) (fourth_day w k) (omega (arith, fourth-is w k, index-below w))),
    )

pub week_year-first : (w : Weekday) (t i j : ℕ) (r : Option ℕ) → 1 ≤ t → j ≡ days_of_years (t - 1) → i ≡ (j + 10 - index w) / 7
    → IsFirstOfPeriod (unit.Week w) i r → IsFirstOfPeriod (unit.WeekYear w) t r
week_year-first w t i j None some e f h = λ k date. (week_year-from w t i j k some e f).1 (h k date)
week_year-first w t i j (Some x) some e f h =
    (h.0, (week_year-from w t i j x some e f).0 h.1, λ k less. (week_year-from w t i j k some e f).1 (h.2 k less))

-- No multiple lies between a number past a multiple and the next multiple.
none_within : (a b i : ℕ) → 0 < a % i → a ≤ b → b < a + (i - a % i) → b % i ≡ 0 → ⊥
none_within a b i some h g e =
    let first : i * (a / i) + a % i ≡ a = omega (arith, div-add-mod' a i) in
    let second : i * (b / i) ≡ b = omega (arith, div-add-mod' b i) in
    elim (cases_lt (a / i) (b / i)) as (λ _. ⊥) [
      | inl less ↦
          let more : a / i + 1 ≤ b / i = omega arith in
          omega (arith, mul-le-mul_left i more)
      | inr most ↦ omega (arith, mul-le-mul_left i most)
    ]

periods_past-none : (rule : Rule) (n k : ℕ) → rule.start ≤ n → n ≤ k → 0 < periods_past rule n
    → period_index (unit_of rule) k < period_index (unit_of rule) n + (interval_or_1 rule - periods_past rule n) → ¬ (periods_past rule k ≡ 0)
unfolding periods_past
periods_past-none rule n k start h some less = λ e.
    let a = period_index-rises (unit_of rule) rule.start n start in
    let b = period_index-rises (unit_of rule) n k h in
    none_within _ _ (interval_or_1 rule) some (omega arith) (omega arith) e

-- so the rule has none before its next turn, nor in a month that it does not take
pub skip-turn : (rule : Rule) (n t : ℕ) (r : Option ℕ) → rule.start ≤ n → 0 < periods_past rule n
    → t ≡ period_index (unit_of rule) n + (interval_or_1 rule - periods_past rule n) → periods_past rule n < interval_or_1 rule
    → IsFirstOfPeriod (unit_of rule) t r → IsSkip rule n r
skip-turn rule n t None start some e less h = λ k low high.
    is_off rule k (λ on. periods_past-none rule n k start low some (omega (arith, h k (omega arith))) (IsOn-is_occurrence rule k on).turn)
skip-turn rule n t (Some x) start some e less h = (
  elim (cases_lt n x) as (λ _. n < x) [
    | inl before ↦ before
    | inr most ↦ absurd (omega (arith, h.1, period_index-rises (unit_of rule) x n most))
  ],
  h.0,
  λ k low high. is_off rule k (λ on. periods_past-none rule n k start low some (omega (arith, h.2 k high)) (IsOn-is_occurrence rule k on).turn),
)

off_month : (rule : Rule) (n k : ℕ) → matches_months rule n ≡ false → period_index unit.Month k ≡ period_index unit.Month n → passes rule k ≡ false
unfolding passes
off_month rule n k off e =
    let same = same_month k n (omega (arith, ints, pos-months k, pos-months n)) in
    ap (λ b. b && (matches_weeks rule k && matches_days rule k)) (matches_months-alike rule k n same.month ∙ off)

off_week : (rule : Rule) (n k : ℕ) → matches_weeks rule n ≡ false → period_index (unit.Week rule.pattern.week_start) k ≡ period_index (unit.Week rule.pattern.week_start) n → passes rule k ≡ false
unfolding passes matches_weeks is_week
off_week rule n k off e =
    let w = rule.pattern.week_start in
    let same : fourth_day w k ≡ fourth_day w n = omega (arith, fourth-is w k, fourth-is w n) in
    false_from_ne_true _ (λ on. false≢true (sym off ∙ ap (λ m. allows (λ z. is_nth_weekday true m z) rule.pattern.weeks) (sym same) ∙ (and_parts _ _ (and_parts _ _ on).1).0))

-- so the next candidate is the first day of the next month or week
skip-period : (rule : Rule) (u : PeriodUnit) (n : ℕ) (r : Option ℕ) → ((k : ℕ) → period_index u k ≡ period_index u n → passes rule k ≡ false)
    → IsFirstOfPeriod u (period_index u n + 1) r → IsCandidate rule n r
skip-period rule u n None off h = λ k low high. off k (omega (arith, h k (omega arith), period_index-rises u n k (omega arith)))
skip-period rule u n (Some x) off h = (
  elim (cases_lt n x) as (λ _. n < x) [
    | inl before ↦ before
    | inr most ↦ absurd (omega (arith, h.1, period_index-rises u x n most))
  ],
  h.0,
  λ k low high. off k (omega (arith, h.2 k high, period_index-rises u n k (omega arith))),
)

pub skip-month : (rule : Rule) (n : ℕ) (r : Option ℕ) → matches_months rule n ≡ false → IsFirstOfPeriod unit.Month (period_index unit.Month n + 1) r
    → IsCandidate rule n r
skip-month rule n r off = skip-period rule unit.Month n r (λ k e. off_month rule n k off e)

pub skip-week : (rule : Rule) (n : ℕ) (r : Option ℕ) → matches_weeks rule n ≡ false
    → IsFirstOfPeriod (unit.Week rule.pattern.week_start) (period_index (unit.Week rule.pattern.week_start) n + 1) r → IsCandidate rule n r
skip-week rule n r off = skip-period rule (unit.Week rule.pattern.week_start) n r (λ k e. off_week rule n k off e)

-- nor on a day whose weekday it does not take
any-more : {X : Type 0} (p q : X → Bool) → ((x : X) → p x ≡ true → q x ≡ true) → (xs : List X) → list_any p xs ≡ true → list_any q xs ≡ true
any-more p q h [] e = e
any-more p q h (x ∷ xs) e =
    elim (or_cases (p x) (list_any p xs) e) as (λ _. list_any q (x ∷ xs) ≡ true) [
      | inl here ↦ or_left (q x) (list_any q xs) (h x here)
      | inr later ↦ or_right (q x) (list_any q xs) (any-more p q h xs later)
    ]

then_allows : {X Y Z : Type 0} (a : Bool) (o : Z → Bool) (p : X → Bool) (q r : Y → Bool) (zs : List Z) (xs : List X) (ys : List Y)
    → ((y : Y) → q y ≡ true → r y ≡ true)
    → (if is_empty zs && (is_empty xs && is_empty ys) then a else allows o zs && (allows p xs && allows q ys)) ≡ true → allows r ys ≡ true
then_allows a o p q r zs xs [] h e = refl
then_allows a o p q r [] [] (y ∷ ys) h e = any-more q r h (y ∷ ys) e
then_allows a o p q r [] (x ∷ xs) (y ∷ ys) h e = any-more q r h (y ∷ ys) (and_parts _ _ e).1
then_allows a o p q r (z ∷ zs) xs (y ∷ ys) h e = any-more q r h (y ∷ ys) (and_parts _ _ (and_parts _ _ e).1).1

weekday_is : (b : Bool) (n : ℕ) (by : ByDay) → matches_by_day b n by ≡ true → (weekday_at n == index (by_day_weekday by)) ≡ true
unfolding matches_by_day
weekday_is b n (Every w) e = e
weekday_is b n (Nth k w) e = (and_parts _ _ e).0

may_fall_on-days : (rule : Rule) (n : ℕ) → matches_days rule n ≡ true → may_fall_on rule (weekday_at n) ≡ true
unfolding matches_days
may_fall_on-days rule n e =
    let b = is_yearly rule.pattern.frequency && is_empty rule.pattern.months in
    then_allows _ (is_year_day n) (is_month_day n) (matches_by_day b n) _ rule.pattern.year_days rule.pattern.month_days rule.pattern.weekdays (weekday_is b n) e

pub off_weekday : (rule : Rule) (k : ℕ) → may_fall_on rule (weekday_at k) ≡ false → passes rule k ≡ false
unfolding passes
off_weekday rule k off = false_from_ne_true _ (λ on. false≢true (sym off ∙ may_fall_on-days rule k (and_parts _ _ (and_parts _ _ on).1).1))

pub takes-further : (rule : Rule) (n d : ℕ) → ((k : ℕ) → n < k → k < n + d → may_fall_on rule (weekday_at k) ≡ false)
    → may_fall_on rule ((weekday_at n + d) % 7) ≡ false → (k : ℕ) → n < k → k < n + (d + 1) → may_fall_on rule (weekday_at k) ≡ false
takes-further rule n d none off k low high = elim (cases_lt k (n + d)) as (λ _. may_fall_on rule (weekday_at k) ≡ false) [
  | inl before ↦ none k low before
  | inr most ↦ let e : weekday_at k ≡ (weekday_at n + d) % 7 = omega (arith, weekday_at-is k, weekday_at-is n) in ap (may_fall_on rule) e ∙ off
]

pub skip-day : (rule : Rule) (n d t : ℕ) (r : Option ℕ) → t ≡ n + d → 1 ≤ d
    → ((k : ℕ) → n < k → k < n + d → passes rule k ≡ false) → SomeIff r (IsDate t) t → IsCandidate rule n r
skip-day rule n d t None e some none h = λ k low high. elim (cases_lt last_day t) as (λ _. passes rule k ≡ false) [
  | inl past ↦ none k (omega arith) (omega arith)
  | inr within ↦ absurd (h within)
]
skip-day rule n d t (Some x) e some none h =
    (omega (arith, h.1), omega (arith, h.0, h.1), λ k low high. none k (omega arith) (omega (arith, h.1)))

-- nor after its last day
pub skip-until : (rule : Rule) (n : ℕ) → matches_until rule.until n ≡ false → IsSkip rule n None
skip-until rule n off = λ k low high.
    is_off rule k (λ on. false≢true (sym off ∙ matches_until-earlier rule.until n k low (IsOn-is_occurrence rule k on).by))

-- from day to day
pub none-joined : (rule : Rule) (l m n : ℕ) → NoDayBetween rule l m → NoDayBetween rule m n → NoDayBetween rule l n
none-joined rule l m n a b = λ k low high. elim (cases_lt k m) as (λ _. is_occurrence rule k ≡ false) [
  | inl before ↦ a k low before
  | inr most ↦ b k most high
]

-- If this many periods have no day of the rule, no later day is one: a later day would have one
-- this many periods earlier. In the last year of the range, periods can be cut.
none_later : (rule : Rule) (m : ℕ) → 1 ≤ interval_or_1 rule → rule.start ≤ m
    → IsNextBefore rule m (m + 372 + 146097 * interval_or_1 rule) None
    → (fuel k : ℕ) → k < fuel → m ≤ k → k + 372 ≤ last_day → is_occurrence rule k ≡ false
none_later rule m some start none zero k less low high = absurd (omega arith)
none_later rule m some start none (suc fuel) k less low high =
    elim (cases_lt k (m + 372 + 146097 * interval_or_1 rule)) as (λ _. is_occurrence rule k ≡ false) [
      | inl before ↦ none k low before (omega arith)
      | inr most ↦
          let back = k - 146097 * interval_or_1 rule in
          let e : back + 146097 * interval_or_1 rule ≡ k = omega arith in
          is_off rule k (λ on. false≢true (sym (none_later rule m some start none fuel back (omega arith) (omega arith) (omega arith))
          ∙ is_occurrence-period rule back (omega arith) (omega arith) (omega arith) (ap (is_occurrence rule) e ∙ on)))
    ]

pub none_until_rest : (rule : Rule) (m e x : ℕ) → 1 ≤ interval_or_1 rule → rule.start ≤ m → e ≡ m + 372 + 146097 * interval_or_1 rule
    → IsNextBefore rule m e None → x ≡ max m (last_day - 372) → NoDayBetween rule m x
none_until_rest rule m e x some start is none rest = λ k low high.
    none_later rule m some start (λ j from less date. none j from (omega arith) date) (k + 1) k (omega arith) low (omega arith)

pub next_joined : (rule : Rule) (m x e : ℕ) (r : Option ℕ) → m ≤ x → NoDayBetween rule m x → e ≡ last_day + 1 → IsNextBefore rule x e r → IsNextFrom rule m r
next_joined rule m x e None h none is rest = none-joined rule m x (last_day + 1) none (λ k low high. rest k low (omega arith) (omega arith))
next_joined rule m x e (Some y) h none is rest = (omega (arith, rest.0), rest.1, rest.2, none-joined rule m x y none rest.3)

-- the list of the days after a day, from the first of them
pub first_after : (rule : Rule) (n m : ℕ) (r : Option ℕ) → NoDayBetween rule (n + 1) m → n < m → IsNextFrom rule m r
    → MatchOption r (occurrences_after rule n ≡ []) (λ x. occurrences_after rule n ≡ x ∷ occurrences_after rule x)
first_after rule n m None none after h =
    filter-none (is_occurrence rule) (n + 1) (last_day - n) (λ k low high. none-joined rule (n + 1) m (last_day + 1) none h k low (omega arith))
first_after rule n m (Some x) none after h =
    let count : n + 1 + (last_day - n) - (x + 1) ≡ last_day - x = omega (arith, h.0, h.1) in
    filter-first (is_occurrence rule) (n + 1) (last_day - n) x (record {
      not_before = omega (arith, h.0);
      within = omega (arith, h.1);
      passes = h.2;
      none_before = none-joined rule (n + 1) m x none h.3;
    }) ∙ ap (λ c. x ∷ filter (is_occurrence rule) (days_from (x + 1) c)) count

get-first : (rule : Rule) (n : ℕ) (r : Option ℕ) → MatchOption r (occurrences_after rule n ≡ []) (λ x. occurrences_after rule n ≡ x ∷ occurrences_after rule x) → r ≡ slice_get (occurrences_after rule n) 0
get-first rule n None h = ap (λ l. slice_get l 0) (sym h)
get-first rule n (Some x) h = ap (λ l. slice_get l 0) (sym h)

pub next_day : (rule : Rule) (n m : ℕ) (r : Option ℕ) → NoDayBetween rule (n + 1) m → n < m → IsNextFrom rule m r → r ≡ slice_get (occurrences_after rule n) 0
next_day rule n m r none after h = get-first rule n r (first_after rule n m r none after h)

pub next_found : (rule : Rule) (n m : ℕ) (r : Option ℕ) → n < m → IsNextFrom rule m r → IfSome r (λ x. (n < x) × IsDate x × (is_occurrence rule x ≡ true))
next_found rule n m None after h = tt
next_found rule n m (Some x) after h = (omega (arith, h.0), h.1, h.2)

pub before_start : (rule : Rule) (n : ℕ) → NoDayBetween rule n rule.start
before_start rule n = λ k low high. is_off rule k (λ on. omega (arith, (IsOn-is_occurrence rule k on).start))

pub none_empty : (rule : Rule) (n m : ℕ) → m ≤ n → NoDayBetween rule n m
none_empty rule n m h = λ k low high. absurd (omega arith)

pub no_next : (rule : Rule) (n : ℕ) → last_day < n + 1 → None ≡ slice_get (occurrences_after rule n) 0
no_next rule n h = ap (λ l. slice_get l 0) (sym (filter-none (is_occurrence rule) (n + 1) (last_day - n) (λ k low high. absurd (omega arith))))

-- the days that are left, from the first that comes after a day
pub left_of : (rule : Rule) (n x : ℕ) → IsFirstDay (is_occurrence rule) (n + 1) (last_day - n) x → occurrences_after rule n ≡ x ∷ occurrences_after rule x
left_of rule n x h =
    let count : n + 1 + (last_day - n) - (x + 1) ≡ last_day - x = omega (arith, h.not_before, h.within) in
    filter-first (is_occurrence rule) (n + 1) (last_day - n) x h ∙ ap (λ c. x ∷ filter (is_occurrence rule) (days_from (x + 1) c)) count

pub left_after : (rule : Rule) (n : ℕ) (r : Option ℕ) → r ≡ slice_get (occurrences_after rule n) 0 → occurrences_left rule r ≡ occurrences_after rule n
left_after rule n None e = sym (filter-none (is_occurrence rule) (n + 1) (last_day - n) (none_matching (is_occurrence rule) (n + 1) (last_day - n) (sym e)))
left_after rule n (Some x) e = sym (left_of rule n x (first_matching (is_occurrence rule) (n + 1) (last_day - n) (Some x) e))

-- and those from a day on, from the first of them
pub left_from : (rule : Rule) (n count m : ℕ) (r : Option ℕ) → count ≡ last_day + 1 - n → n ≤ m → NoDayBetween rule n m → IsNextFrom rule m r
    → occurrences_left rule r ≡ filter (is_occurrence rule) (days_from n count)
left_from rule n count m None all low before h =
    sym (filter-none (is_occurrence rule) n count (λ k low high. none-joined rule n m (last_day + 1) before h k low (omega arith)))
left_from rule n count m (Some x) all low before h =
    let rest : n + count - (x + 1) ≡ last_day - x = omega (arith, h.1) in
    sym (filter-first (is_occurrence rule) n count x (record {
      not_before = omega (arith, h.0);
      within = omega (arith, h.1);
      passes = h.2;
      none_before = none-joined rule n m x before h.3;
    }) ∙ ap (λ c. x ∷ filter (is_occurrence rule) (days_from (x + 1) c)) rest)

-- and all of them
pub left_from_start : (rule : Rule) (r : Option ℕ) → IsNextFrom rule rule.start r → occurrences_left rule r ≡ occurrences rule
left_from_start rule r = left_from rule 0 (last_day + 1) rule.start r (omega arith) (omega arith) (before_start rule 0)

-- The first days of a list are all of them if at least as many are taken.
pub all_from : (rule : Rule) (n count taken : ℕ) → count ≤ taken
    → take taken (filter (is_occurrence rule) (days_from n count)) ≡ filter (is_occurrence rule) (days_from n count)
all_from rule n count taken h =
    let days = days_from n count in
    take_all taken (filter (is_occurrence rule) days) (omega (arith, length-filter (is_occurrence rule) days, count_by-le-length (is_occurrence rule) days, length-days_from n count))

pub all_of_them : (rule : Rule) → take 4294967295 (occurrences rule) ≡ occurrences rule
all_of_them rule = all_from rule 0 (last_day + 1) 4294967295 (omega arith)

pub walk_is : (rule : Rule) (n m : ℕ) (r : Option ℕ) → m ≡ max rule.start n → IsNextFrom rule m r
    → take 4294967295 (occurrences_left rule r) ≡ occurrences_from rule n
walk_is rule n m r first h =
    let none : NoDayBetween rule n m = λ k low high. before_start rule 0 k (omega arith) (omega arith) in
    ap (take 4294967295) (left_from rule n (last_day + 1 - n) m r refl (omega arith) none h)
    ∙ all_from rule n (last_day + 1 - n) 4294967295 (omega arith)

-- one day of the walk, with the others after it
pub some_left : (rule : Rule) (n left : ℕ) (front : Option ℕ) → left ≢ 0 → front ≡ slice_get (occurrences_after rule n) 0
    → take left (occurrences_left rule (Some n)) ≡ n ∷ take (left - 1) (occurrences_left rule front)
some_left rule n zero front some e = absurd (some refl)
some_left rule n (suc left) front some e =
    let less : left ≡ suc left - 1 = omega arith in
    ap (λ days. n ∷ take left days) (sym (left_after rule n front e)) ∙ ap (λ m. n ∷ take m (occurrences_left rule front)) less

pub ruleset firsts = (first_day-month, no_month, first_of_year, arith)
