-- A rule that only has weekdays without numbers passes the same days every week.
use Rattle.std.proofs.Common.{◌≡◌, refl, sym, ap, ◌∙◌, arith, ℕ, ◌+◌, Bool, true, false, List, [], ◌∷◌, length}
use Rattle.std.specs.Prelude.{◌==◌, ◌&&◌, ◌||◌, not}
use Rattle.std.specs.List.{list_any}
use Rattle.std.proofs.lemmas.Bool.{eqb-true, false≢true}
use Rattle.cal_time.specs.Date.{month_at, weekday_at}
use Rattle.cal_time.specs.Laws.{weekday_at-is}
use Rattle.cal_time.specs.Month.{number}
use Rattle.cal_time.specs.Weekday.{index}
use Rattle.cal_schedule.specs.Rule.{allows, is_empty, is_week, is_yearly, matches_by_day, matches_days, matches_months, matches_weeks, names_no_day, passes}
use Rattle.cal_schedule.specs.RuleSearch.{by_day_weekday, has_number, may_fall_on, PassesByWeekday}
use Rattle.cal_schedule.specs.declared.rule.rule.ByDay.{ByDay}
use Rattle.cal_schedule.specs.declared.rule.rule.ByDay.TheVariants.{Every, Nth}
use Rattle.cal_schedule.specs.declared.rule.rule.Rule.{Rule}

nil : {X : Type 0} (xs : List X) → (length xs == 0) ≡ true → xs ≡ []
nil [] e = refl
nil (x ∷ xs) e = absurd (omega (arith, eqb-true (length (x ∷ xs)) 0 e))

some : {X : Type 0} (xs : List X) → (length xs == 0) ≡ false → is_empty xs ≡ false
some [] e = absurd (false≢true (sym e))
some (x ∷ xs) e = refl

same-weekday : (n : ℕ) → weekday_at (n + 7) ≡ weekday_at n
same-weekday n = omega (arith, weekday_at-is (n + 7), weekday_at-is n)

no-numbers : (b : Bool) (n : ℕ) (days : List ByDay) → list_any has_number days ≡ false → list_any (matches_by_day b n) days ≡ list_any (λ by. weekday_at n == index (by_day_weekday by)) days
unfolding matches_by_day
no-numbers b n [] none = refl
no-numbers b n (Every w ∷ days) none = ap (λ x. (weekday_at n == index w) || x) (no-numbers b n days none)
no-numbers b n (Nth k w ∷ days) none = absurd (false≢true (sym none))

same-allowed : {X : Type 0} (p q : X → Bool) (xs : List X) → list_any p xs ≡ list_any q xs → allows p xs ≡ allows q xs
same-allowed p q [] e = refl
same-allowed p q (x ∷ xs) e = e

any-start : (y m w none same : Bool) → none ≡ false → (not (y && m && w && none) || same) ≡ true
any-start true true true none same e = rw e refl
any-start true true false none same e = refl
any-start true false w none same e = refl
any-start false m w none same e = refl

-- The rule has only weekdays.
pub record HasOnlyWeekdays (rule : Rule) : Type 0 where
  pub months : rule.pattern.months ≡ []
  pub weeks : rule.pattern.weeks ≡ []
  pub year_days : rule.pattern.year_days ≡ []
  pub month_days : rule.pattern.month_days ≡ []
  pub weekdays : is_empty rule.pattern.weekdays ≡ false

all-months : (rule : Rule) (k : ℕ) → HasOnlyWeekdays rule → matches_months rule k ≡ true
unfolding matches_months
all-months rule k h =
    let none : names_no_day rule ≡ false = rw (h.year_days, h.month_days, h.weekdays) refl in
    let start = any-start (is_yearly rule.pattern.frequency) (is_empty rule.pattern.months) (is_empty rule.pattern.weeks) (names_no_day rule) (month_at k == month_at rule.start) none in
    ap (λ ms. allows (λ m. number m == month_at k) ms && (not (is_yearly rule.pattern.frequency && is_empty rule.pattern.months && is_empty rule.pattern.weeks && names_no_day rule) || (month_at k == month_at rule.start))) h.months
    ∙ start

all-weeks : (rule : Rule) (k : ℕ) → HasOnlyWeekdays rule → matches_weeks rule k ≡ true
unfolding matches_weeks
all-weeks rule k h = ap (allows (is_week rule.pattern.week_start k)) h.weeks

days-allowed : (rule : Rule) (k : ℕ) → HasOnlyWeekdays rule → matches_days rule k ≡ allows (matches_by_day (is_yearly rule.pattern.frequency && is_empty rule.pattern.months) k) rule.pattern.weekdays
unfolding matches_days
days-allowed rule k h = rw (h.year_days, h.month_days, h.weekdays) refl

pub by_weekday : (rule : Rule) → (length rule.pattern.months == 0) ≡ true → (length rule.pattern.weeks == 0) ≡ true → (length rule.pattern.year_days == 0) ≡ true
    → (length rule.pattern.month_days == 0) ≡ true → (length rule.pattern.weekdays == 0) ≡ false → list_any has_number rule.pattern.weekdays ≡ false → PassesByWeekday rule
unfolding passes
by_weekday rule months weeks years monthly weekdays none n =
    let h : HasOnlyWeekdays rule = record {
      months = nil rule.pattern.months months;
      weeks = nil rule.pattern.weeks weeks;
      year_days = nil rule.pattern.year_days years;
      month_days = nil rule.pattern.month_days monthly;
      weekdays = some rule.pattern.weekdays weekdays;
    } in
    let b = is_yearly rule.pattern.frequency && is_empty rule.pattern.months in
    ap (λ x. x && (matches_weeks rule n && matches_days rule n)) (all-months rule n h)
    ∙ ap (λ x. x && matches_days rule n) (all-weeks rule n h)
    ∙ days-allowed rule n h
    ∙ same-allowed (matches_by_day b n) (λ by. weekday_at n == index (by_day_weekday by)) rule.pattern.weekdays (no-numbers b n rule.pattern.weekdays none)

-- The days that pass repeat every week.
pub repeats : (rule : Rule) → PassesByWeekday rule → (n : ℕ) → passes rule (n + 7) ≡ passes rule n
repeats rule h n = h (n + 7) ∙ ap (may_fall_on rule) (same-weekday n) ∙ sym (h n)
