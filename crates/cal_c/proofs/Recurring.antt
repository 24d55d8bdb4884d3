-- The parts of a rule, which are read one by one, and its days, which are written one by one.
use Rattle.std.proofs.Common.{◌≡◌, ◌≢◌, refl, ℕ, ◌+◌, ◌-◌, ◌<◌, ◌≤◌, ap, sym, ◌∙◌, arith, below_more, add-one, List, [], ◌∷◌, ◌++◌, length, get_or, get_or-set_other, get_or-set_same, map, take, drop, drop-cons, length-drop, slice_get, Option, Some, None, MatchOption}
use Rattle.std.proofs.Math.ListN.{set}
use Rattle.std.proofs.lemmas.List.{map_more}
use Rattle.cal_time.specs.Month.{index, month_of_index, number}
use Rattle.cal_time.specs.MonthCycle.{month_of_index-index}
use Rattle.cal_time.specs.Weekday as weekdays
use Rattle.cal_time.specs.WeekdayCycle.{weekday_of_index-index}
use Rattle.cal_time.specs.declared.Month.{Month}
use Rattle.cal_time.specs.declared.Weekday.{Weekday}
use Rattle.cal_c.specs.Recurrences.{AreDates, AreListsShort, AreMonths, ArePlain, AreWeekdays, IsFrequency, IsRule, IsRuleStatus}
use Rattle.cal_c.specs.declared.status.TheConstants.{INVALID_DATE, INVALID_WEEKDAY, INVALID_FREQUENCY, MONTH_OUT_OF_RANGE}
use Rattle.cal_c.specs.Values.{IsWeekday}
use Rattle.cal_c.specs.declared.schedule.recurrences.rule_parts.RuleParts.{RuleParts}

pub mapped_more : {A B : Type 0} (f : A → B) (xs : List A) (ys zs : List B) (i : ℕ) (d : A) (y : B) → i < length xs
    → ys ≡ map f (take i xs) → y ≡ f (get_or xs i d) → zs ≡ ys ++ y ∷ [] → zs ≡ map f (take (i + 1) xs)
mapped_more f xs ys zs i d y lt e q p = p ∙ (λ k. e k ++ q k ∷ []) ∙ sym (map_more f xs i d lt)

pub month_numbered : (m : Month) (k : ℕ) → number m ≡ k → m ≡ month_of_index (k - 1)
month_numbered m k e = let same : index m ≡ k - 1 = omega (arith, e) in sym (month_of_index-index m) ∙ ap month_of_index same

pub weekday_numbered : (w : Weekday) (k : ℕ) → weekdays.index w + 1 ≡ k → w ≡ weekdays.weekday_of_index (k - 1)
weekday_numbered w k e = let same : weekdays.index w ≡ k - 1 = omega (arith, e) in sym (weekday_of_index-index w) ∙ ap weekdays.weekday_of_index same

-- The status of the first invalid part.
pub refused_dates : (p : RuleParts) → ¬ AreDates p → (¬ IsRule p) × IsRuleStatus p INVALID_DATE
refused_dates p out = (
  λ is. out is.plain.dates,
  record {
    dates = λ n. refl;
    frequency = λ d n. absurd (out d);
    week_start = λ d f n. absurd (out d);
    few = λ a n. absurd (out a.dates);
    months = λ a l n. absurd (out a.dates);
    weekdays = λ a l m n. absurd (out a.dates);
  },
)

pub refused_frequency : (p : RuleParts) → AreDates p → ¬ IsFrequency p.frequency → (¬ IsRule p) × IsRuleStatus p INVALID_FREQUENCY
refused_frequency p dates out = (
  λ is. out is.plain.frequency,
  record {
    dates = λ n. absurd (n dates);
    frequency = λ d n. refl;
    week_start = λ d f n. absurd (out f);
    few = λ a n. absurd (out a.frequency);
    months = λ a l n. absurd (out a.frequency);
    weekdays = λ a l m n. absurd (out a.frequency);
  },
)

pub refused_week_start : (p : RuleParts) → AreDates p → IsFrequency p.frequency → ¬ IsWeekday p.week_start → (¬ IsRule p) × IsRuleStatus p INVALID_WEEKDAY
refused_week_start p dates frequency out = (
  λ is. out is.plain.week_start,
  record {
    dates = λ n. absurd (n dates);
    frequency = λ d n. absurd (n frequency);
    week_start = λ d f n. refl;
    few = λ a n. absurd (out a.week_start);
    months = λ a l n. absurd (out a.week_start);
    weekdays = λ a l m n. absurd (out a.week_start);
  },
)

pub refused_months : (p : RuleParts) → ArePlain p → AreListsShort p → ¬ AreMonths p.months.now → (¬ IsRule p) × IsRuleStatus p MONTH_OUT_OF_RANGE
refused_months p plain short out = (
  λ is. out is.months,
  record {
    dates = λ n. absurd (n plain.dates);
    frequency = λ d n. absurd (n plain.frequency);
    week_start = λ d f n. absurd (n plain.week_start);
    few = λ a n. absurd (n short);
    months = λ a l n. refl;
    weekdays = λ a l m n. absurd (out m);
  },
)

pub refused_weekdays : (p : RuleParts) → ArePlain p → AreListsShort p → AreMonths p.months.now → ¬ AreWeekdays p.weekdays.now
    → (¬ IsRule p) × IsRuleStatus p INVALID_WEEKDAY
refused_weekdays p plain short months out = (
  λ is. out is.weekdays,
  record {
    dates = λ n. absurd (n plain.dates);
    frequency = λ d n. absurd (n plain.frequency);
    week_start = λ d f n. absurd (n plain.week_start);
    few = λ a n. absurd (n short);
    months = λ a l n. absurd (n months);
    weekdays = λ a l m n. refl;
  },
)

-- what a walk gives next is the first of the days that are left
pub first_given : (r : Option ℕ) (xs ys : List ℕ) → MatchOption r ((xs ≡ []) × (ys ≡ [])) (λ x. xs ≡ x ∷ ys) → r ≡ slice_get xs 0
first_given None xs ys h = ap (λ l. slice_get l 0) (sym h.0)
first_given (Some x) xs ys h = ap (λ l. slice_get l 0) (sym h)

-- A list after its first i values.
pub goes_on : {A : Type 0} (d : A) (ns xs : List A) (i : ℕ) (x : A) → i < length ns → drop i ns ≡ x ∷ xs → (get_or ns i d ≡ x) × (drop (i + 1) ns ≡ xs)
goes_on d ns xs i x lt e = let same = drop-cons ns i d lt in (cc, rw (add-one) (cc))

pub more_left : {A : Type 0} (ns xs : List A) (i : ℕ) (x : A) → drop i ns ≡ x ∷ xs → i < length ns
more_left ns xs i x e = omega (arith, length-drop i ns, ap length e)

pub none_left : {A : Type 0} (ns : List A) (i : ℕ) → drop i ns ≡ [] → length ns ≤ i
none_left ns i e = omega (arith, length-drop i ns, ap length e)

-- one more value is written
pub written_more : {A : Type 0} (d : A) (P : ℕ → A → Type 0) (zs : List A) (i : ℕ) (z : A) → i < length zs → ((k : ℕ) → k < i → P k (get_or zs k d)) → P i z
    → (k : ℕ) → k < i + 1 → P k (get_or (set zs i z) k d)
written_more d P zs i z lt before here =
    below_more (λ k. P k (get_or (set zs i z) k d)) i (λ k below. let ne : k ≢ i = omega arith in rw get_or-set_other (before k below)) (rw get_or-set_same here)

pub kept_more : {A : Type 0} (d : A) (old zs : List A) (i : ℕ) (z : A) → ((k : ℕ) → i ≤ k → get_or zs k d ≡ get_or old k d)
    → (k : ℕ) → i + 1 ≤ k → get_or (set zs i z) k d ≡ get_or old k d
kept_more d old zs i z kept k past = let ne : k ≢ i = omega arith in rw get_or-set_other (kept k (omega arith))
