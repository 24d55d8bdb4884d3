-- The search for the readings that a rule selects: on one day, and from day to day.
use Rattle.std.proofs.Common.{◌≡◌, refl, ℕ, suc, ◌+◌, ◌-◌, ◌*◌, ◌/◌, ◌%◌, ◌<◌, ◌≤◌, sym, ap, ◌∙◌, arith, Bool, true, false, inl, inr, List, [], ◌∷◌, length, ℤ, pos, Option, Some, None}
use Rattle.std.specs.Prelude.{◌&&◌, ◌==◌}
use Rattle.std.proofs.lemmas.Bool.{and_left, and_right, cases_Bool, cases_lt, eq-eqb, eqb-true, false≢true}
use Rattle.cal_time.specs.Date.{last_day}
use Rattle.cal_time.specs.IsoWeekDate.{count_before}
use Rattle.cal_time.specs.SignedDuration.{day}
use Rattle.cal_datetime.specs.DateTime.{last_date_time, time_at}
use Rattle.cal_schedule.specs.Ranks.{count-less, count-yes, length-from}
use Rattle.cal_schedule.specs.Rule.{allows, is_nth, passes_with}
use Rattle.cal_schedule.specs.declared.rule.rule.Rule.{Rule}
use Rattle.cal_schedule.specs.Rule as date
use Rattle.cal_schedule.specs.Weekdays as weekdays
use Rattle.cal_recurrence.specs.DateTimeRule as reading
use Rattle.cal_recurrence.specs.DateTimeRule.{DateTimeParts, day_rule}
use Rattle.cal_recurrence.specs.TimesOfDay.{matches_time}
use Rattle.cal_recurrence.specs.TimeSearch.{NoneIn, IsFirst, IsNextReading, reading_number, selects, selects_time}
use Rattle.cal_recurrence.specs.declared.times_of_day.TimesOfDay.{TimesOfDay}
use Rattle.cal_recurrence.proofs.FirstNumbers.{joined, later-first}
use Rattle.cal_recurrence.proofs.TimeCounts.{count-stays}
use Rattle.cal_recurrence.proofs.TimePositions.{day-on, day-with, off-day, off-time, per_day, position-is, ranked, same-with, selects-on, times}

-- ---- one day
pub times-are : (rule : DateTimeParts) (list : TimesOfDay) (own : ℕ) → list ≡ rule.times → own ≡ time_at rule.start → matches_time list own ≡ times rule
times-are rule list own e f = ap (λ l. matches_time l own) e ∙ ap (λ o. matches_time rule.times o) f

pub ahead-of : (rule : DateTimeParts) (n : ℕ) → count_before (passes_with (ranked rule) n) (n + 1) ≡ count_before (passes_with (day_rule rule) n) (n + 1)
ahead-of rule n = ap (λ test. count_before test (n + 1)) (λ i k. same-with rule (ranked rule).pattern.set_positions n k i)

pub back-of : (rule : DateTimeParts) (n : ℕ) → weekdays.count_from (passes_with (ranked rule) n) n ≡ weekdays.count_from (passes_with (day_rule rule) n) n
back-of rule n = ap (λ test. weekdays.count_from test n) (λ i k. same-with rule (ranked rule).pattern.set_positions n k i)

-- The next time that passes has the index of the times before it.
pub index-of : (rule : DateTimeParts) (from index t : ℕ) → index ≡ count_before (times rule) from → IsFirst (times rule) from day t → count_before (times rule) t ≡ index
index-of rule from index t e h = count-stays (times rule) from t h.not_before h.none_before ∙ sym e

pub position-of : (rule : DateTimeParts) (n from index t ahead back : ℕ) → n ≤ last_day → date.is_occurrence (day_rule rule) n ≡ true
    → ahead ≡ count_before (passes_with (day_rule rule) n) (n + 1) → back ≡ weekdays.count_from (passes_with (day_rule rule) n) n
    → index ≡ count_before (times rule) from → IsFirst (times rule) from day t
    → reading.matches_positions rule (pos (n * day + t)) ≡ allows (λ k. is_nth k ((ahead - 1) * per_day rule + index + 1) ((back - 1) * per_day rule + (per_day rule - index))) rule.pattern.set_positions
position-of rule n from index t ahead back most on is_ahead is_back e h =
    rw (← index-of rule from index t e h) (position-is rule n t ahead back most h.below on h.passes is_ahead is_back)

time-off : (rule : DateTimeParts) (n t : ℕ) → times rule t ≡ false → selects_time rule n t ≡ false
time-off rule n t off = ap (λ b. b && reading.matches_positions rule (pos (n * day + t))) off

none-to : (rule : DateTimeParts) (n first from t : ℕ) → NoneIn (selects_time rule n) first from → NoneIn (times rule) from t → NoneIn (selects_time rule n) first t
none-to rule n first from t none off = λ k low high. elim (cases_lt k from) as (λ _. selects_time rule n k ≡ false) [
  | inl less ↦ none k low less
  | inr most ↦ time-off rule n k (off k most high)
]

pub time-selected : (rule : DateTimeParts) (n first from t : ℕ) → first ≤ from → NoneIn (selects_time rule n) first from → IsFirst (times rule) from day t
    → reading.matches_positions rule (pos (n * day + t)) ≡ true → IsFirst (selects_time rule n) first day t
time-selected rule n first from t low none h has = record {
  not_before = omega (arith, h.not_before);
  below = h.below;
  passes = ap (λ b. b && reading.matches_positions rule (pos (n * day + t))) h.passes ∙ has;
  none_before = none-to rule n first from t none h.none_before;
}

pub time-passed : (rule : DateTimeParts) (n first from t : ℕ) → NoneIn (selects_time rule n) first from → IsFirst (times rule) from day t
    → reading.matches_positions rule (pos (n * day + t)) ≡ false → NoneIn (selects_time rule n) first (t + 1)
time-passed rule n first from t none h off = λ k low high. elim (cases_lt k t) as (λ _. selects_time rule n k ≡ false) [
  | inl less ↦ none-to rule n first from t none h.none_before k low less
  | inr most ↦
      let e : t ≡ k = omega arith in
      ap (selects_time rule n) (sym e) ∙ ap (λ b. b && reading.matches_positions rule (pos (n * day + t))) h.passes ∙ off
]

allows-all : (test : ℤ → Bool) (ps : List ℤ) → true ≡ (length ps == 0) → allows test ps ≡ true
allows-all test [] e = refl
allows-all test (p ∷ ps) e = absurd (omega (arith, eqb-true (length (p ∷ ps)) 0 (sym e)))

and-true : (b c : Bool) → c ≡ true → (b && c) ≡ b
and-true true c e = e
and-true false c e = refl

-- Without positions a rule selects each time that passes.
pub without-positions : (rule : DateTimeParts) (n : ℕ) → true ≡ (length rule.pattern.set_positions == 0) → times rule ≡ selects_time rule n
unfolding reading.matches_positions
without-positions rule n e = λ i t. sym (and-true (times rule t) (reading.matches_positions rule (pos (n * day + t))) (allows-all _ rule.pattern.set_positions e)) i

-- ---- from day to day
pub here : (rule : DateTimeParts) (n first t m : ℕ) → n ≤ last_day → date.is_occurrence (day_rule rule) n ≡ true → m ≡ n * day + first
    → IsFirst (selects_time rule n) first day t → IsFirst (selects rule) m (last_date_time + 1) (reading_number (n, t))
here rule n first t m most on is h = record {
  not_before = omega (arith, h.not_before);
  below = omega (arith, h.below);
  passes = selects-on rule n t h.below on h.passes;
  none_before = λ k low high.
      let e : k / day ≡ n = omega (arith, h.below) in
      off-time rule n k e (h.none_before (k % day) (omega arith) (omega arith));
}

pub rest-none : (rule : DateTimeParts) (n first : ℕ) → NoneIn (selects_time rule n) first day → NoneIn (selects rule) (n * day + first) ((n + 1) * day)
rest-none rule n first none = λ k low high.
    let e : k / day ≡ n = omega arith in
    off-time rule n k e (none (k % day) (omega arith) (omega arith))

pub days-none : (rule : DateTimeParts) (a b : ℕ) → b ≤ last_day + 1 → NoneIn (date.is_occurrence (ranked rule)) a b → NoneIn (selects rule) (a * day) (b * day)
days-none rule a b most none = λ k low high. off-day rule (k / day) k (omega arith) (none (k / day) (omega arith) (omega arith)) refl

pub day-none : (rule : DateTimeParts) (n first : ℕ) → n ≤ last_day → date.is_occurrence (ranked rule) n ≡ false → NoneIn (selects rule) (n * day + first) ((n + 1) * day)
day-none rule n first most off = λ k low high. off-day rule n k most off (omega arith)

pub carry-on : (rule : DateTimeParts) (m p : ℕ) (r : Option (ℕ × ℕ)) → m ≤ p → NoneIn (selects rule) m p → IsNextReading rule p r → IsNextReading rule m r
carry-on rule m p None h none next = joined (selects rule) m p (last_date_time + 1) none next
carry-on rule m p (Some both) h none next = later-first (selects rule) m p (last_date_time + 1) (reading_number both) h none next

-- ---- the fields of a rule
pub on-ranked : (rule : DateTimeParts) (days : Rule) (n : ℕ) → days ≡ ranked rule → date.is_occurrence days n ≡ true → date.is_occurrence (day_rule rule) n ≡ true
on-ranked rule days n e on = day-on rule (ranked rule).pattern.set_positions n (ap (λ r. date.is_occurrence r n) (sym e) ∙ on)

pub off-ranked : (rule : DateTimeParts) (days : Rule) (n : ℕ) → days ≡ ranked rule → date.is_occurrence days n ≡ false → date.is_occurrence (ranked rule) n ≡ false
off-ranked rule days n e off = ap (λ r. date.is_occurrence r n) (sym e) ∙ off

pub not-selected : (rule : DateTimeParts) (days : Rule) (n t : ℕ) → days ≡ ranked rule → n ≤ last_day → t < day → date.is_occurrence days n ≡ false → false ≡ selects rule (n * day + t)
not-selected rule days n t e most below off = sym (day-none rule n t most (off-ranked rule days n e off) (n * day + t) (omega arith) (omega arith))

-- The first time from t on that is selected is t if the rule selects t.
pub is-selected : (rule : DateTimeParts) (n t x : ℕ) (b : Bool) → t < day → date.is_occurrence (day_rule rule) n ≡ true → IsFirst (selects_time rule n) t day x → b ≡ (x == t)
    → b ≡ selects rule (n * day + t)
is-selected rule n t x b below on h e = elim (cases_Bool (x == t)) as (λ _. b ≡ selects rule (n * day + t)) [
  | inl same ↦
      let equal : x ≡ t = eqb-true x t same in
      e ∙ same ∙ sym (selects-on rule n t below on (ap (selects_time rule n) (sym equal) ∙ h.passes))
  | inr other ↦
      let quotient : (n * day + t) / day ≡ n = omega arith in
      let remainder : (n * day + t) % day ≡ t = omega arith in
      let later : t < x = elim (cases_lt t x) as (λ _. t < x) [
        | inl less ↦ less
        | inr most ↦ let equal : x ≡ t = omega (arith, h.not_before) in absurd (false≢true (sym other ∙ eq-eqb x t equal))
      ] in
      e ∙ other ∙ sym (off-time rule n (n * day + t) quotient (ap (selects_time rule n) remainder ∙ h.none_before t (omega arith) later))
]

-- A day of the rule has a rank from either end.
pub some-ahead : (rule : DateTimeParts) (n ahead : ℕ) → date.is_occurrence (day_rule rule) n ≡ true → ahead ≡ count_before (passes_with (day_rule rule) n) (n + 1) → 1 ≤ ahead
some-ahead rule n ahead on e =
    let next : n + 1 ≡ suc n = omega arith in
    omega (arith, ap (count_before (passes_with (day_rule rule) n)) next, count-yes (passes_with (day_rule rule) n) n (day-with rule n on))

pub some-back : (rule : DateTimeParts) (n back : ℕ) → n ≤ last_day → date.is_occurrence (day_rule rule) n ≡ true → back ≡ weekdays.count_from (passes_with (day_rule rule) n) n → 1 ≤ back
some-back rule n back most on e =
    let test = passes_with (day_rule rule) n in
    let all : n + (last_day + 1 - n) ≡ last_day + 1 = omega arith in
    omega (arith, e, length-from test n (last_day + 1 - n), ap (count_before test) all, count-less test n (last_day + 1) (day-with rule n on) (omega arith))

pub index-less : (rule : DateTimeParts) (from index t : ℕ) → index ≡ count_before (times rule) from → IsFirst (times rule) from day t → index < per_day rule
index-less rule from index t e h = omega (arith, index-of rule from index t e h, count-less (times rule) t day h.passes h.below)

-- A rule without a time of day selects no reading.
no-time : (rule : DateTimeParts) (t : ℕ) → per_day rule ≡ 0 → t < day → times rule t ≡ false
no-time rule t none below = elim (cases_Bool (times rule t)) as (λ _. times rule t ≡ false) [
  | inl on ↦ absurd (omega (
    arith,
    none,
    index-less rule t (count_before (times rule) t) t refl (record {
      not_before = omega arith;
      below = below;
      passes = on;
      none_before = λ k low high. absurd (omega (arith, low, high));
    }),
  ))
  | inr off ↦ off
]

pub never-selected : (rule : DateTimeParts) (m e : ℕ) → per_day rule ≡ 0 → NoneIn (selects rule) m e
never-selected rule m e none k low high =
    let below : k % day < day = omega arith in
    and_right (date.is_occurrence (day_rule rule) (k / day)) _ (and_left _ (reading.matches_positions rule (pos k)) (no-time rule (k % day) none below))

-- No reading is selected before the next day of the rule.
pub none-before : (rule : DateTimeParts) (days : Rule) (m last next : ℕ) → days ≡ ranked rule → NoneIn (selects rule) m ((last + 1) * day)
    → IsFirst (date.is_occurrence days) (last + 1) (last_day + 1) next → NoneIn (selects rule) m (next * day)
none-before rule days m last next e none h =
    joined (selects rule) m ((last + 1) * day) (next * day) none
    (days-none rule (last + 1) next (omega (arith, h.below)) (λ k low high. off-ranked rule days k e (h.none_before k low high)))

pub first-on_day : (rule : DateTimeParts) (days : Rule) (m last next t : ℕ) → days ≡ ranked rule → m ≤ (last + 1) * day → NoneIn (selects rule) m ((last + 1) * day)
    → IsFirst (date.is_occurrence days) (last + 1) (last_day + 1) next → IsFirst (selects_time rule next) 0 day t
    → IsFirst (selects rule) m (last_date_time + 1) (reading_number (next, t))
first-on_day rule days m last next t e low none h found =
    later-first (selects rule) m (next * day) (last_date_time + 1) _ (omega (arith, h.not_before)) (none-before rule days m last next e none h)
    (here rule next 0 t (next * day) (omega (arith, h.below)) (on-ranked rule days next e h.passes) (omega arith) found)

pub none-on_day : (rule : DateTimeParts) (days : Rule) (m last next : ℕ) → days ≡ ranked rule → NoneIn (selects rule) m ((last + 1) * day)
    → IsFirst (date.is_occurrence days) (last + 1) (last_day + 1) next → NoneIn (selects_time rule next) 0 day → NoneIn (selects rule) m ((next + 1) * day)
none-on_day rule days m last next e none h off = joined (selects rule) m (next * day) ((next + 1) * day) (none-before rule days m last next e none h)
    (λ k low high. rest-none rule next 0 off k (omega arith) high)

pub product-is : (x y a b : ℕ) → x ≡ a → y ≡ b → x * y ≡ a * b
product-is x y a b e f = ap (λ n. n * y) e ∙ ap (λ n. a * n) f

-- What a test of the positions says of a reading.
pub tested : (rule : DateTimeParts) (n from index t ahead back x y : ℕ) (ps : List ℤ) (b : Bool) → n ≤ last_day → date.is_occurrence (day_rule rule) n ≡ true
    → ahead ≡ count_before (passes_with (day_rule rule) n) (n + 1) → back ≡ weekdays.count_from (passes_with (day_rule rule) n) n
    → index ≡ count_before (times rule) from → IsFirst (times rule) from day t
    → x ≡ (ahead - 1) * per_day rule + index + 1 → y ≡ (back - 1) * per_day rule + (per_day rule - index) → ps ≡ rule.pattern.set_positions
    → b ≡ allows (λ k. is_nth k x y) ps → reading.matches_positions rule (pos (n * day + t)) ≡ b
tested rule n from index t ahead back x y ps b most on is_ahead is_back index_is h x_is y_is ps_are e =
    rw (e, x_is, y_is, ps_are) (position-of rule n from index t ahead back most on is_ahead is_back index_is h)
