-- The positions of readings, by the positions of their days.
use Rattle.std.proofs.Common.{◌≡◌, refl, ℕ, zero, suc, max, ◌+◌, ◌-◌, ◌*◌, ◌/◌, ◌%◌, ◌<◌, ◌≤◌, sym, ap, ◌∙◌, arith, Bool, true, false, inl, inr, List, [], ◌∷◌, map, ℤ, pos, negsuc, Option}
use Rattle.std.specs.Prelude.{◌&&◌, ◌==◌, nat_le}
use Rattle.std.specs.List.{list_any}
use Rattle.std.proofs.lemmas.Bool.{and_parts, eq-eqb, eqb-true, false_from_ne_true, false≢true, or_cases, or_left, or_right}
use Rattle.cal_time.specs.Date.{last_day}
use Rattle.cal_time.specs.IsoWeekDate.{count_before}
use Rattle.cal_time.specs.SignedDuration.{day}
use Rattle.cal_datetime.specs.DateTime.{last_date_time, date_at, time_at}
use Rattle.cal_schedule.specs.declared.rule.rule.Rule.{Rule}
use Rattle.cal_schedule.specs.Ranks.{count-less, count-yes, length-from}
use Rattle.cal_schedule.specs.Rule.{allows, is_nth, matches_days, matches_months, matches_positions, matches_until, matches_weeks, passes, passes_with, period_index, periods_past, unit_of}
use Rattle.cal_schedule.specs.Rule as date
use Rattle.cal_schedule.specs.Weekdays as weekdays
use Rattle.cal_recurrence.specs.DateTimeRule as reading
use Rattle.cal_recurrence.specs.DateTimeRule.{DateTimeParts, day_rule, days_of}
use Rattle.cal_recurrence.specs.RuleInside.{IsInside, parts_of}
use Rattle.cal_recurrence.specs.TimesOfDay.{matches_time, times_per_day}
use Rattle.cal_recurrence.specs.TimeSearch.{day_position, selects, selects_time}
use Rattle.cal_recurrence.specs.declared.clock_step.ClockStep.{ClockStep}
use Rattle.cal_recurrence.specs.declared.times_of_day.TimesOfDay.{TimesOfDay}
use Rattle.cal_recurrence.proofs.TimeCounts.{block-on, blocks}
use Rattle.cal_recurrence.proofs.TimeSteps.{Splits, parts-of}

-- the rule of the days with other positions
abbrev pub with_positions : DateTimeParts → List ℤ → Rule
with_positions rule ps = days_of rule (record rule.pattern { set_positions = ps })

-- the times of day that pass
abbrev pub times : DateTimeParts → ℕ → Bool
times rule t = matches_time rule.times (time_at rule.start) t

abbrev pub per_day : DateTimeParts → ℕ
per_day rule = times_per_day rule.times (time_at rule.start)

-- The positions change neither the days that pass nor the periods.
same-passes : (rule : DateTimeParts) (ps : List ℤ) (n : ℕ) → passes (with_positions rule ps) n ≡ passes (day_rule rule) n
unfolding passes matches_months matches_weeks matches_days
same-passes rule ps n = refl

same-unit : (rule : DateTimeParts) (ps : List ℤ) → unit_of (with_positions rule ps) ≡ unit_of (day_rule rule)
unfolding unit_of
same-unit rule ps = refl

same-past : (rule : DateTimeParts) (ps : List ℤ) (n : ℕ) → periods_past (with_positions rule ps) n ≡ periods_past (day_rule rule) n
unfolding periods_past unit_of
same-past rule ps n = refl

pub same-with : (rule : DateTimeParts) (ps : List ℤ) (n k : ℕ) → passes_with (with_positions rule ps) n k ≡ passes_with (day_rule rule) n k
same-with rule ps n k =
    rw (same-unit rule ps, same-passes rule ps k) refl

regroup : (a b c p m : Bool) → (a && (b && (c && (p && m)))) ≡ ((a && (b && (c && (p && true)))) && m)
regroup false b c p m = refl
regroup true false c p m = refl
regroup true true false p m = refl
regroup true true true false m = refl
regroup true true true true m = refl

all-positions : (r : Rule) (n : ℕ) → r.pattern.set_positions ≡ [] → matches_positions r n ≡ true
unfolding matches_positions
all-positions r n e = ap (λ ps. allows (λ k. is_nth k (count_before (passes_with r n) (n + 1)) (weekdays.count_from (passes_with r n) n)) ps) e

-- A day is one of the rule with positions if it is one of the rule without them and has a position.
day-split : (rule : DateTimeParts) (ps : List ℤ) (n : ℕ)
    → date.is_occurrence (with_positions rule ps) n ≡ (date.is_occurrence (day_rule rule) n && matches_positions (with_positions rule ps) n)
unfolding date.is_occurrence
day-split rule ps n =
    let r = with_positions rule ps in
    rw (all-positions (day_rule rule) n refl, ← same-past rule ps n, ← same-passes rule ps n) (regroup (nat_le (date_at rule.start) n) (matches_until r.until n) (periods_past r n == 0) (passes r n) (matches_positions r n))

pub day-on : (rule : DateTimeParts) (ps : List ℤ) (n : ℕ) → date.is_occurrence (with_positions rule ps) n ≡ true → date.is_occurrence (day_rule rule) n ≡ true
day-on rule ps n on = (and_parts (date.is_occurrence (day_rule rule) n) (matches_positions (with_positions rule ps) n) (sym (day-split rule ps n) ∙ on)).0

pub day-passes : (rule : DateTimeParts) (n : ℕ) → date.is_occurrence (day_rule rule) n ≡ true → passes (day_rule rule) n ≡ true
unfolding date.is_occurrence
day-passes rule n on =
    let r = day_rule rule in
    let last = passes r n && matches_positions r n in
    let third = (periods_past r n == 0) && last in
    let second = matches_until r.until n && third in
    (and_parts (passes r n) (matches_positions r n) (and_parts (periods_past r n == 0) last (and_parts (matches_until r.until n) third (and_parts (nat_le r.start n) second on).1).1).1).0

pub day-with : (rule : DateTimeParts) (n : ℕ) → date.is_occurrence (day_rule rule) n ≡ true → passes_with (day_rule rule) n n ≡ true
day-with rule n on =
    let u = unit_of (day_rule rule) in
    ap (λ b. b && passes (day_rule rule) n) (eq-eqb (period_index u n) (period_index u n) refl) ∙ day-passes rule n on

-- ---- the ranks of readings
-- The readings that pass in a period are split into its days that pass and the times.
with-splits : (rule : DateTimeParts) (n t : ℕ) → t < day → Splits (reading.passes_with rule (pos (n * day + t))) (passes_with (day_rule rule) n) (times rule) day
unfolding date_at time_at
with-splits rule n t below =
    let here : (n * day + t) / day ≡ n = omega arith in
    record { some = omega arith; at = λ m. ap (λ d. passes_with (day_rule rule) d (m / day) && times rule (m % day)) here }

-- The ranks of a reading among the readings of its period, by the ranks of its day and of its time.
record HasRanks (rule : DateTimeParts) (n t ahead back : ℕ) : Type 0 where
  ahead_is : count_before (reading.passes_with rule (pos (n * day + t))) (n * day + t + 1) ≡ (ahead - 1) * per_day rule + count_before (times rule) t + 1
  back_is : reading.count_from (reading.passes_with rule (pos (n * day + t))) (n * day + t) ≡ (back - 1) * per_day rule + (per_day rule - count_before (times rule) t)
  index : count_before (times rule) t < per_day rule
  some_ahead : 1 ≤ ahead
  some_back : 1 ≤ back

has-ranks : (rule : DateTimeParts) (n t ahead back : ℕ) → n ≤ last_day → t < day → date.is_occurrence (day_rule rule) n ≡ true → times rule t ≡ true
    → ahead ≡ count_before (passes_with (day_rule rule) n) (n + 1) → back ≡ weekdays.count_from (passes_with (day_rule rule) n) n → HasRanks rule n t ahead back
has-ranks rule n t ahead back most below on time is_ahead is_back =
    let k = n * day + t in
    let test = reading.passes_with rule (pos k) in
    let outer = passes_with (day_rule rule) n in
    let inner = times rule in
    let size = per_day rule in
    let splits = with-splits rule n t below in
    let hit = day-with rule n on in
    let whole = blocks test outer inner day n splits in
    let all = blocks test outer inner day (last_day + 1) splits in
    let before = block-on test outer inner day n t splits hit (omega arith) in
    let after = block-on test outer inner day n (suc t) splits hit (omega arith) in
    let past : k + 1 ≡ n * day + suc t = omega arith in
    let next : n + 1 ≡ suc n = omega arith in
    let readings_end : k + (last_date_time + 1 - k) ≡ (last_day + 1) * day = omega arith in
    let days_end : n + (last_day + 1 - n) ≡ last_day + 1 = omega arith in
    let one_more : count_before outer (n + 1) ≡ count_before outer n + 1 = ap (count_before outer) next ∙ count-yes outer n hit in
    let index = count-less inner t day time below in
    let ahead_less : ahead - 1 ≡ count_before outer n = omega arith in
    let rises = count-less outer n (last_day + 1) hit (omega arith) in
    let total : count_before outer (last_day + 1) ≡ (back - 1) + 1 + count_before outer n =
    omega (arith, is_back, length-from outer n (last_day + 1 - n), ap (count_before outer) days_end) in
    record {
      ahead_is = omega (arith, ap (count_before test) past, after, whole, count-yes inner t time, ap (λ c. c * size) ahead_less);
      back_is = omega (
        arith,
        length-from test k (last_date_time + 1 - k),
        ap (count_before test) readings_end,
        all,
        before,
        whole,
        ap (λ c. c * size) total,
        index,
      );
      index = index;
      some_ahead = omega arith;
      some_back = omega (arith, is_back, length-from outer n (last_day + 1 - n), ap (count_before outer) days_end);
    }

-- ---- the position of the day
quotient-is : (size a b q : ℕ) → b < size → q ≡ a * size + b → q / max size 1 ≡ a
quotient-is size a b q below e =
    let most : max size 1 ≡ size = omega arith in
    ap (λ d. q / d) most ∙ (parts-of size a b q (omega arith) below e).quotient

-- A reading at a position is on a day at the position of the day.
maps-nth : (size i j b : ℕ) (p : ℤ) → j < size → is_nth p (i * size + j + 1) (b * size + (size - j)) ≡ true → is_nth (day_position size p) (i + 1) (b + 1) ≡ true
maps-nth size i j b (pos zero) below on = let e : i * size + j + 1 ≡ 0 = eqb-true _ _ on in absurd (omega arith)
maps-nth size i j b (pos (suc q)) below on =
    let e : i * size + j + 1 ≡ suc q = eqb-true _ _ on in
    eq-eqb _ _ (ap (λ n. n + 1) (sym (quotient-is size i j q below (omega arith))))
maps-nth size i j b (negsuc q) below on =
    let e : b * size + (size - j) ≡ suc q = eqb-true _ _ on in
    let f : q / max size 1 ≡ b = quotient-is size b (size - j - 1) q (omega arith) (omega arith) in
    eq-eqb _ _ (omega arith)

any-mapped : (f : ℤ → ℤ) (p q : ℤ → Bool) → ((x : ℤ) → p x ≡ true → q (f x) ≡ true) → (xs : List ℤ) → list_any p xs ≡ true → list_any q (map f xs) ≡ true
any-mapped f p q h [] e = e
any-mapped f p q h (x ∷ xs) e =
    elim (or_cases (p x) (list_any p xs) e) as (λ _. list_any q (map f (x ∷ xs)) ≡ true) [
      | inl here ↦ or_left (q (f x)) (list_any q (map f xs)) (h x here)
      | inr later ↦ or_right (q (f x)) (list_any q (map f xs)) (any-mapped f p q h xs later)
    ]

allows-mapped : (f : ℤ → ℤ) (p q : ℤ → Bool) → ((x : ℤ) → p x ≡ true → q (f x) ≡ true) → (xs : List ℤ) → allows p xs ≡ true → allows q (map f xs) ≡ true
allows-mapped f p q h [] e = refl
allows-mapped f p q h (x ∷ xs) e = any-mapped f p q h (x ∷ xs) e

-- ---- the readings that a rule selects
-- The reading of a day and a time has a position by the ranks of its day and of its time.
pub position-is : (rule : DateTimeParts) (n t ahead back : ℕ) → n ≤ last_day → t < day → date.is_occurrence (day_rule rule) n ≡ true → times rule t ≡ true
    → ahead ≡ count_before (passes_with (day_rule rule) n) (n + 1) → back ≡ weekdays.count_from (passes_with (day_rule rule) n) n
    → reading.matches_positions rule (pos (n * day + t))
    ≡ allows (λ k. is_nth k ((ahead - 1) * per_day rule + count_before (times rule) t + 1) ((back - 1) * per_day rule + (per_day rule - count_before (times rule) t))) rule.pattern.set_positions
unfolding reading.matches_positions
position-is rule n t ahead back most below on time is_ahead is_back =
    let ranks = has-ranks rule n t ahead back most below on time is_ahead is_back in
    simp (ranks.ahead_is, ranks.back_is)

-- The day of a reading that a rule selects is one of the rule with the positions of days.
selected-day : (rule : DateTimeParts) (n t : ℕ) → n ≤ last_day → t < day → date.is_occurrence (day_rule rule) n ≡ true → times rule t ≡ true
    → reading.matches_positions rule (pos (n * day + t)) ≡ true → date.is_occurrence (with_positions rule (map (day_position (per_day rule)) rule.pattern.set_positions)) n ≡ true
unfolding matches_positions
selected-day rule n t most below on time has =
    let outer = passes_with (day_rule rule) n in
    let ahead = count_before outer (n + 1) in
    let back = weekdays.count_from outer n in
    let size = per_day rule in
    let ps = rule.pattern.set_positions in
    let days = with_positions rule (map (day_position size) ps) in
    let ranks = has-ranks rule n t ahead back most below on time refl refl in
    let ahead_some : ahead ≡ ahead - 1 + 1 = omega (arith, ranks.some_ahead) in
    let back_some : back ≡ back - 1 + 1 = omega (arith, ranks.some_back) in
    let mapped : allows (λ k. is_nth k (ahead - 1 + 1) (back - 1 + 1)) (map (day_position size) ps) ≡ true =
    allows-mapped (day_position size) (λ k. is_nth k ((ahead - 1) * size + count_before (times rule) t + 1) ((back - 1) * size + (size - count_before (times rule) t))) _
    (λ p hit. maps-nth size (ahead - 1) (count_before (times rule) t) (back - 1) p ranks.index hit) ps
    (sym (position-is rule n t ahead back most below on time refl refl) ∙ has) in
    let tests : passes_with days n ≡ outer = λ i k. same-with rule (map (day_position size) ps) n k i in
    rw (day-split rule (map (day_position size) ps) n, on, tests, ahead_some, back_some) mapped

-- What a rule selects passes by its day, its time and its position.
record Selects (rule : DateTimeParts) (k : ℕ) : Type 0 where
  on : date.is_occurrence (day_rule rule) (k / day) ≡ true
  time : times rule (k % day) ≡ true
  has : reading.matches_positions rule (pos k) ≡ true

selects-is : (rule : DateTimeParts) (k : ℕ) → selects rule k ≡ true → Selects rule k
selects-is rule k e =
    let first = and_parts (date.is_occurrence (day_rule rule) (k / day)) (times rule (k % day) && reading.matches_positions rule (pos k)) e in
    let second = and_parts (times rule (k % day)) (reading.matches_positions rule (pos k)) first.1 in
    record { on = first.0; time = second.0; has = second.1 }

-- the rule of the days with the positions of days
abbrev pub ranked : DateTimeParts → Rule
ranked rule = with_positions rule (map (day_position (per_day rule)) rule.pattern.set_positions)

-- The fields of a rule: its days are the days of its parts with the positions of days.
pub days-are : (start : ℤ) (until : Option ℤ) (days : Rule) (times : TimesOfDay) (positions : List ℤ) (size : ℕ) (has : Bool) (step : ClockStep) → IsInside start until days times positions size has
    → days ≡ ranked (parts_of start until days times positions step)
days-are start until days times positions size has step h =
    h.days_are ∙ rw (h.ranks_are, h.count_is) refl

-- A day that isn't one of the rule with the positions of days has no reading.
pub off-day : (rule : DateTimeParts) (n k : ℕ) → n ≤ last_day → date.is_occurrence (ranked rule) n ≡ false → k / day ≡ n → selects rule k ≡ false
off-day rule n k most off e = false_from_ne_true _ (λ on.
    let h = selects-is rule k on in
    let here : k ≡ n * day + k % day = omega arith in
    false≢true (sym off ∙ selected-day rule n (k % day) most (omega arith) (ap (date.is_occurrence (day_rule rule)) (sym e) ∙ h.on) h.time
    (ap (λ m. reading.matches_positions rule (pos m)) (sym here) ∙ h.has)))

pub off-time : (rule : DateTimeParts) (n k : ℕ) → k / day ≡ n → selects_time rule n (k % day) ≡ false → selects rule k ≡ false
off-time rule n k e off = false_from_ne_true _ (λ on.
    let h = selects-is rule k on in
    let here : k ≡ n * day + k % day = omega arith in
    false≢true (sym off ∙ ap (λ b. b && reading.matches_positions rule (pos (n * day + k % day))) h.time ∙ ap (λ m. reading.matches_positions rule (pos m)) (sym here) ∙ h.has))

pub selects-on : (rule : DateTimeParts) (n t : ℕ) → t < day → date.is_occurrence (day_rule rule) n ≡ true → selects_time rule n t ≡ true → selects rule (n * day + t) ≡ true
selects-on rule n t below on has =
    let quotient : (n * day + t) / day ≡ n = omega arith in
    let remainder : (n * day + t) % day ≡ t = omega arith in
    rw (quotient, remainder, on) has
