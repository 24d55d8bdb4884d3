-- The positions of the days of a rule, by counts of the days that pass.
use Rattle.std.proofs.Common.{◌≡◌, ℕ, zero, suc, ◌+◌, ◌-◌, ◌*◌, ◌%◌, ◌<◌, ◌≤◌, min, refl, sym, ap, ◌∙◌, arith, ◌<ℤ◌, Bool, true, false, ◌&&◌, Option, Some, None, inl, inr, List, [], ◌∷◌, length}
use Rattle.std.specs.Prelude.{◌==◌}
use Rattle.std.specs.Int.{from_bool}
use Rattle.std.proofs.lemmas.Int.{ints}
use Rattle.std.proofs.lemmas.Bool.{and_from, and_parts, cases_Bool, cases_lt, eq-eqb, eqb-true, false_from_ne_true, false≢true, leb-true, le-leb}
use Rattle.cal_time.specs.Date.{last_day, year_at, IsDate}
use Rattle.cal_time.specs.Components.{ordinals-apart}
use Rattle.cal_time.specs.Days.{month_at-range}
use Rattle.cal_time.specs.IsoWeekDate.{count_before}
use Rattle.cal_time.specs.WeekdayCycle.{index-below}
use Rattle.cal_time.proofs.Dates.{ordinal-most, ordinal_of_date}
use Rattle.cal_schedule.specs.Ranks.{count-most, count-next, count-no, count-none, count-rises, count-yes, length-from}
use Rattle.cal_schedule.specs.Rule.{allows, fourth_day, is_nth, is_occurrence, interval_or_1, matches_positions, matches_until, passes, passes_with, period_index, periods_past, unit_of}
use Rattle.cal_schedule.specs.RuleSearch.{IsCandidate, IsFirstOfPeriod, IsPeriodEnd, IsPeriodStart, IsSkip, NoDayBetween, NonePass}
use Rattle.cal_schedule.specs.Weekdays.{count_from}
use Rattle.cal_schedule.specs.declared.rule.rule.Rule.{Rule}
use Rattle.cal_schedule.specs.declared.rule.unit.PeriodUnit.{PeriodUnit}
use Rattle.cal_schedule.specs.declared.rule.unit.PeriodUnit.TheVariants as unit
use Rattle.cal_schedule.proofs.RulePeriods.{days-is, fourth-is, weeks-is, pos-months, pos-week_years, pos-years, matches_until-earlier, passes-periods, period_index-periods, period_index-rises, periods_past-periods, turns_in}

-- ---- counts
-- The count stays over days that fail.
count-same : (test : ℕ → Bool) (a b : ℕ) → a ≤ b → ((k : ℕ) → a ≤ k → k < b → test k ≡ false) → count_before test b ≡ count_before test a
count-same test a zero h none = let e : zero ≡ a = omega arith in ap (count_before test) e
count-same test a (suc b) h none = elim (cases_lt b a) as (λ _. count_before test (suc b) ≡ count_before test a) [
  | inl past ↦ let e : suc b ≡ a = omega arith in ap (count_before test) e
  | inr within ↦ count-no test b (none b within (omega arith)) ∙ count-same test a b within (λ k low high. none k low (omega arith))
]

count-zero : (test : ℕ → Bool) (b : ℕ) → ((k : ℕ) → k < b → test k ≡ false) → count_before test b ≡ 0
count-zero test b none = count-same test 0 b (omega arith) (λ k low high. none k high) ∙ count-none test

-- Two tests that agree on days have the same count of them.
count-alike : (s t : ℕ → Bool) (a b : ℕ) → a ≤ b → ((k : ℕ) → a ≤ k → k < b → s k ≡ t k)
    → count_before s b + count_before t a ≡ count_before t b + count_before s a
count-alike s t a zero h same = let e : zero ≡ a = omega arith in omega (arith, ap (count_before s) e, ap (count_before t) e)
count-alike s t a (suc b) h same = elim (cases_lt b a) as (λ _. count_before s (suc b) + count_before t a ≡ count_before t (suc b) + count_before s a) [
  | inl past ↦ let e : suc b ≡ a = omega arith in omega (arith, ap (count_before s) e, ap (count_before t) e)
  | inr within ↦
      let before = count-alike s t a b within (λ k low high. same k low (omega arith)) in
      elim (cases_Bool (t b)) [
        | inl on ↦ omega (arith, before, count-yes t b on, count-yes s b (same b within (omega arith) ∙ on))
        | inr off ↦ omega (arith, before, count-no t b off, count-no s b (same b within (omega arith) ∙ off))
      ]
]

-- The count of a test that is moved by q days.
count-moved : (s t : ℕ → Bool) (q a c : ℕ) → count_before s (a + q) ≡ count_before t a → ((k : ℕ) → s (k + q) ≡ t k)
    → count_before s (a + c + q) ≡ count_before t (a + c)
count-moved s t q a zero h same = let e : a + zero ≡ a = omega arith in ap (λ n. count_before s (n + q)) e ∙ h ∙ sym (ap (count_before t) e)
count-moved s t q a (suc c) h same =
    let e : a + suc c + q ≡ suc (a + c + q) = omega arith in
    let f : a + suc c ≡ suc (a + c) = omega arith in
    let before = count-moved s t q a c h same in
    elim (cases_Bool (t (a + c))) as (λ _. count_before s (a + suc c + q) ≡ count_before t (a + suc c)) [
      | inl on ↦ omega (arith, ap (count_before s) e, ap (count_before t) f, before, count-yes t (a + c) on, count-yes s (a + c + q) (same (a + c) ∙ on))
      | inr off ↦ omega (arith, ap (count_before s) e, ap (count_before t) f, before, count-no t (a + c) off, count-no s (a + c + q) (same (a + c) ∙ off))
    ]

-- ---- the days that pass in a period
with-other : (rule : Rule) (n k : ℕ) → ¬ (period_index (unit_of rule) k ≡ period_index (unit_of rule) n) → passes_with rule n k ≡ false
with-other rule n k h = false_from_ne_true _ (λ on. h (eqb-true _ _ (and_parts _ _ on).0))

with-same : (rule : Rule) (n k : ℕ) → period_index (unit_of rule) k ≡ period_index (unit_of rule) n → passes_with rule n k ≡ passes rule k
with-same rule n k h = ap (λ b. b && passes rule k) (eq-eqb _ _ h)

-- Between the bounds of a period they are the days that pass.
pub ahead-is : (rule : Rule) (n s count : ℕ) → IsPeriodStart rule n s → count + count_before (passes rule) s ≡ count_before (passes rule) (n + 1)
    → count ≡ count_before (passes_with rule n) (n + 1)
ahead-is rule n s count h e =
    let u = unit_of rule in
    let none = count-zero (passes_with rule n) s (λ k less. with-other rule n k (λ same. omega (arith, same, h.before k less))) in
    let same = count-alike (passes_with rule n) (passes rule) s (n + 1) (omega (arith, h.first))
    (λ k low high. with-same rule n k (omega (arith, h.from k low, period_index-rises u k n (omega arith)))) in
    omega (arith, e, none, same)

pub back-is : (rule : Rule) (n e count : ℕ) → IsPeriodEnd rule n e → count + count_before (passes rule) n ≡ count_before (passes rule) e
    → count ≡ count_from (passes_with rule n) n
back-is rule n e count h is =
    let u = unit_of rule in
    let t = passes_with rule n in
    let none = count-same t e (last_day + 1) h.range (λ k low high. with-other rule n k (λ same. omega (arith, same, h.after k low (omega arith)))) in
    let same = count-alike t (passes rule) n e (omega (arith, h.last))
    (λ k low high. with-same rule n k (omega (arith, h.within k high, period_index-rises u n k low))) in
    let all : n + (last_day + 1 - n) ≡ last_day + 1 = omega (arith, h.last, h.range) in
    omega (arith, is, none, same, length-from t n (last_day + 1 - n), ap (count_before t) all)

pub positions-are : (rule : Rule) (n s e ahead back : ℕ) → IsPeriodStart rule n s → IsPeriodEnd rule n e
    → ahead + count_before (passes rule) s ≡ count_before (passes rule) (n + 1) → back + count_before (passes rule) n ≡ count_before (passes rule) e
    → allows (λ k. is_nth k ahead back) rule.pattern.set_positions ≡ matches_positions rule n
unfolding matches_positions
positions-are rule n s e ahead back start end a b =
    ap (λ i. allows (λ k. is_nth k i back) rule.pattern.set_positions) (ahead-is rule n s ahead start a)
    ∙ ap (λ i. allows (λ k. is_nth k (count_before (passes_with rule n) (n + 1)) i) rule.pattern.set_positions) (back-is rule n e back end b)

allows-none : {X : Type 0} (test : X → Bool) (xs : List X) → true ≡ (length xs == 0) → allows test xs ≡ true
allows-none test [] e = refl
allows-none test (x ∷ xs) e = absurd (omega (arith, eqb-true (length (x ∷ xs)) 0 (sym e)))

pub no-positions : (rule : Rule) (n : ℕ) → true ≡ (length rule.pattern.set_positions == 0) → true ≡ matches_positions rule n
unfolding matches_positions
no-positions rule n h = sym (allows-none _ rule.pattern.set_positions h)

-- ---- the bounds of a period
pub period_start : (rule : Rule) (n t x : ℕ) → t ≡ period_index (unit_of rule) n
    → IsFirstOfPeriod (unit_of rule) t (Some x) → IsPeriodStart rule n x
period_start rule n t x e h = record {
  first = elim (cases_lt n x) as (λ _. x ≤ n) [ inl less ↦ absurd (omega (arith, e, h.2 n less)) | inr most ↦ most ];
  before = λ k less. omega (arith, e, h.2 k less);
  from = λ k low. omega (arith, e, h.1, period_index-rises (unit_of rule) x k low);
}

pub period_end : (rule : Rule) (n t x y : ℕ) → t ≡ period_index (unit_of rule) n + 1 → y ≡ x
    → IsFirstOfPeriod (unit_of rule) t (Some x) → IsPeriodEnd rule n y
period_end rule n t x y e same h = record {
  last = elim (cases_lt n y) as (λ _. n < y) [ inl less ↦ less | inr most ↦ absurd (omega (arith, e, h.1, period_index-rises (unit_of rule) x n (omega arith))) ];
  range = omega (arith, h.0);
  within = λ k less. omega (arith, e, h.2 k (omega arith));
  after = λ k low in_range. omega (arith, e, h.1, period_index-rises (unit_of rule) x k (omega arith));
}

pub last_period : (rule : Rule) (n t y : ℕ) → IsDate n → t ≡ period_index (unit_of rule) n + 1 → y ≡ last_day + 1
    → IsFirstOfPeriod (unit_of rule) t None → IsPeriodEnd rule n y
last_period rule n t y date e same h = record {
  last = omega arith;
  range = omega arith;
  within = λ k less. omega (arith, e, h k (omega arith));
  after = λ k low in_range. absurd (omega arith);
}

-- The bounds are those of each day between them.
abbrev pub IsWithin : Rule → ℕ → ℕ → Type 0
IsWithin rule n m = period_index (unit_of rule) m ≡ period_index (unit_of rule) n

pub start-moved : (rule : Rule) (n m s : ℕ) → n ≤ m → IsWithin rule n m → IsPeriodStart rule n s → IsPeriodStart rule m s
start-moved rule n m s less same h = record {
  first = omega (arith, h.first);
  before = λ k low. omega (arith, same, h.before k low);
  from = λ k low. omega (arith, same, h.from k low);
}

pub end-moved : (rule : Rule) (n m e : ℕ) → m < e → IsWithin rule n m → IsPeriodEnd rule n e → IsPeriodEnd rule m e
end-moved rule n m e less same h = record {
  last = less;
  range = h.range;
  within = λ k low. omega (arith, same, h.within k low);
  after = λ k low date. omega (arith, same, h.after k low date);
}

pub moved : (rule : Rule) (n m e : ℕ) → n ≤ m → m < e → IsPeriodEnd rule n e → IsWithin rule n m
moved rule n m e low high h = omega (arith, h.within m high, period_index-rises (unit_of rule) n m low)

-- ---- counting from candidate to candidate
pub counted-more : (rule : Rule) (from end day next count bit : ℕ) → day < end → count + count_before (passes rule) from ≡ count_before (passes rule) day
    → bit ≡ from_bool (passes rule day) → day < next → NonePass rule (day + 1) next
    → count + bit + count_before (passes rule) from ≡ count_before (passes rule) (min next end)
counted-more rule from end day next count bit less h e later none =
    let one = count-next (passes rule) day (passes rule day) bit refl e in
    let rest = count-same (passes rule) (day + 1) (min next end) (omega arith) (λ k low high. none k low (omega arith)) in
    omega (arith, h, one, rest)

-- ---- periods of 400 years
-- A year later the period is another one, also for whole weeks.
far-year : (k n : ℕ) → k + 366 ≤ n → year_at k <ℤ year_at n
far-year k n h = elim (cases_lt (period_index unit.Year k) (period_index unit.Year n)) as (λ _. year_at k <ℤ year_at n) [
  | inl less ↦ omega (arith, ints, pos-years k, pos-years n)
  | inr most ↦
      let same : year_at k ≡ year_at n = omega (arith, ints, pos-years k, pos-years n, period_index-rises unit.Year k n (omega arith)) in
      absurd (omega (arith, ordinals-apart k n same, (ordinal_of_date k).0, ordinal-most n))
]

far : (u : PeriodUnit) (k n : ℕ) → k + 372 ≤ n → period_index u k < period_index u n
far unit.Day k n h = omega (arith, days-is k, days-is n)
far (unit.Week w) k n h = omega (arith, weeks-is w k, weeks-is w n, index-below w)
far unit.Month k n h = omega (arith, ints, pos-months k, pos-months n, far-year k n (omega arith), (month_at-range k).1, (month_at-range n).0)
far unit.Year k n h = omega (arith, ints, pos-years k, pos-years n, far-year k n (omega arith))
far (unit.WeekYear w) k n h =
    let fourth : fourth_day w k + 366 ≤ fourth_day w n = omega (arith, fourth-is w k, fourth-is w n, weeks-is w k, weeks-is w n, index-below w) in
    omega (arith, ints, pos-week_years w k, pos-week_years w n, far-year (fourth_day w k) (fourth_day w n) fourth)

same-test : (a b t : ℕ) → (a + t == b + t) ≡ (a == b)
same-test a b t = elim (cases_Bool (a == b)) as (λ _. (a + t == b + t) ≡ (a == b)) [
  | inl on ↦ eq-eqb (a + t) (b + t) (omega (arith, eqb-true a b on)) ∙ sym on
  | inr off ↦ false_from_ne_true _ (λ on. false≢true (sym off ∙ eq-eqb a b (omega (arith, eqb-true (a + t) (b + t) on)))) ∙ sym off
]

with-period : (rule : Rule) (n k j : ℕ) → passes_with rule (n + 146097 * j) (k + 146097 * j) ≡ passes_with rule n k
with-period rule n k j =
    let u = unit_of rule in
    let t = turns_in u * j in
    ap (λ i. (i == period_index u (n + 146097 * j)) && passes rule (k + 146097 * j)) (period_index-periods u k j)
    ∙ ap (λ i. (period_index u k + t == i) && passes rule (k + 146097 * j)) (period_index-periods u n j)
    ∙ ap (λ b. b && passes rule (k + 146097 * j)) (same-test (period_index u k) (period_index u n) t)
    ∙ ap (λ b. (period_index u k == period_index u n) && b) (passes-periods rule k j)

-- The ranks are the same if the days of a year before and after are in the range.
record HasSameRanks (rule : Rule) (m n : ℕ) : Type 0 where
  ahead : count_before (passes_with rule m) (m + 1) ≡ count_before (passes_with rule n) (n + 1)
  back : count_from (passes_with rule m) m ≡ count_from (passes_with rule n) n

same-ranks : (rule : Rule) (n j : ℕ) → 372 ≤ n → n + 146097 * j + 372 ≤ last_day → HasSameRanks rule (n + 146097 * j) n
same-ranks rule n j low high =
    let u = unit_of rule in
    let q = 146097 * j in
    let s = passes_with rule (n + q) in
    let t = passes_with rule n in
    let a = n - 372 in
    let s_none = count-zero s (a + q) (λ k less. with-other rule (n + q) k (λ same. omega (arith, same, far u k (n + q) (omega arith)))) in
    let t_none = count-zero t a (λ k less. with-other rule n k (λ same. omega (arith, same, far u k n (omega arith)))) in
    let moved : (c : ℕ) → count_before s (a + c + q) ≡ count_before t (a + c) = λ c. count-moved s t q a c (s_none ∙ sym t_none) (λ k. with-period rule n k j) in
    let s_rest = count-same s (n + q + 372) (last_day + 1) (omega arith) (λ k from less. with-other rule (n + q) k (λ same. omega (arith, same, far u (n + q) k (omega arith)))) in
    let t_rest = count-same t (n + 372) (last_day + 1) (omega arith) (λ k from less. with-other rule n k (λ same. omega (arith, same, far u n k (omega arith)))) in
    let s_all : n + q + (last_day + 1 - (n + q)) ≡ last_day + 1 = omega arith in
    let t_all : n + (last_day + 1 - n) ≡ last_day + 1 = omega arith in
    let here : a + 372 ≡ n = omega arith in
    let here_q : a + 372 + q ≡ n + q = omega arith in
    let next : a + 373 ≡ n + 1 = omega arith in
    let next_q : a + 373 + q ≡ n + q + 1 = omega arith in
    let end : a + 744 ≡ n + 372 = omega arith in
    let end_q : a + 744 + q ≡ n + q + 372 = omega arith in
    let at : count_before s (n + q) ≡ count_before t n = ap (count_before s) (sym here_q) ∙ moved 372 ∙ ap (count_before t) here in
    let past : count_before s (n + q + 372) ≡ count_before t (n + 372) = ap (count_before s) (sym end_q) ∙ moved 744 ∙ ap (count_before t) end in
    record {
      ahead = ap (count_before s) (sym next_q) ∙ moved 373 ∙ ap (count_before t) next;
      back = omega (arith, at, past, s_rest, t_rest, length-from s (n + q) (last_day + 1 - (n + q)), length-from t n (last_day + 1 - n), ap (count_before s) s_all, ap (count_before t) t_all);
    }

positions-period : (rule : Rule) (n j : ℕ) → 372 ≤ n → n + 146097 * j + 372 ≤ last_day → matches_positions rule (n + 146097 * j) ≡ matches_positions rule n
unfolding matches_positions
positions-period rule n j low high =
    let same = same-ranks rule n j low high in
    ap (λ i. allows (λ k. is_nth k i (count_from (passes_with rule (n + 146097 * j)) (n + 146097 * j))) rule.pattern.set_positions) same.ahead
    ∙ ap (λ i. allows (λ k. is_nth k (count_before (passes_with rule n) (n + 1)) i) rule.pattern.set_positions) same.back

-- ---- what makes a day one of the rule's
pub record IsOn (rule : Rule) (n : ℕ) : Type 0 where
  pub start : rule.start ≤ n
  pub by : matches_until rule.until n ≡ true
  pub turn : periods_past rule n ≡ 0
  pub passes : passes rule n ≡ true
  pub positions : matches_positions rule n ≡ true

pub IsOn-is_occurrence : (rule : Rule) (n : ℕ) → is_occurrence rule n ≡ true → IsOn rule n
unfolding is_occurrence
IsOn-is_occurrence rule n h =
    let a = and_parts _ _ h in
    let b = and_parts _ _ a.1 in
    let c = and_parts _ _ b.1 in
    let d = and_parts _ _ c.1 in
    record { start = leb-true rule.start n a.0; by = b.0; turn = eqb-true _ _ c.0; passes = d.0; positions = d.1 }

pub is_occurrence-IsOn : (rule : Rule) (n : ℕ) → IsOn rule n → is_occurrence rule n ≡ true
unfolding is_occurrence
is_occurrence-IsOn rule n h =
    and_from _ _ (le-leb rule.start n h.start) (and_from _ _ h.by (and_from _ _ (eq-eqb _ _ h.turn) (and_from _ _ h.passes h.positions)))

-- A day this many periods before a day of the rule is a day of the rule, if it isn't before the
-- start, and neither day is in a year at an end of the range.
pub is_occurrence-period : (rule : Rule) (n : ℕ) → rule.start ≤ n → 372 ≤ n → n + 146097 * interval_or_1 rule + 372 ≤ last_day
    → is_occurrence rule (n + 146097 * interval_or_1 rule) ≡ true → is_occurrence rule n ≡ true
is_occurrence-period rule n h low high on =
    let is = IsOn-is_occurrence rule (n + 146097 * interval_or_1 rule) on in
    is_occurrence-IsOn rule n (record {
      start = h;
      by = matches_until-earlier rule.until n (n + 146097 * interval_or_1 rule) (omega arith) is.by;
      turn = sym (periods_past-periods rule n h) ∙ is.turn;
      passes = sym (passes-periods rule n (interval_or_1 rule)) ∙ is.passes;
      positions = sym (positions-period rule n (interval_or_1 rule) low high) ∙ is.positions;
    })

-- A day this many periods after a day of the rule is a day of the rule, if it isn't after the last
-- day, and neither day is in a year at an end of the range.
pub is_occurrence-later : (rule : Rule) (n : ℕ) → 372 ≤ n → n + 146097 * interval_or_1 rule + 372 ≤ last_day
    → matches_until rule.until (n + 146097 * interval_or_1 rule) ≡ true → is_occurrence rule n ≡ true → is_occurrence rule (n + 146097 * interval_or_1 rule) ≡ true
is_occurrence-later rule n low high until on =
    let is = IsOn-is_occurrence rule n on in
    is_occurrence-IsOn rule (n + 146097 * interval_or_1 rule) (record {
      start = omega (arith, is.start);
      by = until;
      turn = periods_past-periods rule n is.start ∙ is.turn;
      passes = passes-periods rule n (interval_or_1 rule) ∙ is.passes;
      positions = positions-period rule n (interval_or_1 rule) low high ∙ is.positions;
    })

-- ---- days that are skipped
pub is_off : (rule : Rule) (n : ℕ) → ¬ (is_occurrence rule n ≡ true) → is_occurrence rule n ≡ false
is_off rule n h = false_from_ne_true (is_occurrence rule n) h

pub off-fails : (rule : Rule) (n : ℕ) → passes rule n ≡ false → is_occurrence rule n ≡ false
off-fails rule n off = is_off rule n (λ on. false≢true (sym off ∙ (IsOn-is_occurrence rule n on).passes))

pub off-position : (rule : Rule) (n : ℕ) → matches_positions rule n ≡ false → is_occurrence rule n ≡ false
off-position rule n off = is_off rule n (λ on. false≢true (sym off ∙ (IsOn-is_occurrence rule n on).positions))

-- No day up to day m, and none of those up to the next candidate.
none-to : (rule : Rule) (n m e : ℕ) → NoDayBetween rule n (m + 1) → NonePass rule (m + 1) e → NoDayBetween rule n e
none-to rule n m e none fails k low high = elim (cases_lt k (m + 1)) as (λ _. is_occurrence rule k ≡ false) [
  | inl before ↦ none k low before
  | inr most ↦ off-fails rule k (fails k most high)
]

pub skip-candidate : (rule : Rule) (n m : ℕ) (r : Option ℕ) → n ≤ m → NoDayBetween rule n (m + 1) → IsCandidate rule m r → IsSkip rule n r
skip-candidate rule n m None h none is = none-to rule n m (last_day + 1) none is
skip-candidate rule n m (Some x) h none is = (omega (arith, is.0), is.1, none-to rule n m x none is.2)

pub none-more : (rule : Rule) (n m x : ℕ) → NoDayBetween rule n (m + 1) → NonePass rule (m + 1) x → is_occurrence rule x ≡ false → NoDayBetween rule n (x + 1)
none-more rule n m x none fails off k low high = elim (cases_lt k x) as (λ _. is_occurrence rule k ≡ false) [
  | inl before ↦ none-to rule n m x none fails k low before
  | inr most ↦ let same : k ≡ x = omega arith in ap (is_occurrence rule) same ∙ off
]

pub none-one : (rule : Rule) (n : ℕ) → is_occurrence rule n ≡ false → NoDayBetween rule n (n + 1)
none-one rule n off k low high = let same : k ≡ n = omega arith in ap (is_occurrence rule) same ∙ off

pub skip-off : (rule : Rule) (n : ℕ) (r : Option ℕ) → passes rule n ≡ false → IsCandidate rule n r → IsSkip rule n r
skip-off rule n r off is = skip-candidate rule n n r (omega arith) (none-one rule n (off-fails rule n off)) is

-- ---- the search in a period
-- No day from day n to day m is one of the rule's. `ahead` of the days of the period that pass are
-- up to day m, and `after` are later.
pub record IsScanned (rule : Rule) (n e m ahead after : ℕ) : Type 0 where
  pub low : n ≤ m
  pub high : m < e
  pub none : NoDayBetween rule n (m + 1)
  pub start : ℕ
  pub first : IsPeriodStart rule n start
  pub end : IsPeriodEnd rule n e
  pub ahead_is : ahead + count_before (passes rule) start ≡ count_before (passes rule) (m + 1)
  pub after_is : after + count_before (passes rule) (m + 1) ≡ count_before (passes rule) e

pub scanned-first : (rule : Rule) (n s e ahead back : ℕ) → allows (λ k. is_nth k ahead back) rule.pattern.set_positions ≡ false → passes rule n ≡ true → IsPeriodStart rule n s → IsPeriodEnd rule n e
    → ahead + count_before (passes rule) s ≡ count_before (passes rule) (n + 1) → back + count_before (passes rule) n ≡ count_before (passes rule) e
    → IsScanned rule n e n ahead (back - 1)
scanned-first rule n s e ahead back off on first end a b =
    let rises = count-rises (passes rule) (n + 1) e (omega (arith, end.last)) in
    record {
      low = omega arith;
      high = end.last;
      none = none-one rule n (off-position rule n (sym (positions-are rule n s e ahead back first end a b) ∙ off));
      start = s;
      first = first;
      end = end;
      ahead_is = a;
      after_is = omega (arith, b, count-next (passes rule) n true 1 (sym on) refl, rises);
    }

-- The next candidate doesn't pass.
pub scanned-fails : (rule : Rule) (n e m x ahead after : ℕ) → IsScanned rule n e m ahead after → m < x → x < e → NonePass rule (m + 1) x → passes rule x ≡ false
    → IsScanned rule n e x ahead after
scanned-fails rule n e m x ahead after h later within none off =
    let same = count-same (passes rule) (m + 1) x (omega arith) none in
    let next = count-next (passes rule) x false 0 (sym off) refl in
    record {
      low = omega (arith, h.low);
      high = within;
      none = none-more rule n m x h.none none (off-fails rule x off);
      start = h.start;
      first = h.first;
      end = h.end;
      ahead_is = omega (arith, h.ahead_is, same, next);
      after_is = omega (arith, h.after_is, same, next);
    }

-- The next candidate passes, and has these numbers.
pub record HasNumbers (rule : Rule) (m x ahead after : ℕ) : Type 0 where
  pub some : 1 ≤ after
  pub most : ahead ≤ m + 1
  pub is : allows (λ k. is_nth k (ahead + 1) after) rule.pattern.set_positions ≡ matches_positions rule x

pub scanned-numbers : (rule : Rule) (n e m x ahead after : ℕ) → IsScanned rule n e m ahead after → m < x → x < e → NonePass rule (m + 1) x → passes rule x ≡ true
    → HasNumbers rule m x ahead after
scanned-numbers rule n e m x ahead after h later within none on =
    let same = count-same (passes rule) (m + 1) x (omega arith) none in
    let next = count-next (passes rule) x true 1 (sym on) refl in
    let rises = count-rises (passes rule) (x + 1) e (omega arith) in
    let in_period = moved rule n x e (omega (arith, h.low)) within h.end in
    record {
      some = omega (arith, h.after_is, same, next, rises);
      most = omega (arith, h.ahead_is, count-most (passes rule) (m + 1));
      is = positions-are rule x h.start e (ahead + 1) after (start-moved rule n x h.start (omega (arith, h.low)) in_period h.first)
          (end-moved rule n x e within in_period h.end) (omega (arith, h.ahead_is, same, next)) (omega (arith, h.after_is, same));
    }

pub scanned-passes : (rule : Rule) (n e m x ahead after : ℕ) → IsScanned rule n e m ahead after → m < x → x < e → NonePass rule (m + 1) x → passes rule x ≡ true
    → matches_positions rule x ≡ false → IsScanned rule n e x (ahead + 1) (after - 1)
scanned-passes rule n e m x ahead after h later within none on off =
    let same = count-same (passes rule) (m + 1) x (omega arith) none in
    let next = count-next (passes rule) x true 1 (sym on) refl in
    let rises = count-rises (passes rule) (x + 1) e (omega arith) in
    record {
      low = omega (arith, h.low);
      high = within;
      none = none-more rule n m x h.none none (off-position rule x off);
      start = h.start;
      first = h.first;
      end = h.end;
      ahead_is = omega (arith, h.ahead_is, same, next);
      after_is = omega (arith, h.after_is, same, next, rises);
    }

-- The next candidate is at a position.
periods_past-same : (rule : Rule) (m n : ℕ) → IsWithin rule n m → periods_past rule m ≡ periods_past rule n
unfolding periods_past
periods_past-same rule m n same = ap (λ i. (i - period_index (unit_of rule) rule.start) % interval_or_1 rule) same

pub found-position : (rule : Rule) (n e m x ahead after : ℕ) → IsScanned rule n e m ahead after → m < x → x < e → IsDate x → NonePass rule (m + 1) x → passes rule x ≡ true
    → rule.start ≤ n → periods_past rule n ≡ 0 → matches_positions rule x ≡ true → matches_until rule.until x ≡ true
    → (n ≤ x) × IsDate x × (is_occurrence rule x ≡ true) × NoDayBetween rule n x
found-position rule n e m x ahead after h later within date none on start turn position until =
    let low : n ≤ x = omega (arith, h.low) in (
      low,
      date,
      is_occurrence-IsOn rule x (record {
        start = omega arith;
        by = until;
        turn = periods_past-same rule x n (moved rule n x e low within h.end) ∙ turn;
        passes = on;
        positions = position;
      }),
      none-to rule n m x h.none none,
    )

pub past-until : (rule : Rule) (n m x : ℕ) → NoDayBetween rule n (m + 1) → NonePass rule (m + 1) x → matches_until rule.until x ≡ false → IsSkip rule n None
past-until rule n m x none fails off k low high = elim (cases_lt k x) as (λ _. is_occurrence rule k ≡ false) [
  | inl before ↦ none-to rule n m x none fails k low before
  | inr most ↦ is_off rule k (λ on. false≢true (sym off ∙ matches_until-earlier rule.until x k most (IsOn-is_occurrence rule k on).by))
]

-- A day that passes the other parts, of a rule without positions.
pub on-all : (rule : Rule) (n : ℕ) → rule.start ≤ n → IsDate n → matches_until rule.until n ≡ true → periods_past rule n ≡ 0 → passes rule n ≡ true
    → matches_positions rule n ≡ true → (n ≤ n) × IsDate n × (is_occurrence rule n ≡ true) × NoDayBetween rule n n
on-all rule n start date until turn on positions =
    (omega arith, date, is_occurrence-IsOn rule n (record { start = start; by = until; turn = turn; passes = on; positions = positions }), λ k low high. absurd (omega arith))
