-- The readings of a rule by its periods within days: ranks in a period, the next selected period, and
-- the search for a reading.
use Rattle.std.proofs.Common.{◌≡◌, refl, ℕ, zero, suc, max, ◌+◌, ◌-◌, ◌*◌, ◌/◌, ◌%◌, ◌<◌, ◌≤◌, sym, ap, ◌∙◌, arith, Bool, true, false, inl, inr, List, [], ◌∷◌, length, ℤ, pos, ◌≤ℤ◌}
use Rattle.std.specs.Prelude.{◌&&◌, ◌==◌, nat_le, unsigned_abs}
use Rattle.std.proofs.lemmas.Bool.{and_left, and_parts, cases_Bool, cases_lt, eq-eqb, eqb-true, false_from_ne_true, false≢true, leb-true}
use Rattle.std.proofs.lemmas.Int.{ints}
use Rattle.std.proofs.lemmas.Nat.{div-add-mod'}
use Rattle.std.proofs.Math.Nat.{add-mul-mod_self_right, mod-lt, mul_assoc, mul_comm}
use Rattle.cal_time.specs.Date.{last_day}
use Rattle.cal_time.specs.IsoWeekDate.{count_before}
use Rattle.cal_time.specs.SignedDuration.{day}
use Rattle.cal_datetime.specs.DateTime.{last_date_time, date_at, time_at}
use Rattle.cal_schedule.proofs.RulePeriods.{matches_until-earlier, passes-periods}
use Rattle.cal_schedule.proofs.RulePositions.{IsOn-is_occurrence, is_occurrence-IsOn}
use Rattle.cal_schedule.specs.Rule as date
use Rattle.cal_schedule.specs.declared.rule.rule.Frequency.{Frequency}
use Rattle.cal_schedule.specs.declared.rule.rule.Frequency.TheVariants.{Daily, Weekly, Monthly, Yearly}
use Rattle.cal_schedule.specs.Ranks.{count-no, count-none, count-yes}
use Rattle.cal_recurrence.specs.ClockPeriods.{has_position, matches_step, passes_in, period_index, periods_past, rank_of, back_rank_of, size_of}
use Rattle.cal_recurrence.specs.ClockSearch.{can_match, has_every_day, is_daily, Closes, Divides, NeverMeets, NoneSelected, Repeats}
use Rattle.cal_recurrence.specs.DateTimeRule as reading
use Rattle.cal_recurrence.specs.DateTimeRule.{DateTimeParts, day_rule}
use Rattle.cal_recurrence.specs.TimeSearch.{NoneIn, IsFirst, selects, selects_reading}
use Rattle.cal_recurrence.specs.TimesOfDay.{matches_time}
use Rattle.cal_recurrence.specs.declared.clock_step.ClockStep.{ClockStep}
use Rattle.cal_recurrence.specs.declared.clock_unit.ClockUnit.{ClockUnit}
use Rattle.cal_recurrence.specs.declared.clock_unit.ClockUnit.TheVariants as unit
use Rattle.cal_recurrence.specs.declared.times_of_day.TimesOfDay.{TimesOfDay}
use Rattle.cal_recurrence.proofs.FirstNumbers.{joined}
use Rattle.cal_recurrence.proofs.TimeCounts.{count-stays}
use Rattle.cal_recurrence.proofs.TimeSteps.{parts-of}

-- ---- periods
-- The place of a number in its period of the size, and the day in whole periods.
pub record Placed (u : ClockUnit) (n : ℕ) : Type 0 where
  pub whole : n ≡ n / size_of u * size_of u + n % size_of u
  pub low : n % size_of u < size_of u
  pub end : n < day → n / size_of u * size_of u + size_of u ≤ day
  pub some : 1 ≤ size_of u

pub placed : (u : ClockUnit) (n : ℕ) → Placed u n
placed unit.Hour n = record { whole = omega arith; low = omega arith; end = λ h. omega (arith, h); some = omega arith }
placed unit.Minute n = record { whole = omega arith; low = omega arith; end = λ h. omega (arith, h); some = omega arith }
placed unit.Second n = record { whole = omega arith; low = omega arith; end = λ h. omega (arith, h); some = omega arith }

below-index : (u : ClockUnit) (q n : ℕ) → n < q * size_of u → n / size_of u < q
below-index unit.Hour q n h = omega (arith, h)
below-index unit.Minute q n h = omega (arith, h)
below-index unit.Second q n h = omega (arith, h)

from-index : (u : ClockUnit) (q n : ℕ) → q * size_of u ≤ n → q ≤ n / size_of u
from-index unit.Hour q n h = omega (arith, h)
from-index unit.Minute q n h = omega (arith, h)
from-index unit.Second q n h = omega (arith, h)

index-rises : (u : ClockUnit) (m n : ℕ) → m ≤ n → m / size_of u ≤ n / size_of u
index-rises unit.Hour m n h = omega (arith, h)
index-rises unit.Minute m n h = omega (arith, h)
index-rises unit.Second m n h = omega (arith, h)

past-end-of : (u : ClockUnit) (q j : ℕ) → j ≡ q * size_of u + size_of u → j ≡ (q + 1) * size_of u
past-end-of unit.Hour q j h = omega (arith, h)
past-end-of unit.Minute q j h = omega (arith, h)
past-end-of unit.Second q j h = omega (arith, h)

-- ---- ranks in a period
-- The numbers that pass a test, in the period with the index q.
abbrev pub in_period : ClockUnit → (ℕ → Bool) → ℕ → ℕ → Bool
in_period u test q n = (n / size_of u == q) && test n

none-below : (u : ClockUnit) (test : ℕ → Bool) (q n : ℕ) → n < q * size_of u → in_period u test q n ≡ false
none-below u test q n h = ap (λ b. b && test n) (false_from_ne_true _ (λ e. omega (arith, below-index u q n h, eqb-true (n / size_of u) q e)))

none-above : (u : ClockUnit) (test : ℕ → Bool) (q n : ℕ) → q * size_of u + size_of u ≤ n → in_period u test q n ≡ false
none-above u test q n h = ap (λ b. b && test n) (false_from_ne_true _ (λ e.
    let at : (q + 1) * size_of u ≤ n = omega (arith, past-end-of u q (q * size_of u + size_of u) refl, h) in
    omega (arith, from-index u (q + 1) n at, eqb-true (n / size_of u) q e)))

within : (u : ClockUnit) (q n j : ℕ) → n ≡ q * size_of u + j → j < size_of u → n / size_of u ≡ q
within unit.Hour q n j e h = omega (arith, e, h)
within unit.Minute q n j e h = omega (arith, e, h)
within unit.Second q n j e h = omega (arith, e, h)

-- The count of a period up to a place in it.
counted : (u : ClockUnit) (test : ℕ → Bool) (q j : ℕ) → j ≤ size_of u
    → count_before (in_period u test q) (q * size_of u + j) + count_before test (q * size_of u) ≡ count_before test (q * size_of u + j)
counted u test q zero h =
    let same : q * size_of u + zero ≡ q * size_of u = omega arith in
    omega (
      arith,
      ap (count_before (in_period u test q)) same,
      ap (count_before test) same,
      count-stays (in_period u test q) 0 (q * size_of u) (omega arith) (λ k low high. none-below u test q k high),
      count-none (in_period u test q),
    )
counted u test q (suc j) h =
    let inner = in_period u test q in
    let n = q * size_of u + j in
    let next : q * size_of u + suc j ≡ suc n = omega arith in
    let here : inner n ≡ test n = ap (λ b. b && test n) (eq-eqb (n / size_of u) q (within u q n j refl (omega arith))) in
    let before = counted u test q j (omega arith) in
    elim (cases_Bool (test n)) as (λ _. count_before inner (q * size_of u + suc j) + count_before test (q * size_of u) ≡ count_before test (q * size_of u + suc j)) [
      | inl hit ↦ omega (arith, ap (count_before inner) next, ap (count_before test) next, count-yes inner n (here ∙ hit), count-yes test n hit, before)
      | inr miss ↦ omega (arith, ap (count_before inner) next, ap (count_before test) next, count-no inner n (here ∙ miss), count-no test n miss, before)
    ]

-- The count rises.
pub counted-rises : (test : ℕ → Bool) (m n : ℕ) → m ≤ n → count_before test m ≤ count_before test n
counted-rises test m zero h = let e : m ≡ zero = omega arith in omega (arith, ap (count_before test) e)
counted-rises test m (suc n) h = elim (cases_lt n m) as (λ _. count_before test m ≤ count_before test (suc n)) [
  | inl past ↦ let e : m ≡ suc n = omega arith in omega (arith, ap (count_before test) e)
  | inr above ↦ elim (cases_Bool (test n)) as (λ _. count_before test m ≤ count_before test (suc n)) [
    | inl hit ↦ omega (arith, counted-rises test m n (omega arith), count-yes test n hit)
    | inr miss ↦ omega (arith, counted-rises test m n (omega arith), count-no test n miss)
  ]
]

-- The counts of the whole list that give the ranks of a time in its period.
pub record HasRanks (u : ClockUnit) (times : TimesOfDay) (own t first last ahead back : ℕ) : Type 0 where
  pub ahead_is : ahead ≡ rank_of u times own t
  pub back_is : back ≡ back_rank_of u times own t

pub has-ranks : (u : ClockUnit) (times : TimesOfDay) (own t first at after past : ℕ) → t < day
    → first ≡ count_before (matches_time times own) (t / size_of u * size_of u) → at ≡ count_before (matches_time times own) t
    → after ≡ count_before (matches_time times own) (t + 1) → past ≡ count_before (matches_time times own) (t / size_of u * size_of u + size_of u)
    → (first ≤ after) × (at ≤ past) × HasRanks u times own t first past (after - first) (past - at)
has-ranks u times own t first at after past low first_is at_is after_is past_is =
    let test = matches_time times own in
    let inner = passes_in u times own t in
    let q = t / size_of u in
    let j = t % size_of u in
    let place = placed u t in
    let here : q * size_of u + j ≡ t = omega (arith, place.whole) in
    let next : q * size_of u + (j + 1) ≡ t + 1 = omega (arith, place.whole) in
    let upto = counted u test q j (omega (arith, place.low)) in
    let with = counted u test q (j + 1) (omega (arith, place.low)) in
    let all = counted u test q (size_of u) (omega arith) in
    let rest : count_before inner day ≡ count_before inner (q * size_of u + size_of u) =
    count-stays inner (q * size_of u + size_of u) day (place.end low) (λ k from high. none-above u test q k from) in
    let before = ap (count_before inner) here in
    let before_test = ap (count_before test) here in
    let after_inner = ap (count_before inner) next in
    let after_test = ap (count_before test) next in
    let rises : count_before test t ≤ count_before test (q * size_of u + size_of u) = omega (arith, counted-rises test t (q * size_of u + size_of u) (omega (arith, place.whole, place.low))) in (
      omega (arith, first_is, after_is, with, after_test),
      omega (arith, at_is, past_is, rises),
      record {
        ahead_is = omega (arith, first_is, after_is, with, after_inner, after_test);
        back_is = omega (arith, at_is, past_is, all, upto, rest, before, before_test, rises);
      },
    )

-- The ranks by the counts that were made.
pub ranks-of : (u : ClockUnit) (times : TimesOfDay) (own t ns size before upto past at : ℕ) → t < day → ns ≡ t → size ≡ size_of u
    → before ≡ count_before (matches_time times own) (ns / size * size) → upto ≡ count_before (matches_time times own) (ns + 1)
    → past ≡ count_before (matches_time times own) (ns / size * size + size) → at ≡ count_before (matches_time times own) ns
    → (before ≤ upto) × (at ≤ past) × HasRanks u times own t before past (upto - before) (past - at)
ranks-of u times own t ns size before upto past at low e f before_is upto_is past_is at_is =
    let test = matches_time times own in
    has-ranks u times own t before at upto past low
    (before_is ∙ ap (λ n. count_before test (n / size * size)) e ∙ ap (λ s. count_before test (t / s * s)) f)
    (at_is ∙ ap (count_before test) e)
    (upto_is ∙ ap (λ n. count_before test (n + 1)) e)
    (past_is ∙ ap (λ n. count_before test (n / size * size + size)) e ∙ ap (λ s. count_before test (t / s * s + s)) f)

-- A reading matches if its period is selected and its time of day has a position.
pub step-with : (step : ClockStep) (times : TimesOfDay) (start : ℤ) (n t own : ℕ) (r : Bool) → t < day → periods_past step start (pos (n * day + t)) ≡ 0 → own ≡ time_at start
    → r ≡ has_position step times own t → r ≡ matches_step step times start (pos (n * day + t))
unfolding matches_step time_at
step-with step times start n t own r low past own_is has =
    let time : (n * day + t) % day ≡ t = omega arith in
    has ∙ ap (λ o. has_position step times o t) own_is ∙ ap (has_position step times (time_at start)) (sym time)
    ∙ sym (ap (λ b. b && has_position step times (time_at start) ((n * day + t) % day)) (eq-eqb (periods_past step start (pos (n * day + t))) 0 past))

-- ---- the next selected period
next-product : (a n : ℕ) → suc a * n ≡ a * n + n
next-product a n = omega arith

-- A number that comes r after a multiple, and fewer than n after it, is no multiple.
not-selected : (d n r j : ℕ) → 1 ≤ n → r ≡ d % n → 1 ≤ r → r + j < n → ¬ ((d + j) % n ≡ 0)
not-selected d n r j some is more less none =
    let whole : d ≡ d / n * n + r = omega (arith, div-add-mod' d n, mul_comm n (d / n), is) in
    omega (arith, (parts-of n (d / n) (r + j) (d + j) some less (omega (arith, whole))).remainder, none)

pub none-between : (step : ClockStep) (start : ℤ) (x q r : ℕ) → start ≤ℤ pos x → pos 0 ≤ℤ start → r ≡ periods_past step start (pos x) → 1 ≤ r → r < max step.interval 1
    → q ≡ x / size_of step.unit + (max step.interval 1 - r) → NoneSelected step start x (q * size_of step.unit)
none-between step start x q r from whole is some less q_is k low high none =
    let u = step.unit in
    let n = max step.interval 1 in
    let s = unsigned_abs start in
    let above = index-rises u s x (omega (arith, ints, from, whole)) in
    let later = index-rises u x k (omega arith) in
    let lower = below-index u q k high in
    let same : k / size_of u - s / size_of u ≡ (x / size_of u - s / size_of u) + (k / size_of u - x / size_of u) = omega (arith, above, later) in
    not-selected (x / size_of u - s / size_of u) n r (k / size_of u - x / size_of u) (omega arith) is some (omega (arith, lower, later, q_is, less)) (sym (ap (λ d. d % n) same) ∙ none)

-- The place of the period with the index q.
pub place-is : (u : ClockUnit) (q secs second d f : ℕ) → secs * 1_000_000_000 ≡ size_of u → second ≡ q * secs → d ≡ second / 86_400 → f ≡ second % 86_400 * 1_000_000_000
    → d * day + f ≡ q * size_of u
place-is u q secs second d f size at days rest =
    let whole : d * day + f ≡ second * 1_000_000_000 = omega (arith, days, rest) in
    whole ∙ ap (λ n. n * 1_000_000_000) at ∙ mul_assoc q secs 1_000_000_000 ∙ ap (λ n. q * n) size

pub before-place : (u : ClockUnit) (x q : ℕ) → x / size_of u < q → x < q * size_of u
before-place u x q h = elim (cases_lt x (q * size_of u)) as (λ _. x < q * size_of u) [
  | inl less ↦ less
  | inr most ↦ absurd (omega (arith, h, from-index u q x most))
]

-- The next selected period begins at a later place.
pub record IsPlace (step : ClockStep) (start : ℤ) (x q : ℕ) : Type 0 where
  pub none : NoneSelected step start x (q * size_of step.unit)
  pub past : x < q * size_of step.unit

pub next-place : (step : ClockStep) (start : ℤ) (x i n r q : ℕ) → start ≤ℤ pos x → pos 0 ≤ℤ start → i ≡ x / size_of step.unit → n ≡ max step.interval 1
    → r ≡ periods_past step start (pos x) → 1 ≤ r → q ≡ i + (n - r) → IsPlace step start x q
next-place step start x i n r q from whole at size past some is =
    let positive : zero < max step.interval 1 = omega arith in
    let less : r < max step.interval 1 = omega (arith, past, mod-lt (x / size_of step.unit - period_index step.unit start) positive) in
    record {
      none = none-between step start x q r from whole past some less (omega (arith, is, at, size));
      past = before-place step.unit x q (omega (arith, is, at, size, less));
    }

-- The periods of a day by the seconds of a period.
pub per-day-is : (u : ClockUnit) (secs : ℕ) → secs * 1_000_000_000 ≡ size_of u → 86_400 / secs ≡ day / size_of u
per-day-is unit.Hour secs e = let same : secs ≡ 3_600 = omega (arith, e) in ap (λ s. 86_400 / s) same
per-day-is unit.Minute secs e = let same : secs ≡ 60 = omega (arith, e) in ap (λ s. 86_400 / s) same
per-day-is unit.Second secs e = let same : secs ≡ 1 = omega (arith, e) in ap (λ s. 86_400 / s) same

-- ---- the search
pub step-off : (rule : DateTimeParts) (k : ℕ) → ¬ (periods_past rule.step rule.start (pos k) ≡ 0) → selects_reading rule k ≡ false
unfolding matches_step
step-off rule k off = false_from_ne_true _ (λ on.
    let both = and_parts (selects rule k) (matches_step rule.step rule.times rule.start (pos k)) on in
    off (eqb-true _ 0 (and_parts (periods_past rule.step rule.start (pos k) == 0) _ both.1).0))

pub day-off : (rule : DateTimeParts) (k : ℕ) → selects rule k ≡ false → selects_reading rule k ≡ false
day-off rule k off = and_left (selects rule k) (matches_step rule.step rule.times rule.start (pos k)) off

pub no-more : (rule : DateTimeParts) (m p e : ℕ) → NoneIn (selects_reading rule) m p → NoneIn (selects rule) p e → NoneIn (selects_reading rule) m e
no-more rule m p e none off = joined (selects_reading rule) m p e none (λ k low high. day-off rule k (off k low high))

pub found : (rule : DateTimeParts) (m p x : ℕ) → m ≤ p → NoneIn (selects_reading rule) m p → IsFirst (selects rule) p (last_date_time + 1) x
    → matches_step rule.step rule.times rule.start (pos x) ≡ true → IsFirst (selects_reading rule) m (last_date_time + 1) x
found rule m p x h none first on = record {
  not_before = omega (arith, first.not_before);
  below = first.below;
  passes = ap (λ b. b && matches_step rule.step rule.times rule.start (pos x)) first.passes ∙ on;
  none_before = no-more rule m p x none first.none_before;
}

-- No reading before a later place, after one that doesn't match.
pub none-to : (rule : DateTimeParts) (m p x e : ℕ) → NoneIn (selects_reading rule) m p → IsFirst (selects rule) p (last_date_time + 1) x
    → matches_step rule.step rule.times rule.start (pos x) ≡ false → NoneSelected rule.step rule.start x e → NoneIn (selects_reading rule) m e
none-to rule m p x e none first off later k low high = elim (cases_lt k x) as (λ _. selects_reading rule k ≡ false) [
  | inl less ↦ no-more rule m p x none first.none_before k low less
  | inr most ↦ elim (cases_lt x k) as (λ _. selects_reading rule k ≡ false) [
    | inl past ↦ step-off rule k (later k past high)
    | inr same ↦
        let e : k ≡ x = omega arith in
        false_from_ne_true _ (λ on. false≢true (sym off ∙ ap (λ n. matches_step rule.step rule.times rule.start (pos n)) (sym e)
        ∙ (and_parts (selects rule k) (matches_step rule.step rule.times rule.start (pos k)) on).1))
  ]
]

-- ---- times that never meet the selected periods
-- A multiple of g more leaves the remainder.
same-rest : (g x y a b : ℕ) → x + a * g ≡ y + b * g → x % g ≡ y % g
same-rest g x y a b e = sym (add-mul-mod_self_right x a g) ∙ ap (λ n. n % g) e ∙ add-mul-mod_self_right y b g

multiple : (n g : ℕ) → n % g ≡ 0 → n ≡ n / g * g
multiple n g e = omega (arith, div-add-mod' n g, mul_comm g (n / g), e)

-- A multiple of a multiple of g is a multiple of g.
twice-multiple : (w n g : ℕ) → n % g ≡ 0 → w * n ≡ w * (n / g) * g
twice-multiple w n g e = ap (λ m. w * m) (multiple n g e) ∙ sym (mul_assoc w (n / g) g)

-- A selected period of a day has the remainder of the period of the start.
rest-is : (n g d k s days t : ℕ) → n % g ≡ 0 → d % g ≡ 0 → (k - s) % n ≡ 0 → s ≤ k → k ≡ days * d + t → t % g ≡ s % g
rest-is n g d k s days t divides per_day on most is =
    let w = (k - s) / n in
    let whole : k - s ≡ w * n = multiple (k - s) n on in
    let from-start = twice-multiple w n g divides in
    let in-days = twice-multiple days d g per_day in
    same-rest g t s (days * (d / g)) (w * (n / g)) (omega (arith, whole, from-start, in-days, is, most))

index-parts : (u : ClockUnit) (k : ℕ) → k / size_of u ≡ k / day * (day / size_of u) + k % day / size_of u
index-parts unit.Hour k = omega arith
index-parts unit.Minute k = omega arith
index-parts unit.Second k = omega arith

pub never-meets : (step : ClockStep) (times : TimesOfDay) (start : ℤ) (g : ℕ) → pos 0 ≤ℤ start → Divides step g
    → NoneIn (λ t. matches_time times (time_at start) t && can_match step times start g t) 0 day → NeverMeets step times start
unfolding matches_step time_at
never-meets step times start g whole h none k from on = false_from_ne_true _ (λ yes.
    let u = step.unit in
    let both = and_parts (periods_past step start (pos k) == 0) (has_position step times (time_at start) (k % day)) yes in
    let past : periods_past step start (pos k) ≡ 0 = eqb-true _ 0 both.0 in
    let most : unsigned_abs start / size_of u ≤ k / size_of u = index-rises u (unsigned_abs start) k (omega (arith, ints, from, whole)) in
    let rest : k % day / size_of u % g ≡ period_index u start % g =
    rest-is (max step.interval 1) g (day / size_of u) (k / size_of u) (period_index u start) (k / day) (k % day / size_of u) h.interval h.per_day past most (index-parts u k) in
    let can : can_match step times start g (k % day) ≡ true = ap (λ b. b && has_position step times (time_at start) (k % day)) (eq-eqb _ _ rest) ∙ both.1 in
    false≢true (sym (none (k % day) (omega arith) (omega arith)) ∙ ap (λ b. b && can_match step times start g (k % day)) on ∙ can))

-- ---- the end of a search by the days after which all repeats
index-later : (u : ClockUnit) (k days : ℕ) → (k + days * day) / size_of u ≡ k / size_of u + days * (day / size_of u)
index-later unit.Hour k days = omega arith
index-later unit.Minute k days = omega arith
index-later unit.Second k days = omega arith

step-repeats : (rule : DateTimeParts) (k days : ℕ) → pos 0 ≤ℤ rule.start → rule.start ≤ℤ pos k → Repeats rule.step days
    → matches_step rule.step rule.times rule.start (pos (k + days * day)) ≡ matches_step rule.step rule.times rule.start (pos k)
unfolding matches_step time_at
step-repeats rule k days whole from h =
    let step = rule.step in
    let u = step.unit in
    let n = max step.interval 1 in
    let s = period_index u rule.start in
    let most : s ≤ k / size_of u = index-rises u (unsigned_abs rule.start) k (omega (arith, ints, from, whole)) in
    let later = index-later u k days in
    let more = multiple (days * (day / size_of u)) n h.interval in
    let sum : (k + days * day) / size_of u - s ≡ (k / size_of u - s) + days * (day / size_of u) / n * n = omega (arith, later, most, more) in
    let past : periods_past step rule.start (pos (k + days * day)) ≡ periods_past step rule.start (pos k) =
    ap (λ d. d % n) sum ∙ add-mul-mod_self_right (k / size_of u - s) (days * (day / size_of u) / n) n in
    let time : (k + days * day) % day ≡ k % day = omega arith in
    ap (λ p. (p == 0) && has_position step rule.times (time_at rule.start) ((k + days * day) % day)) past
    ∙ ap (λ t. (periods_past step rule.start (pos k) == 0) && has_position step rule.times (time_at rule.start) t) time

-- The days of a rule are daily.
pub record IsDaily (rule : DateTimeParts) : Type 0 where
  pub frequency : rule.pattern.frequency ≡ Daily
  pub interval : rule.pattern.interval ≤ 1
  pub positions : rule.pattern.set_positions ≡ []

no-items : (xs : List ℤ) → (length xs == 0) ≡ true → xs ≡ []
no-items [] e = refl
no-items (x ∷ xs) e = absurd (omega (arith, eqb-true (length (x ∷ xs)) 0 e))

daily-is : (f : Frequency) → is_daily f ≡ true → f ≡ Daily
daily-is Daily e = refl
daily-is Weekly e = absurd (false≢true e)
daily-is Monthly e = absurd (false≢true e)
daily-is Yearly e = absurd (false≢true e)

pub every-day : (rule : DateTimeParts) → has_every_day rule ≡ true → IsDaily rule
every-day rule e =
    let both = and_parts (is_daily rule.pattern.frequency) (nat_le rule.pattern.interval 1 && (length rule.pattern.set_positions == 0)) e in
    let rest = and_parts (nat_le rule.pattern.interval 1) (length rule.pattern.set_positions == 0) both.1 in
    record {
      frequency = daily-is rule.pattern.frequency both.0;
      interval = leb-true rule.pattern.interval 1 rest.0;
      positions = no-items rule.pattern.set_positions rest.1;
    }

no-past : (n : ℕ) → n ≤ 1 → (d : ℕ) → d % max n 1 ≡ 0
no-past n h d = let one : max n 1 ≡ 1 = omega arith in ap (λ m. d % m) one ∙ omega arith

day-repeats : (rule : DateTimeParts) (n j : ℕ) → IsDaily rule → date_at rule.start ≤ n → date.is_occurrence (day_rule rule) (n + 146_097 * j) ≡ true
    → date.is_occurrence (day_rule rule) n ≡ true
unfolding date.periods_past date.matches_positions
day-repeats rule n j h low on =
    let r = day_rule rule in
    let is = IsOn-is_occurrence r (n + 146_097 * j) on in
    is_occurrence-IsOn r n (record {
      start = low;
      by = matches_until-earlier r.until n (n + 146_097 * j) (omega arith) is.by;
      turn = no-past rule.pattern.interval h.interval _;
      passes = sym (passes-periods r n j) ∙ is.passes;
      positions = refl;
    })

all-positions : (rule : DateTimeParts) (k : ℕ) → rule.pattern.set_positions ≡ [] → reading.matches_positions rule (pos k) ≡ true
unfolding reading.matches_positions
all-positions rule k e = ap (λ ps. date.allows (λ i. date.is_nth i (count_before (reading.passes_with rule (pos k)) (k + 1)) (reading.count_from (reading.passes_with rule (pos k)) k)) ps) e

pub repeats : (rule : DateTimeParts) (k days : ℕ) → IsDaily rule → Repeats rule.step days → pos 0 ≤ℤ rule.start → rule.start ≤ℤ pos k
    → selects_reading rule (k + days * day) ≡ true → selects_reading rule k ≡ true
unfolding date_at
repeats rule k days daily h whole from on =
    let p = k + days * day in
    let both = and_parts (selects rule p) (matches_step rule.step rule.times rule.start (pos p)) on in
    let first = and_parts (date.is_occurrence (day_rule rule) (p / day)) (matches_time rule.times (time_at rule.start) (p % day) && reading.matches_positions rule (pos p)) both.0 in
    let second = and_parts (matches_time rule.times (time_at rule.start) (p % day)) (reading.matches_positions rule (pos p)) first.1 in
    let j = days / 146_097 in
    let quotient : p / day ≡ k / day + 146_097 * j = omega (arith, h.years) in
    let time : p % day ≡ k % day = omega arith in
    let low : date_at rule.start ≤ k / day = omega (arith, ints, from, whole) in
    let is_day = day-repeats rule (k / day) j daily low (ap (date.is_occurrence (day_rule rule)) (sym quotient) ∙ first.0) in
    let is_time : matches_time rule.times (time_at rule.start) (k % day) ≡ true = ap (matches_time rule.times (time_at rule.start)) (sym time) ∙ second.0 in
    let is_selected : selects rule k ≡ true =
    ap (λ b. b && (matches_time rule.times (time_at rule.start) (k % day) && reading.matches_positions rule (pos k))) is_day
    ∙ ap (λ b. b && reading.matches_positions rule (pos k)) is_time ∙ all-positions rule k daily.positions in
    ap (λ b. b && matches_step rule.step rule.times rule.start (pos k)) is_selected ∙ sym (step-repeats rule k days whole from h) ∙ both.1

-- If nothing is selected in a time after which all repeats, nothing is selected later.
none-later : (test : ℕ → Bool) (m p fuel k : ℕ) → 1 ≤ p → ((i : ℕ) → m ≤ i → test (i + p) ≡ true → test i ≡ true) → NoneIn test m (m + p) → m ≤ k → k < m + fuel → test k ≡ false
none-later test m p zero k some back none low high = absurd (omega (arith, low, high))
none-later test m p (suc fuel) k some back none low high = elim (cases_lt k (m + p)) as (λ _. test k ≡ false) [
  | inl less ↦ none k low less
  | inr most ↦
      let same : k - p + p ≡ k = omega arith in
      false_from_ne_true _ (λ on. false≢true (sym (none-later test m p fuel (k - p) some back none (omega arith) (omega arith)) ∙ back (k - p) (omega arith) (ap test same ∙ on)))
]

pub closes : (rule : DateTimeParts) (n first days last : ℕ) → IsDaily rule → Repeats rule.step days → pos 0 ≤ℤ rule.start → rule.start ≤ℤ pos (n * day + first) → first ≤ day → last ≡ n + days
    → Closes rule (n * day + first) last
closes rule n first days last daily h whole from low is none k least high =
    let m = n * day + first in
    none-later (selects_reading rule) m (days * day) (last_date_time + 1) k (omega (arith, h.some)) (λ i at on. repeats rule i days daily h whole (omega (arith, ints, from, at)) on)
    (λ i at less. none i at (omega (arith, is, low, less))) least (omega (arith, high))

pub closes-never : (rule : DateTimeParts) (m last : ℕ) → NeverMeets rule.step rule.times rule.start → rule.start ≤ℤ pos m → Closes rule m last
closes-never rule m last never from none k low high = false_from_ne_true _ (λ on.
    let both = and_parts (selects rule k) (matches_step rule.step rule.times rule.start (pos k)) on in
    let first = and_parts (date.is_occurrence (day_rule rule) (k / day)) (matches_time rule.times (time_at rule.start) (k % day) && reading.matches_positions rule (pos k)) both.0 in
    let second = and_parts (matches_time rule.times (time_at rule.start) (k % day)) (reading.matches_positions rule (pos k)) first.1 in
    false≢true (sym (never k (omega (arith, ints, from, low)) second.0) ∙ both.1))

pub closes-range : (rule : DateTimeParts) (m last : ℕ) → last ≡ last_day → Closes rule m last
closes-range rule m last e none k low high = none k low (omega (arith, e, high))

-- ---- the times of a list that can meet the periods
-- Where no time passes, no time passes and can match.
pub on-times : (times : TimesOfDay) (own other : ℕ) (can : ℕ → Bool) (m e : ℕ) → other ≡ own → NoneIn (matches_time times other) m e → NoneIn (λ t. matches_time times own t && can t) m e
on-times times own other can m e same none k low high = and_left (matches_time times own k) (can k) (ap (λ o. matches_time times o k) (sym same) ∙ none k low high)
