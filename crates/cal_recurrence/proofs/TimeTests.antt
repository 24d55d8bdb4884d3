-- The tests of the minutes, seconds and times of a day, and of readings, by their parts.
use Rattle.std.proofs.Common.{◌≡◌, refl, ℕ, zero, suc, ◌+◌, ◌-◌, ◌*◌, ◌/◌, ◌%◌, ◌<◌, ◌≤◌, sym, ap, ◌∙◌, arith, Bool, true, false, List, inl, inr}
use Rattle.std.specs.Prelude.{◌&&◌, ◌==◌}
use Rattle.std.proofs.lemmas.Bool.{and_parts, cases_Bool, cases_lt, eq-eqb, eqb-true, false_from_ne_true, false≢true}
use Rattle.std.proofs.lemmas.Bool.Decides.{nat_tests}
use Rattle.cal_time.specs.IsoWeekDate.{count_before}
use Rattle.cal_time.specs.SignedDuration.{day, second}
use Rattle.cal_time.specs.Time.{hour_of, minute_of, second_of, nanosecond_of}
use Rattle.cal_schedule.specs.Ranks.{count-no, count-none, count-yes}
use Rattle.cal_recurrence.specs.TimesOfDay.{allows_or_start, matches_time}
use Rattle.cal_recurrence.specs.TimeSearch.{NoneIn, IsFirst, matches_minute, matches_second}
use Rattle.cal_recurrence.specs.declared.times_of_day.TimesOfDay.{TimesOfDay}
use Rattle.cal_recurrence.proofs.TimeCounts.{block-off, block-on, blocks, count-stays}
use Rattle.cal_recurrence.proofs.TimeSteps.{Splits}

pub by-minute : (times : TimesOfDay) (own s : ℕ) (values : List ℕ) → s ≡ second_of own → values ≡ times.seconds
    → Splits (matches_second times own) (matches_minute times own) (allows_or_start s values) 60
by-minute times own s values e f = record {
  some = omega arith;
  at = λ n. rw (e, f) refl;
}

regroup : (a b c d : Bool) → (a && (b && (c && d))) ≡ (((a && b) && c) && d)
regroup true true c d = refl
regroup true false c d = refl
regroup false b c d = refl

-- A time of day passes if its second of the day does, and it has the nanoseconds of the start.
pub by-second : (times : TimesOfDay) (own t : ℕ) → t < day → matches_time times own t ≡ (matches_second times own (t / second) && (nanosecond_of t == nanosecond_of own))
unfolding matches_time
by-second times own t below =
    let hour_is : hour_of t ≡ t / second / 60 / 60 = omega arith in
    let minute_is : minute_of t ≡ t / second / 60 % 60 = omega arith in
    rw (hour_is, minute_is) (regroup (allows_or_start (hour_of own) times.hours (t / second / 60 / 60)) (allows_or_start (minute_of own) times.minutes (t / second / 60 % 60))
    (allows_or_start (second_of own) times.seconds (second_of t)) (nanosecond_of t == nanosecond_of own))

time-off : (times : TimesOfDay) (own t : ℕ) → t < day → ¬ ((matches_second times own (t / second) ≡ true) × (nanosecond_of t ≡ nanosecond_of own)) → matches_time times own t ≡ false
time-off times own t below off =
    false_from_ne_true _ (λ on.
    let both = and_parts _ _ (sym (by-second times own t below) ∙ on) in
    off (both.0, (let e = both.1 in grind (arith, nat_tests))))

-- The first second with a passing time gives the first time.
pub time-found : (times : TimesOfDay) (own first start n t : ℕ) → nanosecond_of own < second → start ≡ (first + 999_999_999 - nanosecond_of own) / second
    → t ≡ n * 1_000_000_000 + nanosecond_of own → IsFirst (matches_second times own) start 86_400 n → IsFirst (matches_time times own) first day t
time-found times own first start n t small from is found =
    let quotient : t / second ≡ n = omega arith in
    let remainder : nanosecond_of t ≡ nanosecond_of own = omega arith in
    let same : (nanosecond_of t == nanosecond_of own) ≡ true = grind (arith, nat_tests) in
    record {
      not_before = omega (arith, found.not_before);
      below = omega (arith, found.below);
      passes = by-second times own t (omega (arith, found.below)) ∙ ap (λ m. matches_second times own m && (nanosecond_of t == nanosecond_of own)) quotient
          ∙ ap (λ b. b && (nanosecond_of t == nanosecond_of own)) found.passes ∙ same;
      none_before = λ k low high. time-off times own k (omega (arith, found.below)) (λ on.
          false≢true (sym (found.none_before (k / second) (omega (arith, on.1)) (omega (arith, on.1))) ∙ on.0));
    }

pub no-time : (times : TimesOfDay) (own first start : ℕ) → nanosecond_of own < second → start ≡ (first + 999_999_999 - nanosecond_of own) / second
    → NoneIn (matches_second times own) start 86_400 → NoneIn (matches_time times own) first day
no-time times own first start small from none = λ k low high.
    time-off times own k high (λ on. false≢true (sym (none (k / second) (omega (arith, on.1)) (omega arith)) ∙ on.0))

-- ---- the count of the times
only : ℕ → ℕ → Bool
only own f = f == own

only-off : (own k : ℕ) → ¬ (k ≡ own) → only own k ≡ false
unfolding only
only-off own k h = false_from_ne_true _ (λ e. h (eqb-true k own e))

only-on : (own : ℕ) → only own own ≡ true
unfolding only
only-on own = eq-eqb own own refl

count-only-low : (own b : ℕ) → b ≤ own → count_before (only own) b ≡ 0
count-only-low own b h = count-stays (only own) 0 b (omega arith) (λ k low high. only-off own k (λ e. omega arith)) ∙ count-none (only own)

count-only-high : (own b : ℕ) → own < b → count_before (only own) b ≡ 1
count-only-high own b h =
    omega (
      arith,
      count-stays (only own) (suc own) b (omega arith) (λ k low high. only-off own k (λ e. omega arith)),
      count-yes (only own) own (only-on own),
      count-only-low own own (omega arith),
    )

count-agree : (s t : ℕ → Bool) (n : ℕ) → ((k : ℕ) → k < n → s k ≡ t k) → count_before s n ≡ count_before t n
count-agree s t zero same = omega (arith, count-none s, count-none t)
count-agree s t (suc n) same =
    let before = count-agree s t n (λ k less. same k (omega arith)) in
    elim (cases_Bool (t n)) as (λ _. count_before s (suc n) ≡ count_before t (suc n)) [
      | inl hit ↦ omega (arith, before, count-yes t n hit, count-yes s n (same n (omega arith) ∙ hit))
      | inr miss ↦ omega (arith, before, count-no t n miss, count-no s n (same n (omega arith) ∙ miss))
    ]

-- Each second that passes has one time.
abbrev timed : TimesOfDay → ℕ → ℕ → Bool
timed times own t = matches_second times own (t / second) && only (nanosecond_of own) (t % second)

timed-splits : (times : TimesOfDay) (own : ℕ) → Splits (timed times own) (matches_second times own) (only (nanosecond_of own)) second
timed-splits times own = record { some = omega arith; at = λ n. refl }

is-timed : (times : TimesOfDay) (own t : ℕ) → t < day → matches_time times own t ≡ timed times own t
unfolding only
is-timed times own t below = by-second times own t below

pub count-times : (times : TimesOfDay) (own end q : ℕ) → nanosecond_of own < second → end ≤ day → q ≡ (end + 999_999_999 - nanosecond_of own) / second
    → count_before (matches_second times own) q ≡ count_before (matches_time times own) end
count-times times own end q small most from =
    let a = end / second in
    let b = end % second in
    let test = timed times own in
    let seconds = matches_second times own in
    let one = only (nanosecond_of own) in
    let splits = timed-splits times own in
    let parts : end ≡ a * second + b = omega arith in
    let agree : count_before (matches_time times own) end ≡ count_before test (a * second + b) =
    count-agree (matches_time times own) test end (λ k less. is-timed times own k (omega arith)) ∙ ap (count_before test) parts in
    let all : count_before seconds a * count_before one second ≡ count_before seconds a =
    ap (λ c. count_before seconds a * c) (count-only-high (nanosecond_of own) second small) ∙ (omega arith) in
    let whole = blocks test seconds one second a splits in
    elim (cases_lt (nanosecond_of own) b) as (λ _. count_before seconds q ≡ count_before (matches_time times own) end) [
      | inl less ↦
          let next : q ≡ suc a = omega arith in
          elim (cases_Bool (seconds a)) as (λ _. count_before seconds q ≡ count_before (matches_time times own) end) [
            | inl hit ↦
                omega (arith, ap (count_before seconds) next, count-yes seconds a hit, agree, block-on test seconds one second a b splits hit (omega arith), all, whole, count-only-high (nanosecond_of own) b less)
            | inr miss ↦ omega (arith, ap (count_before seconds) next, count-no seconds a miss, agree, block-off test seconds one second a b splits miss (omega arith), all, whole)
          ]
      | inr most ↦
          let same : q ≡ a = omega arith in
          elim (cases_Bool (seconds a)) as (λ _. count_before seconds q ≡ count_before (matches_time times own) end) [
            | inl hit ↦
                omega (arith, ap (count_before seconds) same, agree, block-on test seconds one second a b splits hit (omega arith), all, whole, count-only-low (nanosecond_of own) b most)
            | inr miss ↦ omega (arith, ap (count_before seconds) same, agree, block-off test seconds one second a b splits miss (omega arith), all, whole)
          ]
    ]

-- The count of numbers by their quotients and remainders.
pub count-parts : (test outer inner : ℕ → Bool) (size a b n x y z : ℕ) → Splits test outer inner size → outer a ≡ true → n ≡ a * size + b → b ≤ size
    → x ≡ count_before outer a → y ≡ count_before inner size → z ≡ count_before inner b → x * y + z ≡ count_before test n
count-parts test outer inner size a b n x y z splits on at below xs ys zs =
    omega (
      arith,
      ap (λ c. c * y) xs,
      ap (λ c. count_before outer a * c) ys,
      zs,
      blocks test outer inner size a splits,
      block-on test outer inner size a b splits on below,
      ap (count_before test) at,
    )

pub count-whole : (test outer inner : ℕ → Bool) (size a b n x y : ℕ) → Splits test outer inner size → outer a ≡ false → n ≡ a * size + b → b ≤ size
    → x ≡ count_before outer a → y ≡ count_before inner size → x * y ≡ count_before test n
count-whole test outer inner size a b n x y splits off at below xs ys =
    omega (
      arith,
      ap (λ c. c * y) xs,
      ap (λ c. count_before outer a * c) ys,
      blocks test outer inner size a splits,
      block-off test outer inner size a b splits off below,
      ap (count_before test) at,
    )

pub by-hour : (times : TimesOfDay) (own h m : ℕ) (hours minutes : List ℕ) → h ≡ hour_of own → hours ≡ times.hours → m ≡ minute_of own → minutes ≡ times.minutes
    → Splits (matches_minute times own) (allows_or_start h hours) (allows_or_start m minutes) 60
by-hour times own h m hours minutes e f g i = record {
  some = omega arith;
  at = λ n. rw (e, f, g, i) refl;
}
