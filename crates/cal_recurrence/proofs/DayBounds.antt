-- How many readings a rule can have, and its last reading after others.
use Rattle.std.proofs.Common.{◌≡◌, refl, ℕ, zero, suc, ◌+◌, ◌-◌, ◌*◌, ◌/◌, ◌%◌, ◌<◌, ◌≤◌, ap, ◌∙◌, sym, arith, Bool, true, false, inl, inr, List, [], ◌∷◌, filter, length, map, slice_get, take, Option, Some, None, ℤ, pos, ◌≤ℤ◌}
use Rattle.std.specs.Prelude.{◌&&◌, int_le, is_some, unsigned_abs}
use Rattle.std.specs.List.{last_or}
use Rattle.std.proofs.lemmas.Int.{ints}
use Rattle.std.proofs.lemmas.Bool.{and_parts, cases_Bool, cases_lt, false≢true}
use Rattle.std.proofs.lemmas.List.{length-map, take_all}
use Rattle.cal_time.specs.Date.{last_day}
use Rattle.cal_time.specs.IsoWeekDate.{count_before}
use Rattle.cal_time.specs.Occurrences.{days_from}
use Rattle.cal_time.specs.SignedDuration.{day}
use Rattle.cal_datetime.specs.DateTime.{last_date_time, time_at, IsDateTime}
use Rattle.cal_schedule.specs.Ranks.{count-no, count-none, count-yes, length-from}
use Rattle.cal_schedule.specs.Rule as date
use Rattle.cal_recurrence.specs.DateTimeRule.{DateTimeParts, day_rule, is_not_after, occurrences_after, occurrences_from}
use Rattle.cal_recurrence.specs.TimeSearch.{selects, selects_reading}
use Rattle.cal_recurrence.specs.TimesOfDay.{matches_time, times_per_day}
use Rattle.cal_recurrence.proofs.ClockSearches.{counted-rises}
use Rattle.cal_recurrence.proofs.RuleOccurrences.{occurrence-is, test, true-le}

abbrev AllowsTimes : (ℕ → Bool) → (ℕ → Bool) → Type 0
AllowsTimes test times = (k : ℕ) → test k ≡ true → times (k % day) ≡ true

-- the time of day of a reading of day q
time-in : (q j : ℕ) → j < day → (q * day + j) % day ≡ j
time-in q j h = omega (arith, h)

within-day : (test times : ℕ → Bool) (q j : ℕ) → AllowsTimes test times → j ≤ day
    → count_before test (q * day + j) ≤ count_before test (q * day) + count_before times j
within-day test times q zero allows h =
    let same : q * day + zero ≡ q * day = omega arith in
    omega (arith, ap (count_before test) same)
within-day test times q (suc j) allows h =
    let n = q * day + j in
    let next : q * day + suc j ≡ suc n = omega arith in
    let before = within-day test times q j allows (omega (arith, h)) in
    let later = counted-rises times j (suc j) (omega arith) in
    elim (cases_Bool (test n)) as (λ _. count_before test (q * day + suc j) ≤ count_before test (q * day) + count_before times (suc j)) [
      | inl hit ↦
          let on : times j ≡ true = ap times (sym (time-in q j (omega (arith, h)))) ∙ allows n hit in
          omega (arith, ap (count_before test) next, count-yes test n hit, count-yes times j on, before)
      | inr miss ↦ omega (arith, ap (count_before test) next, count-no test n miss, later, before)
    ]

readings-of : (test times : ℕ → Bool) (q : ℕ) → AllowsTimes test times → count_before test (q * day) ≤ q * count_before times day
readings-of test times zero allows = omega (arith, count-none test)
readings-of test times (suc q) allows =
    let most = count_before times day in
    let next : suc q * day ≡ q * day + day = omega arith in
    let more : suc q * most ≡ q * most + most = omega arith in
    omega (arith, ap (count_before test) next, within-day test times q day allows (omega arith), readings-of test times q allows, more)

-- ---- the readings of a rule
time-passes : (rule : DateTimeParts) (k : ℕ) → test rule k ≡ true → matches_time rule.times (time_at rule.start) (k % day) ≡ true
time-passes rule k on =
    let first = and_parts (int_le rule.start (pos k)) (is_not_after rule.until (pos k) && selects_reading rule k) (sym (occurrence-is rule k) ∙ on) in
    let second = and_parts (is_not_after rule.until (pos k)) (selects_reading rule k) first.1 in
    let third = and_parts (selects rule k) _ second.1 in
    let fourth = and_parts (date.is_occurrence (day_rule rule) (k / day)) _ third.0 in
    (and_parts (matches_time rule.times (time_at rule.start) (k % day)) _ fourth.1).0

-- A rule has at most as many readings as the days of the range have times of day that pass.
pub few_readings : (rule : DateTimeParts) (m : ℕ) → length (occurrences_from rule m) ≤ (last_day + 1) * times_per_day rule.times (time_at rule.start)
few_readings rule m =
    let count = last_date_time + 1 - m in
    let times = times_per_day rule.times (time_at rule.start) in
    let listed = length-map (filter (test rule) (days_from m count)) pos in
    let sum = length-from (test rule) m count in
    let days : (last_day + 1) * day ≡ last_date_time + 1 = omega arith in
    let all = readings-of (test rule) (matches_time rule.times (time_at rule.start)) (last_day + 1) (time-passes rule) in
    elim (cases_lt m (last_date_time + 1)) as (λ _. length (occurrences_from rule m) ≤ (last_day + 1) * times) [
      | inl inside ↦
          let end : m + count ≡ last_date_time + 1 = omega (arith, inside) in
          omega (arith, listed, sum, ap (count_before (test rule)) end, ap (count_before (test rule)) days, all)
      | inr past ↦
          let none : count ≡ 0 = omega (arith, past) in
          let same : m + count ≡ m = omega (arith, none) in
          omega (arith, listed, sum, ap (count_before (test rule)) same)
    ]

-- ---- readings that are passed over
-- The last of some items doesn't depend on what stands for it without items.
one-last : (o p : Option ℤ) (x : ℤ) (zs : List ℤ) → Some x ≡ slice_get zs 0 → last_or o zs ≡ last_or p zs
one-last o p x [] some = absurd (cc)
one-last o p x (z ∷ zs) some = refl

-- The last of the numbers that pass is among the later ones, if there is one.
later-last : (on : ℕ → Bool) (skipped n count : ℕ) (o p : Option ℤ) (x : ℤ) → Some x ≡ slice_get (map pos (filter on (days_from (n + skipped) count))) 0
    → last_or o (map pos (filter on (days_from n (skipped + count)))) ≡ last_or p (map pos (filter on (days_from (n + skipped) count)))
unfolding days_from
later-last on zero n count o p x some =
    let same : n + zero ≡ n = omega arith in
    let sum : zero + count ≡ count = omega arith in
    ap (λ k. last_or o (map pos (filter on (days_from n k)))) sum ∙ ap (λ m. last_or o (map pos (filter on (days_from m count)))) (sym same)
    ∙ one-last o p x (map pos (filter on (days_from (n + zero) count))) some
later-last on (suc skipped) n count o p x some =
    let next : n + suc skipped ≡ n + 1 + skipped = omega arith in
    let sum : suc skipped + count ≡ suc (skipped + count) = omega arith in
    let listed = λ (k : ℕ). map pos (filter on (days_from k count)) in
    let later : Some x ≡ slice_get (listed (n + 1 + skipped)) 0 = some ∙ ap (λ k. slice_get (listed k) 0) next in
    let rest = λ (q : Option ℤ). later-last on skipped (n + 1) count q p x later ∙ ap (λ k. last_or p (listed k)) (sym next) in
    ap (λ k. last_or o (map pos (filter on (days_from n k)))) sum ∙ by-test (on n) refl rest
  where
    by-test : (b : Bool) → on n ≡ b
        → ((q : Option ℤ) → last_or q (map pos (filter on (days_from (n + 1) (skipped + count)))) ≡ last_or p (map pos (filter on (days_from (n + suc skipped) count))))
        → last_or o (map pos (filter on (n ∷ days_from (n + 1) (skipped + count)))) ≡ last_or p (map pos (filter on (days_from (n + suc skipped) count)))
    by-test true e rest = rw e (rest (Some (pos n)))
    by-test false e rest = rw e (rest o)

-- A number that a rule's readings don't exceed.
abbrev pub Bounds : DateTimeParts → ℕ → Type 0
Bounds rule most = (n : ℕ) → length (occurrences_from rule n) ≤ most

last_stays : (rule : DateTimeParts) (most left : ℕ) (o p : Option ℤ) (y z x : ℤ) → Bounds rule most → most ≤ left → pos 0 ≤ℤ y → y ≤ℤ z → z ≤ℤ pos last_date_time
    → Some x ≡ slice_get (occurrences_after rule z) 0
    → last_or p (take left (occurrences_after rule z)) ≡ last_or o (take left (occurrences_after rule y))
last_stays rule most left o p y z x bounds enough low order high some =
    let m = unsigned_abs y + 1 in
    let n = unsigned_abs z + 1 in
    let skipped = n - m in
    let count = last_date_time + 1 - n in
    let there : m + skipped ≡ n = omega (arith, ints, low, order) in
    let whole : last_date_time + 1 - m ≡ skipped + count = omega (arith, ints, low, order, high) in
    let all = λ (k : ℕ). take_all left (occurrences_from rule k) (omega (arith, bounds k, enough)) in
    let listed = λ (k : ℕ). map pos (filter (test rule) (days_from k count)) in
    let later : Some x ≡ slice_get (listed (m + skipped)) 0 = some ∙ ap (λ k. slice_get (listed k) 0) (sym there) in
    ap (last_or p) (all n) ∙ ap (λ k. last_or p (listed k)) (sym there) ∙ sym (later-last (test rule) skipped m count o p x later)
    ∙ ap (λ k. last_or o (map pos (filter (test rule) (days_from m k)))) (sym whole) ∙ ap (last_or o) (sym (all m))

-- If a rule has a reading after z, its last reading after z is its last one after an earlier reading.
pub last_of_some : (rule : DateTimeParts) (most left : ℕ) (o p : Option ℤ) (y z : ℤ) → Bounds rule most → most ≤ left → IsDateTime y → IsDateTime z → y ≤ℤ z
    → is_some (slice_get (occurrences_after rule z) 0) ≡ true
    → last_or p (take left (occurrences_after rule z)) ≡ last_or o (take left (occurrences_after rule y))
last_of_some rule most left o p y z bounds enough first second order some = by-first (slice_get (occurrences_after rule z) 0) refl some
  where
    by-first : (r : Option ℤ) → r ≡ slice_get (occurrences_after rule z) 0 → is_some r ≡ true
        → last_or p (take left (occurrences_after rule z)) ≡ last_or o (take left (occurrences_after rule y))
    by-first None is on = absurd (false≢true on)
    by-first (Some x) is on = last_stays rule most left o p y z x bounds enough first.not_before order second.not_after is

pub not_before : (y z : ℤ) → int_le z y ≡ false → y ≤ℤ z
not_before y z e = let no : ¬ (z ≤ℤ y) = λ h. false≢true (sym e ∙ true-le z y h) in omega (arith, ints, no)
