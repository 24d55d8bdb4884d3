-- A set whose rule ends earlier has the same readings up to this end, and a search that finds one of
-- them has found it for the whole set.
use Rattle.std.proofs.Common.{◌≡◌, refl, sym, ap, ◌∙◌, arith, ℕ, zero, suc, ◌+◌, ◌-◌, ◌≤◌, Bool, true, false, ◌&&◌, not, List, [], ◌∷◌, filter, map, slice_get, take, Option, Some, None, ℤ, pos, ◌+ℤ◌, ◌≤ℤ◌, ◌<ℤ◌, ◌⊎◌, inl, inr}
use Rattle.std.specs.Prelude.{◌||◌, int_le, unsigned_abs, option_map, MatchOption}
use Rattle.std.specs.List.{last_or}
use Rattle.std.proofs.lemmas.Bool.{and_parts, false≢true}
use Rattle.std.proofs.lemmas.Bool.Decides.{nat_tests}
use Rattle.std.proofs.lemmas.Int.{ints}
use Rattle.cal_time.specs.Occurrences.{days_from}
use Rattle.cal_datetime.specs.DateTime.{date_at, last_date_time, IsDateTime}
use Rattle.cal_datetime.specs.OffsetDateTime.{LocalAndOffset, instant}
use Rattle.cal_schedule.specs.Rule as days
use Rattle.cal_schedule.specs.Pattern.{rule_of}
use Rattle.cal_schedule.specs.declared.rule.pattern.Pattern.{Pattern}
use Rattle.cal_recurrence.specs.CountedSet.{ascend_from, past_end, unread, whole_set, whole_zoned_set}
use Rattle.cal_recurrence.specs.DateTimeRule.{is_not_after, is_occurrence, matches_positions, readings_from, DateTimeParts}
use Rattle.cal_recurrence.specs.DateTimeSet.{is_in_set, is_listed}
use Rattle.cal_recurrence.specs.ZonedSet.{reach, IsNextAfter, Occurs}
use Rattle.cal_recurrence.specs.declared.date_time_set.DateTimeSet.{DateTimeSet}
use Rattle.cal_recurrence.specs.declared.zoned_set.ZonedSet.{ZonedSet}
use Rattle.cal_recurrence.proofs.DateTimeSets.{found, is-found, IsFound}
use Rattle.cal_recurrence.proofs.RuleOccurrences.{le-true, true-le}
use Rattle.cal_recurrence.proofs.ZonedSearch.{compared, near}

-- ---- readings that ascend
-- A reading up to the end isn't after the last of the readings that are left.
not-after : (end : Option ℤ) (left : List ℤ) (z : ℤ) → ascend_from end left ≡ true → is_not_after end z ≡ true → is_not_after (last_or end left) z ≡ true
not-after end [] z order by = by
not-after None (x ∷ xs) z order by = absurd (false≢true order)
not-after (Some y) (x ∷ xs) z order by =
    let both = and_parts (int_le y x) (ascend_from (Some x) xs) order in
    let first = le-true y x both.0 in
    let second = le-true z y by in
    not-after (Some x) xs z both.1 (true-le z x (omega (arith, ints, first, second)))

ascend-at : (test : ℕ → Bool) (m n count : ℕ) (b : Bool) → test n ≡ b → m ≤ n → ((k : ℕ) → k ≤ n + 1 → ascend_from (Some (pos k)) (map pos (filter test (days_from (n + 1) count))) ≡ true)
    → ascend_from (Some (pos m)) (map pos (filter test (days_from n (suc count)))) ≡ true
unfolding days_from
ascend-at test m n count true on h rest = rw on (rw (true-le (pos m) (pos n) (omega (arith, ints))) (rest n (omega arith)))
ascend-at test m n count false off h rest = rw off (rest m (omega arith))

-- The numbers of a filter ascend.
numbers-ascend : (test : ℕ → Bool) (count n m : ℕ) → m ≤ n → ascend_from (Some (pos m)) (map pos (filter test (days_from n count))) ≡ true
unfolding days_from
numbers-ascend test zero n m h = refl
numbers-ascend test (suc count) n m h = ascend-at test m n count (test n) refl h (λ k less. numbers-ascend test count (n + 1) k less)

first-ascend : (end : Option ℤ) (z : ℤ) (xs ys : List ℤ) → (ascend_from (Some z) xs ≡ true → ascend_from (Some z) ys ≡ true) → ascend_from end (z ∷ xs) ≡ true → ascend_from end (z ∷ ys) ≡ true
first-ascend None z xs ys rest order = order
first-ascend (Some y) z xs ys rest order =
    let both = and_parts (int_le y z) (ascend_from (Some z) xs) order in
    rw both.0 (rest both.1)

take-ascend : (n : ℕ) (end : Option ℤ) (xs : List ℤ) → ascend_from end xs ≡ true → ascend_from end (take n xs) ≡ true
take-ascend zero end xs order = refl
take-ascend (suc n) end [] order = refl
take-ascend (suc n) end (x ∷ xs) order = first-ascend end x xs (take n xs) (take-ascend n (Some x) xs) order

less-ascend : (z y : ℤ) (xs : List ℤ) → z ≤ℤ y → ascend_from (Some y) xs ≡ true → ascend_from (Some z) xs ≡ true
less-ascend z y [] less order = refl
less-ascend z y (x ∷ xs) less order =
    let both = and_parts (int_le y x) (ascend_from (Some x) xs) order in
    let first = le-true y x both.0 in
    rw (true-le z x (omega (arith, ints, less, first))) both.1

order-at : (rule : DateTimeParts) (end : Option ℤ) (n : ℕ) → ascend_from end (take n (past_end rule end)) ≡ true
order-at rule None zero = refl
order-at rule None (suc n) = refl
order-at rule (Some z) n =
    let m = unsigned_abs z + 1 in
    let on : (k : ℕ) → Bool = λ k. is_occurrence (record rule { until = None }) (pos k) in
    take-ascend n (Some z) (past_end rule (Some z)) (less-ascend z (pos m) _ (omega (arith, ints)) (numbers-ascend on (last_date_time + 1 - m) m m (omega arith)))

-- The readings that are left to count ascend from the end of the rule on.
pub in-order : (rule : DateTimeParts) (n : ℕ) (left : List ℤ) → left ≡ unread rule n → ascend_from rule.until left ≡ true
in-order rule n left e = ap (ascend_from rule.until) e ∙ order-at rule rule.until n

-- ---- the readings up to an end
up-to-day : (end : Option ℤ) (z : ℤ) → IsDateTime z → is_not_after end z ≡ true → days.matches_until (option_map date_at end) (date_at z) ≡ true
unfolding date_at
up-to-day None z range by = refl
up-to-day (Some last) z range by =
    let most = le-true z last by in
    let less : date_at z ≤ date_at last = omega (arith, ints, most, range.not_before) in
    grind (arith, nat_tests)

same-day : (pattern : Pattern) (start n : ℕ) (end other : Option ℕ) → days.matches_until end n ≡ true → days.matches_until other n ≡ true
    → days.is_occurrence (rule_of pattern start end) n ≡ days.is_occurrence (rule_of pattern start other) n
unfolding days.is_occurrence days.periods_past days.passes days.matches_months days.matches_weeks days.matches_days days.matches_positions days.unit_of
same-day pattern start n end other by on = rw (by, on) refl

same-occurrence : (rule : DateTimeParts) (end : Option ℤ) (z : ℤ) → IsDateTime z → is_not_after rule.until z ≡ true → is_not_after end z ≡ true
    → is_occurrence (record rule { until = end }) z ≡ is_occurrence rule z
unfolding is_occurrence matches_positions days.passes days.matches_months days.matches_weeks days.matches_days days.unit_of
same-occurrence rule end z range by on =
    let day = same-day (record rule.pattern { set_positions = [] }) (date_at rule.start) (date_at z) (option_map date_at end) (option_map date_at rule.until)
    (up-to-day end z range on) (up-to-day rule.until z range by) in
    rw (by, on, day) refl

same-in : (set : DateTimeSet) (left : List ℤ) (z : ℤ) → ascend_from set.rule.until left ≡ true → IsDateTime z → is_not_after set.rule.until z ≡ true
    → is_in_set (whole_set set left) z ≡ is_in_set set z
unfolding is_in_set
same-in set left z order range by =
    ap (λ b. (b || is_listed set.dates.now z) && not (is_listed set.exceptions.now z))
    (same-occurrence set.rule (last_or set.rule.until left) z range by (not-after set.rule.until left z order by))

-- ---- a search that finds a reading up to the end
earlier-too : (end : Option ℤ) (k m : ℕ) → k ≤ m → is_not_after end (pos m) ≡ true → is_not_after end (pos k) ≡ true
earlier-too None k m less by = refl
earlier-too (Some last) k m less by = let most = le-true (pos m) last by in true-le (pos k) last (omega (arith, ints, most))

pub settled : (set : DateTimeSet) (left : List ℤ) (n : ℕ) (y : ℤ) → ascend_from set.rule.until left ≡ true → is_not_after set.rule.until y ≡ true
    → Some y ≡ slice_get (readings_from (is_in_set set) n) 0 → Some y ≡ slice_get (readings_from (is_in_set (whole_set set left)) n) 0
settled set left n y order by h =
    let first : IsFound (is_in_set set) n y = found (is_in_set set) n y h in
    let m = unsigned_abs y in
    let up-to : (k : ℕ) → k ≤ m → is_in_set (whole_set set left) (pos k) ≡ is_in_set set (pos k) = λ k less.
    same-in set left (pos k) order (record { not_before = omega (arith, ints); not_after = omega (arith, ints, less, first.first.below) })
    (earlier-too set.rule.until k m less (ap (is_not_after set.rule.until) (sym first.is) ∙ by)) in
    is-found (is_in_set (whole_set set left)) n y (record {
      is = first.is;
      first = record {
        not_before = first.first.not_before;
        below = first.first.below;
        passes = up-to m (omega arith) ∙ first.first.passes;
        none_before = λ k low high. up-to k (omega (arith, high)) ∙ first.first.none_before k low high;
      };
    })

-- A set with nothing left to count is whole.
pub nothing-left : (set : DateTimeSet) (left : List ℤ) → left ≡ [] → set ≡ whole_set set left
nothing-left set left e = sym (ap (whole_set set) e)

-- ---- a search in a zone that finds an instant before all that are left
up-to-end : (set : ZonedSet) (left : List ℤ) (last : ℤ) (z : ℤ) (k : LocalAndOffset) → ascend_from set.readings.rule.until left ≡ true → set.readings.rule.until ≡ Some last → z ≤ℤ last
    → IsDateTime z → is_in_set (whole_set set.readings left) z ≡ is_in_set set.readings z
up-to-end set left last z k order is most range =
    same-in set.readings left z order range (ap (λ end. is_not_after end z) is ∙ true-le z last most)

-- The whole set has the occurrences of the counted one whose readings aren't after its end, and the
-- other way round.
counts-on : (set : ZonedSet) (left : List ℤ) (last : ℤ) → ascend_from set.readings.rule.until left ≡ true → set.readings.rule.until ≡ Some last → (z : ℤ) (k : LocalAndOffset)
    → Occurs set z k → (instant k +ℤ reach) <ℤ last → Occurs (whole_zoned_set set left) z k
counts-on set left last order is z k (inr h) past = inr (record { index = h.index; after = h.after; listed = h.listed; range = h.range; kept = h.kept })
counts-on set left last order is z k (inl h) past =
    let close = (near set.zone.now z k h.meant).1 in
    inl (record {
      range = h.range;
      on = up-to-end set left last z k order is (omega (arith, ints, past, close)) h.range ∙ h.on;
      meant = h.meant;
      in_time = h.in_time;
      kept = h.kept;
    })

counts-back : (set : ZonedSet) (left : List ℤ) (last : ℤ) → ascend_from set.readings.rule.until left ≡ true → set.readings.rule.until ≡ Some last → (z : ℤ) (k : LocalAndOffset)
    → Occurs (whole_zoned_set set left) z k → Occurs set z k ⊎ (last ≤ℤ (instant k +ℤ reach))
counts-back set left last order is z k (inr h) = inl (inr (record { index = h.index; after = h.after; listed = h.listed; range = h.range; kept = h.kept }))
counts-back set left last order is z k (inl h) = elim (compared z last) as (λ _. Occurs set z k ⊎ (last ≤ℤ (instant k +ℤ reach))) [
  | inl less ↦
      inl (inl (record {
        range = h.range;
        on = sym (up-to-end set left last z k order is (omega (arith, ints, less)) h.range) ∙ h.on;
        meant = h.meant;
        in_time = h.in_time;
        kept = h.kept;
      }))
  | inr most ↦ let far = (near set.zone.now z k h.meant).1 in inr (omega (arith, ints, most, far))
]

pub settled-after : (set : ZonedSet) (left : List ℤ) (x last : ℤ) (r : Option LocalAndOffset) → ascend_from set.readings.rule.until left ≡ true → set.readings.rule.until ≡ Some last
    → MatchOption r ⊥ (λ m. (instant m +ℤ reach) <ℤ last) → IsNextAfter (Occurs set) x r → IsNextAfter (Occurs (whole_zoned_set set left)) x r
settled-after set left x last None order is past h = absurd past
settled-after set left x last (Some m) order is past h = record {
  place = h.place;
  is = counts-on set left last order is h.place m h.is past;
  later = h.later;
  first = λ z k g late. elim (counts-back set left last order is z k g) as (λ _. (instant m ≤ℤ instant k) × (instant k ≡ instant m → h.place ≤ℤ z)) [
    | inl early ↦ h.first z k early late
    | inr far ↦ (omega (arith, ints, past, far), λ e. absurd (omega (arith, ints, past, far, e)))
  ];
}

-- What a search returns is the next occurrence after the last instant before it.
pub nothing-left-in_zone : (set : ZonedSet) (left : List ℤ) → left ≡ [] → set ≡ whole_zoned_set set left
nothing-left-in_zone set left e = sym (ap (whole_zoned_set set) e)
