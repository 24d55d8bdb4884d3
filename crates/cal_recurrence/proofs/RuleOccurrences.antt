-- The readings of a rule, from the first one on.
use Rattle.std.proofs.Common.{◌≡◌, ◌≢◌, refl, ℕ, zero, suc, ◌+◌, ◌-◌, ◌^◌, ◌≤◌, sym, ap, ◌∙◌, arith, Bool, true, false, inl, inr, [], ◌∷◌, filter, map, slice_get, take, Option, Some, None, ℤ, pos, ◌<ℤ◌, ◌≤ℤ◌}
use Rattle.std.specs.Prelude.{◌&&◌, int_le, unsigned_abs, option_map}
use Rattle.std.proofs.lemmas.Bool.{and_parts, cases_lt, false_from_ne_true, false≢true}
use Rattle.std.proofs.lemmas.Int.{ints}
use Rattle.std.proofs.lemmas.List.{length-map, take_all}
use Rattle.std.proofs.lemmas.Option.{slice_get-map}
use Rattle.std.proofs.lemmas.List.Sums.{count_by-le-length, length-filter}
use Rattle.cal_time.specs.Filters.{IsFirstDay, filter-first, filter-none, first_matching, none_matching}
use Rattle.cal_time.specs.Occurrences.{days_from}
use Rattle.cal_datetime.specs.DateTime.{last_date_time, IsDateTime, date_at, time_at}
use Rattle.cal_time.proofs.DateIters.{length-days_from}
use Rattle.cal_recurrence.specs.DateTimeRule.{DateTimeParts, is_not_after, is_occurrence, occurrences, occurrences_after, occurrences_from, occurrences_left, readings_from, readings_left}
use Rattle.cal_recurrence.specs.TimeSearch.{NoneIn, IsFirst, IsNext, selects_reading}
use Rattle.cal_recurrence.proofs.FirstNumbers.{first-of_list, list-first, list-none}

pub le-true : (a b : ℤ) → int_le a b ≡ true → a ≤ℤ b
le-true a b e = grind (arith, ints)

pub true-le : (a b : ℤ) → a ≤ℤ b → int_le a b ≡ true
true-le a b e = grind (arith, ints)

later-no : (until : Option ℤ) (x k : ℕ) → is_not_after until (pos x) ≡ false → x ≤ k → is_not_after until (pos k) ≡ false
later-no None x k off h = off
later-no (Some last) x k off h = false_from_ne_true _ (λ on.
    let within = le-true (pos k) last on in
    false≢true (sym off ∙ true-le (pos x) last (omega (arith, ints))))

-- A reading is an occurrence if it isn't before the start or after the end, and the rule selects_reading
-- it.
pub occurrence-is : (rule : DateTimeParts) (k : ℕ) → is_occurrence rule (pos k) ≡ (int_le rule.start (pos k) && (is_not_after rule.until (pos k) && selects_reading rule k))
unfolding is_occurrence date_at time_at
occurrence-is rule k = refl

occurs : (rule : DateTimeParts) (k : ℕ) → rule.start ≤ℤ pos k → is_not_after rule.until (pos k) ≡ true → selects_reading rule k ≡ true → is_occurrence rule (pos k) ≡ true
occurs rule k start by on =
    occurrence-is rule k ∙ ap (λ b. b && (is_not_after rule.until (pos k) && selects_reading rule k)) (true-le rule.start (pos k) start) ∙ ap (λ b. b && selects_reading rule k) by ∙ on

record IsSelected (rule : DateTimeParts) (k : ℕ) : Type 0 where
  start : rule.start ≤ℤ pos k
  by : is_not_after rule.until (pos k) ≡ true
  on : selects_reading rule k ≡ true

off : (rule : DateTimeParts) (k : ℕ) → ¬ IsSelected rule k → is_occurrence rule (pos k) ≡ false
off rule k none = false_from_ne_true _ (λ e.
    let first = and_parts (int_le rule.start (pos k)) (is_not_after rule.until (pos k) && selects_reading rule k) (sym (occurrence-is rule k) ∙ e) in
    let second = and_parts (is_not_after rule.until (pos k)) (selects_reading rule k) first.1 in
    none (record { start = le-true rule.start (pos k) first.0; by = second.0; on = second.1 }))

-- The test of the list of the occurrences.
abbrev pub test : DateTimeParts → ℕ → Bool
test rule k = is_occurrence rule (pos k)

none-listed : (rule : DateTimeParts) (m : ℕ) → m ≤ last_date_time + 1 → NoneIn (test rule) m (last_date_time + 1) → occurrences_from rule m ≡ []
none-listed rule m h none = ap (map pos) (list-none (test rule) m (last_date_time + 1) none)

first-listed : (rule : DateTimeParts) (m x : ℕ) → IsFirst (test rule) m (last_date_time + 1) x → occurrences_from rule m ≡ pos x ∷ occurrences_after rule (pos x)
first-listed rule m x h = ap (map pos) (list-first (test rule) m (last_date_time + 1) x h)

-- the first occurrence from a reading on, by the first reading that passes
pub none-pass : (rule : DateTimeParts) (m : ℕ) → m ≤ last_date_time + 1 → NoneIn (selects_reading rule) m (last_date_time + 1) → None ≡ slice_get (occurrences_from rule m) 0
none-pass rule m h none = ap (λ l. slice_get l 0) (sym (none-listed rule m h (λ k low high. off rule k (λ on. false≢true (sym (none k low high) ∙ on.on)))))

pub first-passes : (rule : DateTimeParts) (m x : ℕ) → rule.start ≤ℤ pos m → IsFirst (selects_reading rule) m (last_date_time + 1) x → is_not_after rule.until (pos x) ≡ true
    → Some (pos x) ≡ slice_get (occurrences_from rule m) 0
first-passes rule m x start h by = ap (λ l. slice_get l 0) (sym (first-listed rule m x (record {
  not_before = h.not_before;
  below = h.below;
  passes = occurs rule x (omega (arith, ints, h.not_before)) by h.passes;
  none_before = λ k low high. off rule k (λ on. false≢true (sym (h.none_before k low high) ∙ on.on));
})))

pub past-end : (rule : DateTimeParts) (m x : ℕ) → m ≤ last_date_time + 1 → IsFirst (selects_reading rule) m (last_date_time + 1) x → is_not_after rule.until (pos x) ≡ false
    → None ≡ slice_get (occurrences_from rule m) 0
past-end rule m x h first past = ap (λ l. slice_get l 0) (sym (none-listed rule m h (λ k low high. off rule k (λ on.
    elim (cases_lt k x) as (λ _. ⊥) [
      | inl less ↦ false≢true (sym (first.none_before k low less) ∙ on.on)
      | inr most ↦ false≢true (sym (later-no rule.until x k past most) ∙ on.by)
    ]))))

-- a list without the numbers at its front that don't pass
same-list : (on : ℕ → Bool) (m s e : ℕ) (r : Option ℕ) → m ≤ s → s ≤ e → NoneIn on m s → r ≡ slice_get (filter on (days_from s (e - s))) 0
    → filter on (days_from m (e - m)) ≡ filter on (days_from s (e - s))
same-list on m s e None h most none is =
    let rest = none_matching on s (e - s) (sym is) in
    filter-none on m (e - m) (λ k low high. elim (cases_lt k s) as (λ _. on k ≡ false) [ inl less ↦ none k low less | inr from ↦ rest k from (omega arith) ])
    ∙ sym (filter-none on s (e - s) rest)
same-list on m s e (Some x) h most none is =
    let first : IsFirstDay on s (e - s) x = first_matching on s (e - s) (Some x) is in
    let count : m + (e - m) - (x + 1) ≡ s + (e - s) - (x + 1) = omega arith in
    filter-first on m (e - m) x (record {
      not_before = omega (arith, first.not_before);
      within = omega (arith, first.within);
      passes = first.passes;
      none_before = λ k low high. elim (cases_lt k s) as (λ _. on k ≡ false) [ inl less ↦ none k low less | inr from ↦ first.none_before k from high ];
    })
    ∙ ap (λ c. x ∷ filter on (days_from (x + 1) c)) count ∙ sym (filter-first on s (e - s) x first)

-- The occurrences from the start on are the occurrences from any reading before it on.
pub from-start : (rule : DateTimeParts) (m s : ℕ) → rule.start ≡ pos s → m ≤ s → s ≤ last_date_time → occurrences_from rule s ≡ occurrences_from rule m
from-start rule m s e h most =
    ap (map pos) (sym (same-list (test rule) m s (last_date_time + 1) _ h (omega arith)
    (λ k low high. off rule k (λ on. omega (arith, ints, on.start))) refl))

pub before-start : (rule : DateTimeParts) (z : ℤ) → IsDateTime z → IsDateTime rule.start → z <ℤ rule.start → occurrences rule ≡ occurrences_after rule z
before-start rule z h start less =
    let s = unsigned_abs rule.start in
    let is : rule.start ≡ pos s = omega (arith, ints, start.not_before) in
    let within : s ≤ last_date_time = omega (arith, ints, start.not_before, start.not_after) in
    sym (from-start rule 0 s is (omega arith) within)
    ∙ from-start rule (unsigned_abs z + 1) s is (omega (arith, ints, h.not_before, start.not_before)) within

-- the readings that are left, from the first of them
listed : (on : ℤ → Bool) (m : ℕ) (q : Option ℕ) (r : Option ℤ) → IsNext (λ k. on (pos k)) m (last_date_time + 1) q → r ≡ option_map pos q → readings_left on r ≡ readings_from on m
listed on m None r none f = ap (readings_left on) f ∙ sym (ap (map pos) (list-none (λ k. on (pos k)) m (last_date_time + 1) none))
listed on m (Some x) r h f = ap (readings_left on) f ∙ sym (ap (map pos) (list-first (λ k. on (pos k)) m (last_date_time + 1) x h))

pub left-from : (on : ℤ → Bool) (m : ℕ) (r : Option ℤ) → r ≡ slice_get (readings_from on m) 0 → readings_left on r ≡ readings_from on m
left-from on m r e =
    let q = slice_get (filter (λ k. on (pos k)) (days_from m (last_date_time + 1 - m))) 0 in
    listed on m q r (first-of_list (λ k. on (pos k)) m (last_date_time + 1) q refl)
    (e ∙ slice_get-map pos (filter (λ k. on (pos k)) (days_from m (last_date_time + 1 - m))) 0)

-- one reading of the walk, with the others after it
pub some-left : (rule : DateTimeParts) (z : ℤ) (left : ℕ) (front : Option ℤ) → left ≢ 0 → front ≡ slice_get (occurrences_after rule z) 0
    → take left (occurrences_left rule (Some z)) ≡ z ∷ take (left - 1) (occurrences_left rule front)
some-left rule z zero front some e = absurd (some refl)
some-left rule z (suc left) front some e =
    let less : left ≡ suc left - 1 = omega arith in
    ap (λ rest. z ∷ take left rest) (sym (left-from (is_occurrence rule) (unsigned_abs z + 1) front e)) ∙ ap (λ n. z ∷ take n (occurrences_left rule front)) less

-- The range has fewer readings than an iterator may return.
pub all_of_them : (rule : DateTimeParts) → take (2 ^ 128 - 1) (occurrences rule) ≡ occurrences rule
all_of_them rule =
    let readings = days_from 0 (last_date_time + 1 - 0) in
    take_all (2 ^ 128 - 1) (occurrences rule)
    (omega (arith, length-map (filter (test rule) readings) pos, length-filter (test rule) readings, count_by-le-length (test rule) readings, length-days_from 0 (last_date_time + 1 - 0)))
