-- How far a COUNT is counted.
use Rattle.std.proofs.Common.{◌≡◌, ◌≢◌, refl, sym, ap, ◌∙◌, arith, ℕ, zero, suc, ◌+◌, ◌-◌, ◌<◌, ◌≤◌, Bool, true, false, List, [], ◌∷◌, drop, filter, length, slice_get, take, Option, Some, None, ℤ, pos}
use Rattle.std.specs.Prelude.{nat_le, unsigned_abs, unwrap_or, MatchOption}
use Rattle.std.specs.List.{last_or}
use Rattle.cal_time.specs.Date.{last_day}
use Rattle.cal_time.specs.Filters.{IsFirstDay, filter-first, filter-none, first_matching, none_matching}
use Rattle.cal_time.specs.Occurrences.{days_from}
use Rattle.std.proofs.lemmas.Bool.Decides.{nat_tests}
use Rattle.cal_schedule.specs.Pattern.{rule_of}
use Rattle.cal_schedule.specs.Rule as date
use Rattle.cal_schedule.specs.declared.rule.rule.Rule.{Rule}
use Rattle.cal_schedule.proofs.Rules.{all_of_them}
use Rattle.cal_recurrence.specs.CountedSet.{past_end, unread, whole_rule}
use Rattle.cal_recurrence.specs.Cursors.{days_left, days_past, readings_past, resumed_local, resumed_reading, resumed_rule, resumed_zone_rule, StandsFor}
use Rattle.cal_recurrence.specs.DateTimeRule.{date_time_rule, is_occurrence, occurrences, readings_from, readings_left, DateTimeParts}
use Rattle.cal_recurrence.specs.Days.{count_or, days_of, last_of, up_to_end}
use Rattle.cal_recurrence.specs.RecurrenceReadings.{last_reading_of}
use Rattle.cal_recurrence.specs.SetMeaning.{counted_rule, last_counted_reading_at, last_local, zone_rule}
use Rattle.cal_recurrence.specs.declared.day_cursor.DayCursor.{DayCursor}
use Rattle.cal_recurrence.specs.declared.date_or_time.DateOrTime.TheVariants.{Date, Local, Utc}
use Rattle.cal_recurrence.specs.declared.reading_cursor.ReadingCursor.{ReadingCursor}
use Rattle.cal_recurrence.specs.declared.recurrence.Recurrence.{Recurrence}
use Rattle.cal_recurrence.specs.declared.recurrence.RuleEnd.{RuleEnd}
use Rattle.cal_recurrence.specs.declared.recurrence.RuleEnd.TheVariants.{Never, Until, Count}
use Rattle.cal_recurrence.proofs.RuleOccurrences.{left-from}

-- ---- one more reading
-- A list without its first item.
first-of : (z x : ℤ) (rest xs : List ℤ) → z ∷ rest ≡ x ∷ xs → z ≡ x
first-of z x rest xs e = ap (λ l. unwrap_or (slice_get l 0) (pos 0)) e

rest-of : (z x : ℤ) (rest xs : List ℤ) → z ∷ rest ≡ x ∷ xs → rest ≡ xs
rest-of z x rest xs e = ap (drop 1) e

read-first : (on : ℤ → Bool) (m n : ℕ) (z : ℤ) (rest : List ℤ) (r : Option ℤ) → r ≡ slice_get (readings_from on m) 0
    → z ∷ rest ≡ take n (readings_from on m) → rest ≡ take (n - 1) (readings_from on (unsigned_abs z + 1))
read-first on m zero z rest r f e = absurd (omega (arith, ap length e))
read-first on m (suc n) z rest None f e =
    let none : [] ≡ readings_from on m = left-from on m None f in
    absurd (omega (arith, ap length (e ∙ ap (take (suc n)) (sym none))))
read-first on m (suc n) z rest (Some x) f e =
    let some : x ∷ readings_from on (unsigned_abs x + 1) ≡ readings_from on m = left-from on m (Some x) f in
    let both : z ∷ rest ≡ x ∷ take n (readings_from on (unsigned_abs x + 1)) = e ∙ ap (take (suc n)) (sym some) in
    let less : n ≡ suc n - 1 = omega arith in
    rest-of z x rest _ both ∙ ap (λ y. take n (readings_from on (unsigned_abs y + 1))) (sym (first-of z x rest _ both))
    ∙ ap (λ k. take k (readings_from on (unsigned_abs z + 1))) less

read-at : (rule : DateTimeParts) (end : Option ℤ) (n : ℕ) (z : ℤ) (rest : List ℤ) → z ∷ rest ≡ take n (past_end rule end) → rest ≡ take (n - 1) (past_end rule (Some z))
read-at rule None zero z rest e = absurd (omega (arith, ap length e))
read-at rule None (suc n) z rest e = absurd (omega (arith, ap length e))
read-at rule (Some y) n z rest e = read-first (is_occurrence (record rule { until = None })) (unsigned_abs y + 1) n z rest _ refl e

-- After one more reading the others are left.
pub one_read : (rule : DateTimeParts) (end : Option ℤ) (n : ℕ) (left rest : List ℤ) (z : ℤ) → left ≡ take n (past_end rule end) → left ≡ z ∷ rest → rest ≡ take (n - 1) (past_end rule (Some z))
one_read rule end n left rest z e f = read-at rule end n z rest (sym f ∙ e)

-- The first reading of all is counted.
pub first_read : (rule : DateTimeParts) (n : ℕ) (rest : List ℤ) (z : ℤ) → rule.until ≡ None → take n (readings_past rule None) ≡ z ∷ rest → rest ≡ take (n - 1) (past_end rule (Some z))
first_read rule n rest z none e =
    read-first (is_occurrence rule) 0 n z rest _ refl (sym e)
    ∙ ap (λ end. take (n - 1) (readings_from (is_occurrence (record rule { until = end })) (unsigned_abs z + 1))) none

-- ---- a cursor of a set
last_or-some : (a : ℤ) (xs : List ℤ) → last_or (Some a) xs ≢ None
last_or-some a [] e = absurd (cc)
last_or-some a (x ∷ xs) e = last_or-some x xs e

counted-at : (its : Recurrence) (start : ℤ) (n : ℕ) (c result : ReadingCursor) (rule : DateTimeParts) (left : List ℤ) (end : Option ℤ) → rule.until ≡ end
    → MatchOption end (left ≡ []) (λ z. result.last ≡ Some z) → left ≡ take result.left (readings_past (record rule { until = None }) result.last)
    → whole_rule rule left ≡ date_time_rule start (resumed_reading its start c (Count n)) its.pattern its.times
    → date_time_rule start (resumed_reading its start result (Count n)) its.pattern its.times ≡ whole_rule rule left
counted-at its start n c result rule left None is none at e =
    let ends : last_or rule.until left ≡ resumed_reading its start c (Count n) = ap (λ (r : DateTimeParts). r.until) e in
    absurd (last_or-some (unwrap_or c.last (pos 0)) (take c.left (readings_past (date_time_rule start None its.pattern its.times) c.last)) (sym ends ∙ ap (last_or rule.until) none ∙ is))
counted-at its start n c result rule left (Some z) is last at e =
    let whole = date_time_rule start None its.pattern its.times in
    let endless : record rule { until = None } ≡ whole = ap (λ (r : DateTimeParts). record r { until = None }) e in
    let same : take result.left (readings_past whole result.last) ≡ left = ap (λ r. take result.left (readings_past r result.last)) (sym endless) ∙ sym at in
    let ends : Some (unwrap_or result.last (pos 0)) ≡ rule.until = ap (λ o. Some (unwrap_or o (pos 0))) last ∙ sym is in
    ap (λ l. record whole { until = last_or (Some (unwrap_or result.last (pos 0))) l }) same
    ∙ ap (λ o. record whole { until = last_or o left }) ends
    ∙ ap (λ (r : DateTimeParts). record r { until = last_or rule.until left }) (sym endless)

at-end : (its : Recurrence) (start : ℤ) (end : RuleEnd) (c result : ReadingCursor) (rule : DateTimeParts) (left : List ℤ) → StandsFor rule left result
    → whole_rule rule left ≡ date_time_rule start (resumed_reading its start c end) its.pattern its.times
    → date_time_rule start (resumed_reading its start result end) its.pattern its.times ≡ whole_rule rule left
at-end its start Never c result rule left h e = sym e
at-end its start (Until last) c result rule left h e = sym e
at-end its start (Count n) c result rule left h e = counted-at its start n c result rule left rule.until refl h.end h.left e

at-local : (its : Recurrence) (start : ℤ) (end : RuleEnd) (c result : ReadingCursor) (rule : DateTimeParts) (left : List ℤ) → StandsFor rule left result
    → whole_rule rule left ≡ date_time_rule start (resumed_local its start c end) its.pattern its.times
    → date_time_rule start (resumed_local its start result end) its.pattern its.times ≡ whole_rule rule left
at-local its start Never c result rule left h e = sym e
at-local its start (Until (Date n)) c result rule left h e = sym e
at-local its start (Until (Local z)) c result rule left h e = sym e
at-local its start (Until (Utc z)) c result rule left h e = sym e
at-local its start (Count n) c result rule left h e = at-end its start (Count n) c result rule left h e

-- A set that goes on from the cursor is the set whose cursor it is.
pub goes_on : (its : Recurrence) (start : ℤ) (c result : ReadingCursor) (rule : DateTimeParts) (left : List ℤ) → StandsFor rule left result
    → whole_rule rule left ≡ resumed_rule its start c → resumed_rule its start result ≡ whole_rule rule left
goes_on its start c result rule left h e = at-end its start its.end c result rule left h e

pub goes_on_in_zone : (its : Recurrence) (start : ℤ) (c result : ReadingCursor) (rule : DateTimeParts) (left : List ℤ) → StandsFor rule left result
    → whole_rule rule left ≡ resumed_zone_rule its start c → resumed_zone_rule its start result ≡ whole_rule rule left
goes_on_in_zone its start c result rule left h e = at-local its start its.end c result rule left h e

-- The cursor for which no reading is counted.
starts-at : (its : Recurrence) (start : ℤ) (n : ℕ) (end : RuleEnd) → its.end ≡ end → n ≡ count_or 0 end
    → resumed_reading its start (record { last = None; left = n }) end ≡ last_counted_reading_at its start end
starts-at its start n Never is e = refl
starts-at its start n (Until last) is e = refl
starts-at its start n (Count k) is e =
    let whole = date_time_rule start None its.pattern its.times in
    ap (λ i. last_or (Some (pos 0)) (take i (occurrences whole))) e
    ∙ ap (λ end. last_or (Some (pos 0)) (up_to_end end (occurrences (date_time_rule start (last_reading_of end) its.pattern its.times)))) (sym is)

pub starts : (its : Recurrence) (start : ℤ) (n : ℕ) → n ≡ count_or 0 its.end → resumed_rule its start (record { last = None; left = n }) ≡ counted_rule its start
starts its start n e = ap (λ until. date_time_rule start until its.pattern its.times) (starts-at its start n its.end refl e)

local-at : (its : Recurrence) (start : ℤ) (n : ℕ) (end : RuleEnd) → its.end ≡ end → n ≡ count_or 0 end
    → resumed_local its start (record { last = None; left = n }) end ≡ last_local its start end
local-at its start n Never is e = ap (last_counted_reading_at its start) (sym is)
local-at its start n (Until (Date d)) is e = ap (last_counted_reading_at its start) (sym is)
local-at its start n (Until (Local z)) is e = ap (last_counted_reading_at its start) (sym is)
local-at its start n (Until (Utc z)) is e = refl
local-at its start n (Count k) is e = starts-at its start n (Count k) is e ∙ ap (last_counted_reading_at its start) (sym is)

pub starts_in_zone : (its : Recurrence) (start : ℤ) (n : ℕ) → n ≡ count_or 0 its.end → resumed_zone_rule its start (record { last = None; left = n }) ≡ zone_rule its start
starts_in_zone its start n e = ap (λ until. date_time_rule start until its.pattern its.times) (local-at its start n its.end refl e)

-- ---- days
all-at : (rule : Rule) (end : RuleEnd) → take (count_or 4294967295 end) (date.occurrences rule) ≡ up_to_end end (date.occurrences rule)
all-at rule Never = all_of_them rule
all-at rule (Until last) = all_of_them rule
all-at rule (Count n) = refl

pub all_days : (its : Recurrence) (start n : ℕ) → n ≡ count_or 4294967295 its.end
    → days_left (rule_of its.pattern start (last_of its.end)) (record { last = None; left = n }) ≡ days_of its start
all_days its start n e =
    let rule = rule_of its.pattern start (last_of its.end) in
    ap (λ k. take k (date.occurrences rule)) e ∙ all-at rule its.end

take-none : (n : ℕ) (days : List ℕ) → days ≡ [] → take n days ≡ []
take-none zero days e = refl
take-none (suc n) days e = ap (take (suc n)) e

list-at : (on : ℕ → Bool) (a c left : ℕ) (r : Option ℕ) → 1 ≤ left → ((x : ℕ) → a ≤ x → x < a + c → a + c - (x + 1) ≡ last_day - x) → r ≡ slice_get (filter on (days_from a c)) 0
    → MatchOption r (take left (filter on (days_from a c)) ≡ []) (λ n. take left (filter on (days_from a c)) ≡ n ∷ take (left - 1) (filter on (days_from (n + 1) (last_day - n))))
list-at on a c zero r some ends is = absurd (omega (arith, some))
list-at on a c (suc left) None some ends is = take-none (suc left) _ (filter-none on a c (none_matching on a c (sym is)))
list-at on a c (suc left) (Some x) some ends is =
    let first : IsFirstDay on a c x = first_matching on a c (Some x) is in
    let less : left ≡ suc left - 1 = omega arith in
    ap (take (suc left)) (filter-first on a c x first)
    ∙ ap (λ k. x ∷ take left (filter on (days_from (x + 1) k))) (ends x first.not_before first.within)
    ∙ ap (λ k. x ∷ take k (filter on (days_from (x + 1) (last_day - x)))) less

peeked-at : (rule : Rule) (left : ℕ) (last r : Option ℕ) → 1 ≤ left → r ≡ slice_get (days_past rule last) 0
    → MatchOption r (take left (days_past rule last) ≡ []) (λ n. take left (days_past rule last) ≡ n ∷ take (left - 1) (date.occurrences_after rule n))
peeked-at rule left None r some is = list-at (date.is_occurrence rule) 0 (last_day + 1) left r some (λ x low high. omega arith) is
peeked-at rule left (Some m) r some is = list-at (date.is_occurrence rule) (m + 1) (last_day - m) left r some (λ x low high. omega (arith, low, high)) is

-- The first day that is left, and the days after it.
pub peeked : (rule : Rule) (left : ℕ) (last r : Option ℕ) → 1 ≤ left → r ≡ slice_get (days_past rule last) 0
    → MatchOption r (days_left rule (record { last = last; left = left }) ≡ []) (λ n. days_left rule (record { last = last; left = left }) ≡ n ∷ days_left rule (record { last = Some n; left = left - 1 }))
peeked rule left last r some is = peeked-at rule left last r some is

-- The first item that an iterator returns is the first one of its list.
pub yielded : (days rest : List ℕ) (r : Option ℕ) → MatchOption r ((days ≡ []) × (rest ≡ [])) (λ n. days ≡ n ∷ rest) → r ≡ slice_get days 0
yielded days rest None h = ap (λ l. slice_get l 0) (sym h.0)
yielded days rest (Some n) h = ap (λ l. slice_get l 0) (sym h)

-- Days from a date on are all not before it.
late-at : (on : ℕ → Bool) (m n day count : ℕ) (b : Bool) → on m ≡ b → day ≤ m
    → ((k : ℕ) → filter (nat_le day) (take k (filter on (days_from (m + 1) count))) ≡ take k (filter on (days_from (m + 1) count)))
    → filter (nat_le day) (take n (filter on (days_from m (suc count)))) ≡ take n (filter on (days_from m (suc count)))
unfolding days_from
late-at on m zero day count b is h rest = refl
late-at on m (suc n) day count true is h rest = let here : nat_le day m ≡ true = grind (arith, nat_tests, h) in rw is (rw here (ap (λ l. m ∷ l) (rest n)))
late-at on m (suc n) day count false is h rest = rw is (rest (suc n))

late : (on : ℕ → Bool) (count m n day : ℕ) → day ≤ m → filter (nat_le day) (take n (filter on (days_from m count))) ≡ take n (filter on (days_from m count))
unfolding days_from
late on zero m zero day h = refl
late on zero m (suc n) day h = refl
late on (suc count) m n day h = late-at on m n day count (on m) refl h (λ k. late on count (m + 1) k day (omega (arith, h)))

-- If the first day that is left isn't before a date, no day that is left is.
pub all_late : (rule : Rule) (day n left : ℕ) (days : List ℕ) → day ≤ n → days ≡ n ∷ days_left rule (record { last = Some n; left = left }) → days ≡ filter (nat_le day) days
all_late rule day n left days h e =
    let here : nat_le day n ≡ true = grind (arith, nat_tests, h) in
    let rest = late (date.is_occurrence rule) (last_day - n) (n + 1) left day (omega (arith, h)) in
    let all : filter (nat_le day) (n ∷ days_left rule (record { last = Some n; left = left })) ≡ n ∷ days_left rule (record { last = Some n; left = left }) = rw here (ap (λ l. n ∷ l) rest) in
    e ∙ sym all ∙ ap (filter (nat_le day)) (sym e)
