-- The next reading of a set of date-times: the nearest one of a rule or a list that isn't left out.
use Rattle.std.proofs.Common.{◌≡◌, ℕ, suc, ◌+◌, ◌-◌, ◌≤◌, refl, sym, ap, ◌∙◌, arith, Bool, true, false, ◌&&◌, not, filter, map, slice_get, subst, Option, Some, None, ℤ, pos}
use Rattle.std.specs.Prelude.{◌||◌, nat_le, option_map, unsigned_abs}
use Rattle.std.specs.Ordering.{int_cmp, int_eq}
use Rattle.std.proofs.lemmas.Bool.{false_from_ne_true, false≢true}
use Rattle.std.proofs.lemmas.Int.{ints}
use Rattle.std.proofs.lemmas.Option.{slice_get-map}
use Rattle.cal_time.specs.Occurrences.{days_from}
use Rattle.cal_schedule.specs.Ranks.{from-no, from-yes}
use Rattle.cal_datetime.specs.DateTime.{last_date_time, IsDateTime}
use Rattle.cal_recurrence.specs.DateTimeRule.{is_occurrence, occurrences_after, readings_from}
use Rattle.cal_recurrence.specs.DateTimeSet.{is_in_set, is_listed, set_readings_after}
use Rattle.cal_recurrence.specs.Nearest.{is_past, IsFirstPast, IsNearest}
use Rattle.cal_recurrence.specs.TimeSearch.{NoneIn, IsFirst, IsNext}
use Rattle.cal_recurrence.specs.declared.date_time_set.DateTimeSet.{DateTimeSet}
use Rattle.cal_recurrence.proofs.FirstNumbers.{first-in_list, first-of_list}
use Rattle.cal_recurrence.proofs.NearestValues.{is-later, later, up_to, within}

pub number-is : (z : ℤ) → IsDateTime z → pos (unsigned_abs z) ≡ z
number-is z h = let e : pos (unsigned_abs z) ≡ z = omega (arith, ints, h.not_before) in e

-- ---- the first of a list
in-list : (test : ℤ → Bool) (n : ℕ) (number : Option ℕ) → IsNext (λ k. test (pos k)) n (last_date_time + 1) number → option_map pos number ≡ slice_get (readings_from test n) 0
in-list test n number next =
    ap (option_map pos) (first-in_list (λ k. test (pos k)) n (last_date_time + 1) number next)
    ∙ sym (slice_get-map pos (filter (λ k. test (pos k)) (days_from n (last_date_time + 1 - n))) 0)

-- A reading with its number, which is the first of a test from the number n on.
pub record IsFound (test : ℤ → Bool) (n : ℕ) (y : ℤ) : Type 0 where
  pub is : y ≡ pos (unsigned_abs y)
  pub first : IsFirst (λ k. test (pos k)) n (last_date_time + 1) (unsigned_abs y)

found-at : (test : ℤ → Bool) (n : ℕ) (y : ℤ) (number : Option ℕ) → Some y ≡ option_map pos number → IsNext (λ k. test (pos k)) n (last_date_time + 1) number → IsFound test n y
found-at test n y None is next = absurd (cc)
found-at test n y (Some k) is next = let e : y ≡ pos k = cc in subst (IsFound test n) (sym e) (record { is = refl; first = next })

pub found : (test : ℤ → Bool) (n : ℕ) (y : ℤ) → Some y ≡ slice_get (readings_from test n) 0 → IsFound test n y
found test n y e =
    let all = filter (λ k. test (pos k)) (days_from n (last_date_time + 1 - n)) in
    found-at test n y (slice_get all 0) (e ∙ slice_get-map pos all 0) (first-of_list (λ k. test (pos k)) n (last_date_time + 1) (slice_get all 0) refl)

none-at : (number : Option ℕ) → None ≡ option_map pos number → None ≡ number
none-at None e = refl
none-at (Some n) e = absurd (cc)

pub not_found : (test : ℤ → Bool) (n : ℕ) → None ≡ slice_get (readings_from test n) 0 → NoneIn (λ k. test (pos k)) n (last_date_time + 1)
not_found test n e =
    let all = filter (λ k. test (pos k)) (days_from n (last_date_time + 1 - n)) in
    first-of_list (λ k. test (pos k)) n (last_date_time + 1) None (none-at (slice_get all 0) (e ∙ slice_get-map pos all 0))

pub is-found : (test : ℤ → Bool) (n : ℕ) (y : ℤ) → IsFound test n y → Some y ≡ slice_get (readings_from test n) 0
is-found test n y h = ap Some h.is ∙ in-list test n (Some (unsigned_abs y)) h.first

-- ---- the first reading after a reading
number : {z : ℤ} (k : ℤ) → IsDateTime z → is_past int_cmp true k z ≡ true → k ≡ pos (unsigned_abs k)
number {z} k range past = omega (arith, ints, is-later z k past, range.not_before)

of-next : (test : ℤ → Bool) (z : ℤ) (r : Option ℤ) → IsDateTime z → r ≡ slice_get (readings_from test (unsigned_abs z + 1)) 0
    → IsNearest (is_past int_cmp true) (λ y. nat_le (unsigned_abs y) last_date_time && test y) z r
of-next test z None range h = λ k past. up_to (unsigned_abs k) last_date_time (test k) (λ early.
    ap test (number k range past) ∙ not_found test (unsigned_abs z + 1) h (unsigned_abs k) (omega (arith, ints, is-later z k past, range.not_before)) (omega (arith, early)))
of-next test z (Some y) range h =
    let at = found test (unsigned_abs z + 1) y h in
    record {
      beyond = later z y (omega (arith, ints, at.is, at.first.not_before, range.not_before));
      passes = rw (within (unsigned_abs y) last_date_time (omega (arith, at.first.below))) (ap test at.is ∙ at.first.passes);
      none_between = λ k past less. up_to (unsigned_abs k) last_date_time (test k) (λ _.
          ap test (number k range past)
          ∙ at.first.none_before (unsigned_abs k) (omega (arith, ints, is-later z k past, range.not_before)) (omega (arith, ints, is-later k y less, is-later z k past, range.not_before)));
    }

-- ---- the readings of a set
-- A reading up to the last one that the rule has.
abbrev pub rule_readings : DateTimeSet → ℤ → Bool
rule_readings set z = nat_le (unsigned_abs z) last_date_time && is_occurrence set.rule z

pub after_rule : (set : DateTimeSet) (z : ℤ) (r : Option ℤ) → IsDateTime z → r ≡ slice_get (occurrences_after set.rule z) 0 → IsNearest (is_past int_cmp true) (rule_readings set) z r
after_rule set z r range e = of-next (is_occurrence set.rule) z r range e

-- Such a reading, or one of the other readings.
abbrev pub next_candidates : DateTimeSet → ℤ → Bool
next_candidates set z = rule_readings set z || is_listed set.dates.now z

-- Such a reading that isn't left out.
abbrev pub next_readings : DateTimeSet → ℤ → Bool
next_readings set z = next_candidates set z && not (is_listed set.exceptions.now z)

pub same_reading : (set : DateTimeSet) (z : ℤ) → IsDateTime z → is_in_set set z ≡ next_readings set z
unfolding is_in_set
same_reading set z date = rw (within (unsigned_abs z) last_date_time (omega (arith, ints, date.not_before, date.not_after))) refl

number-range : (n : ℕ) → n ≤ last_date_time → IsDateTime (pos n)
number-range n h = record { not_before = omega (arith, ints); not_after = omega (arith, ints, h) }

pub first_after : (set : DateTimeSet) (z x : ℤ) → IsDateTime z → IsDateTime x → IsFirstPast (is_past int_cmp true) (next_readings set) z x
    → Some x ≡ slice_get (set_readings_after set z) 0
first_after set z x from date h = is-found (is_in_set set) (unsigned_abs z + 1) x (record {
  is = sym (number-is x date);
  first = record {
    not_before = omega (arith, ints, is-later z x h.beyond, from.not_before);
    below = omega (arith, ints, date.not_before, date.not_after);
    passes = ap (is_in_set set) (number-is x date) ∙ same_reading set x date ∙ h.passes;
    none_before = λ k past less.
        same_reading set (pos k) (number-range k (omega (arith, ints, less, date.not_before, date.not_after)))
        ∙ h.none_between (pos k) (later z (pos k) (omega (arith, ints, past, from.not_before))) (later (pos k) x (omega (arith, ints, less, date.not_before)));
  };
})

pub none_after : (set : DateTimeSet) (z : ℤ) → IsDateTime z → IsNearest (is_past int_cmp true) (next_readings set) z None → None ≡ slice_get (set_readings_after set z) 0
none_after set z from none = in-list (is_in_set set) (unsigned_abs z + 1) None (λ k past less.
    same_reading set (pos k) (number-range k (omega (arith, less))) ∙ none (pos k) (later z (pos k) (omega (arith, ints, past, from.not_before))))

-- The first reading from a reading on is this one, or the first after it.
pub from-here : (test : ℤ → Bool) (z : ℤ) → IsDateTime z → test z ≡ true → Some z ≡ slice_get (readings_from test (unsigned_abs z)) 0
from-here test z h hit =
    let n = unsigned_abs z in
    let count : last_date_time + 1 - n ≡ suc (last_date_time - n) = omega (arith, ints, h.not_before, h.not_after) in
    sym (ap (λ c. slice_get (map pos (filter (λ k. test (pos k)) (days_from n c))) 0) count
    ∙ ap (λ l. slice_get (map pos l) 0) (from-yes (λ k. test (pos k)) n (last_date_time - n) (ap test (number-is z h) ∙ hit)) ∙ ap Some (number-is z h))

pub from-next : (test : ℤ → Bool) (z : ℤ) → IsDateTime z → test z ≡ false → readings_from test (unsigned_abs z) ≡ readings_from test (unsigned_abs z + 1)
from-next test z h miss =
    let n = unsigned_abs z in
    let count : last_date_time + 1 - n ≡ suc (last_date_time - n) = omega (arith, ints, h.not_before, h.not_after) in
    let less : last_date_time - n ≡ last_date_time + 1 - (n + 1) = omega arith in
    ap (λ c. map pos (filter (λ k. test (pos k)) (days_from n c))) count
    ∙ ap (map pos) (from-no (λ k. test (pos k)) n (last_date_time - n) (ap test (number-is z h) ∙ miss))
    ∙ ap (λ c. map pos (filter (λ k. test (pos k)) (days_from (n + 1) c))) less

pub eq-same : (a b : ℤ) → int_eq a b ≡ true → a ≡ b
eq-same a b e = grind (arith, ints)

pub same-eq : (a b : ℤ) → a ≡ b → int_eq a b ≡ true
same-eq a b e = grind (arith, ints)

-- A reading passes a test if it is the first one from itself on that passes.
is-first-at : (test : ℤ → Bool) (y z : ℤ) (b : Bool) → test z ≡ b → IsDateTime z → Some y ≡ slice_get (readings_from test (unsigned_abs z)) 0 → int_eq y z ≡ test z
is-first-at test y z true on h e = let same : Some y ≡ Some z = e ∙ sym (from-here test z h on) in let is : y ≡ z = cc in same-eq y z is ∙ sym on
is-first-at test y z false off h e =
    let first : IsFound test (unsigned_abs z) y = found test (unsigned_abs z) y e in
    false_from_ne_true _ (λ e. false≢true (sym off ∙ ap test (sym (eq-same y z e) ∙ first.is) ∙ first.first.passes)) ∙ sym off

pub is-first : (test : ℤ → Bool) (y z : ℤ) → IsDateTime z → Some y ≡ slice_get (readings_from test (unsigned_abs z)) 0 → int_eq y z ≡ test z
is-first test y z h e = is-first-at test y z (test z) refl h e

pub none-first : (test : ℤ → Bool) (z : ℤ) → IsDateTime z → None ≡ slice_get (readings_from test (unsigned_abs z)) 0 → false ≡ test z
none-first test z h e =
    sym (not_found test (unsigned_abs z) e (unsigned_abs z) (omega arith) (omega (arith, ints, h.not_before, h.not_after)))
    ∙ ap test (number-is z h)
