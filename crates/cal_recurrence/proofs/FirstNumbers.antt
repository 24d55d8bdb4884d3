-- The first number that passes a test, and the first number of a list.
use Rattle.std.proofs.Common.{◌≡◌, ℕ, ◌+◌, ◌-◌, ◌≤◌, inl, inr, sym, ap, ◌∙◌, arith, Bool, false, [], ◌∷◌, filter, slice_get, Option, Some, None}
use Rattle.std.proofs.lemmas.Bool.{cases_lt}
use Rattle.cal_time.specs.Filters.{filter-first, filter-none, first_matching, none_matching}
use Rattle.cal_time.specs.Occurrences.{days_from}
use Rattle.cal_recurrence.specs.TimeSearch.{NoneIn, IsFirst, IsNext}

-- ---- a search that begins earlier
pub joined : (test : ℕ → Bool) (a b c : ℕ) → NoneIn test a b → NoneIn test b c → NoneIn test a c
joined test a b c first second = λ k low high. elim (cases_lt k b) as (λ _. test k ≡ false) [ inl less ↦ first k low less | inr most ↦ second k most high ]

pub later-first : (test : ℕ → Bool) (a b e x : ℕ) → a ≤ b → NoneIn test a b → IsFirst test b e x → IsFirst test a e x
later-first test a b e x h none found = record {
  not_before = omega (arith, found.not_before);
  below = found.below;
  passes = found.passes;
  none_before = joined test a b x none found.none_before;
}

pub extended : (test : ℕ → Bool) (a b e : ℕ) (r : Option ℕ) → a ≤ b → NoneIn test a b → IsNext test b e r → IsNext test a e r
extended test a b e None h none next = joined test a b e none next
extended test a b e (Some x) h none next = later-first test a b e x h none next

-- ---- the first number of a list
pub list-none : (test : ℕ → Bool) (m e : ℕ) → NoneIn test m e → filter test (days_from m (e - m)) ≡ []
list-none test m e none = filter-none test m (e - m) (λ k low high. none k low (omega arith))

pub list-first : (test : ℕ → Bool) (m e x : ℕ) → IsFirst test m e x → filter test (days_from m (e - m)) ≡ x ∷ filter test (days_from (x + 1) (e - (x + 1)))
list-first test m e x h =
    let count : m + (e - m) - (x + 1) ≡ e - (x + 1) = omega (arith, h.not_before, h.below) in
    filter-first test m (e - m) x (record {
      not_before = h.not_before;
      within = omega (arith, h.not_before, h.below);
      passes = h.passes;
      none_before = h.none_before;
    }) ∙ ap (λ c. x ∷ filter test (days_from (x + 1) c)) count

pub first-in_list : (test : ℕ → Bool) (m e : ℕ) (r : Option ℕ) → IsNext test m e r → r ≡ slice_get (filter test (days_from m (e - m))) 0
first-in_list test m e None none = ap (λ l. slice_get l 0) (sym (list-none test m e none))
first-in_list test m e (Some x) h = ap (λ l. slice_get l 0) (sym (list-first test m e x h))

pub first-of_list : (test : ℕ → Bool) (m e : ℕ) (r : Option ℕ) → r ≡ slice_get (filter test (days_from m (e - m))) 0 → IsNext test m e r
first-of_list test m e None is = λ k low high. none_matching test m (e - m) (sym is) k low (omega arith)
first-of_list test m e (Some x) is =
    let first = first_matching test m (e - m) (Some x) is in
    record {
      not_before = first.not_before;
      below = omega (arith, first.within, first.not_before);
      passes = first.passes;
      none_before = first.none_before;
    }
