-- Laws for callers: the first day that passes a test, and the list of the days that pass.
use Rattle.std.proofs.Common.{◌≡◌, ℕ, zero, suc, ◌+◌, ◌-◌, ◌<◌, ◌≤◌, ◌⊎◌, inl, inr, refl, sym, ap, ◌∙◌, arith, List, [], ◌∷◌, filter, slice_get, Option, None, Bool, true, false}
use Rattle.std.specs.Prelude.{IfSome}
use Rattle.std.proofs.lemmas.Bool.{cases_lt, cases_Bool, false≢true}
use Rattle.cal_date.specs.Occurrences.{days_from}

-- No day passes the test among `count` days from day n on.
abbrev pub NoDayMatches : (ℕ → Bool) → ℕ → ℕ → Type 0
NoDayMatches test n count = (k : ℕ) → n ≤ k → k < n + count → test k ≡ false

-- x is the first of the `count` days from day n on that passes the test.
pub record IsFirstDay (test : ℕ → Bool) (n count x : ℕ) : Type 0 where
  pub not_before : n ≤ x
  pub within : x < n + count
  pub passes : test x ≡ true
  pub none_before : (k : ℕ) → n ≤ k → k < x → test k ≡ false

-- The days that pass the test among `count` days from day n on, in order.
abbrev matching_days : (ℕ → Bool) → ℕ → ℕ → List ℕ
matching_days test n count = filter test (days_from n count)

-- Without days the list is empty.
matching_days-none : (test : ℕ → Bool) (n : ℕ) → matching_days test n 0 ≡ []
unfolding days_from
matching_days-none test n = refl

-- If the first day passes, the list is this day and then the list of the other days.
matching_days-true : (test : ℕ → Bool) (n count : ℕ) → test n ≡ true → matching_days test n (suc count) ≡ n ∷ matching_days test (n + 1) count
unfolding days_from
matching_days-true test n count h = rw h refl

-- If the first day doesn't pass, the list is the list of the other days.
matching_days-false : (test : ℕ → Bool) (n count : ℕ) → test n ≡ false → matching_days test n (suc count) ≡ matching_days test (n + 1) count
unfolding days_from
matching_days-false test n count h = rw h refl

-- No day passes, and the list is empty.
record BeginsEmpty (test : ℕ → Bool) (n count : ℕ) : Type 0 where
  none : NoDayMatches test n count
  days : matching_days test n count ≡ []

-- The list is the first day that passes, and then the list of the days after it.
record BeginsWithDay (test : ℕ → Bool) (n count : ℕ) : Type 0 where
  day : ℕ
  first : IsFirstDay test n count day
  days : matching_days test n count ≡ day ∷ matching_days test (day + 1) (n + count - (day + 1))

-- If the first day doesn't pass, and no day after it does, then no day passes.
none_after : (test : ℕ → Bool) (n count : ℕ) → test n ≡ false → NoDayMatches test (n + 1) count → NoDayMatches test n (suc count)
none_after test n count off none k low high =
    elim (cases_lt n k) [
      | inl later ↦ none k (omega arith) (omega arith)
      | inr same ↦ let e : n ≡ k = omega arith in ap test (sym e) ∙ off
    ]

-- If the first day doesn't pass, the first day after it that passes is the first of all.
first_after : (test : ℕ → Bool) (n count x : ℕ) → test n ≡ false → IsFirstDay test (n + 1) count x → IsFirstDay test n (suc count) x
first_after test n count x off h = record {
  not_before = omega (arith, h.not_before);
  within = omega (arith, h.within);
  passes = h.passes;
  none_before = λ k low high. elim (cases_lt n k) [
    | inl later ↦ h.none_before k (omega arith) high
    | inr same ↦ let e : n ≡ k = omega arith in ap test (sym e) ∙ off
  ];
}

-- The list is empty, and no day passes, or it begins with the first day that passes.
begins : (test : ℕ → Bool) (n count : ℕ) → BeginsEmpty test n count ⊎ BeginsWithDay test n count
begins test n zero = inl (record { none = λ k low high. absurd (omega arith); days = matching_days-none test n })
begins test n (suc count) =
    elim (cases_Bool (test n)) as (λ _. BeginsEmpty test n (suc count) ⊎ BeginsWithDay test n (suc count)) [
      | inl on ↦
          let left : count ≡ n + suc count - (n + 1) = omega arith in
          inr (record {
            day = n;
            first = record { not_before = omega arith; within = omega arith; passes = on; none_before = λ k low high. absurd (omega arith) };
            days = matching_days-true test n count on ∙ ap (λ c. n ∷ matching_days test (n + 1) c) left;
          })
      | inr off ↦ elim (begins test (n + 1) count) as (λ _. BeginsEmpty test n (suc count) ⊎ BeginsWithDay test n (suc count)) [
        | inl h ↦ inl (record { none = none_after test n count off h.none; days = matching_days-false test n count off ∙ h.days })
        | inr h ↦
            let left : n + 1 + count ≡ n + suc count = omega arith in
            inr (record {
              day = h.day;
              first = first_after test n count h.day off h.first;
              days = matching_days-false test n count off ∙ h.days ∙ ap (λ c. h.day ∷ matching_days test (h.day + 1) (c - (h.day + 1))) left;
            })
      ]
    ]

-- Two days that are both the first day that passes are the same.
one_first : (test : ℕ → Bool) (n count x y : ℕ) → IsFirstDay test n count x → IsFirstDay test n count y → x ≡ y
one_first test n count x y h k =
    elim (cases_lt x y) [
      | inl less ↦ absurd (false≢true (sym (k.none_before x h.not_before less) ∙ h.passes))
      | inr most ↦ elim (cases_lt y x) [
        | inl more ↦ absurd (false≢true (sym (h.none_before y k.not_before more) ∙ k.passes))
        | inr least ↦ omega arith
      ]
    ]

-- If the list has a first item, it is the first day that passes.
pub first_matching : (test : ℕ → Bool) (n count : ℕ) (r : Option ℕ) → r ≡ slice_get (filter test (days_from n count)) 0 → IfSome r (IsFirstDay test n count)
first_matching test n count r e =
    elim (begins test n count) [
      | inl h ↦ rw (e, h.days) tt
      | inr h ↦ rw (e, h.days) h.first
    ]

-- If the list has no first item, no day passes.
pub none_matching : (test : ℕ → Bool) (n count : ℕ) → slice_get (filter test (days_from n count)) 0 ≡ None → NoDayMatches test n count
none_matching test n count e =
    elim (begins test n count) [
      | inl h ↦ h.none
      | inr h ↦ let some = rw h.days at e in absurd (cc)
    ]

-- The list is the first day that passes, and then the list of the days after it.
pub filter-first : (test : ℕ → Bool) (n count x : ℕ) → IsFirstDay test n count x
    → filter test (days_from n count) ≡ x ∷ filter test (days_from (x + 1) (n + count - (x + 1)))
filter-first test n count x h =
    elim (begins test n count) [
      | inl k ↦ absurd (false≢true (sym (k.none x h.not_before h.within) ∙ h.passes))
      | inr k ↦ let e = one_first test n count k.day x k.first h in k.days ∙ ap (λ m. m ∷ matching_days test (m + 1) (n + count - (m + 1))) e
    ]

-- If no day passes, the list is empty.
pub filter-none : (test : ℕ → Bool) (n count : ℕ) → NoDayMatches test n count → filter test (days_from n count) ≡ []
filter-none test n count h =
    elim (begins test n count) [
      | inl k ↦ k.days
      | inr k ↦ absurd (false≢true (sym (h k.day k.first.not_before k.first.within) ∙ k.first.passes))
    ]
