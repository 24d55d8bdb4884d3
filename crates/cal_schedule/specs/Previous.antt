-- Laws for callers: the last day before a day that passes a test.
use Rattle.std.proofs.Common.{◌≡◌, ℕ, zero, suc, ◌<◌, refl, sym, ap, ◌∙◌, arith, filter, slice_get, Option, Some, None, Bool, true, false, inl, inr}
use Rattle.std.specs.Prelude.{MatchOption}
use Rattle.std.proofs.lemmas.Bool.{cases_lt, cases_Bool, false≢true}
use Rattle.cal_time.specs.Occurrences.{days_back_from}

-- r is the last day before day n that passes the test. If r is `None`, no such day passes.
abbrev pub IsPreviousDay : (ℕ → Bool) → ℕ → Option ℕ → Type 0
IsPreviousDay test n r =
    MatchOption r ((k : ℕ) → k < n → test k ≡ false) (λ x. (x < n) × (test x ≡ true) × ((k : ℕ) → x < k → k < n → test k ≡ false))

-- The first day of the list of the days before day n, from the nearest back.
abbrev nearest : (ℕ → Bool) → ℕ → Option ℕ
nearest test n = slice_get (filter test (days_back_from n)) 0

nearest-none : (test : ℕ → Bool) → nearest test 0 ≡ None
unfolding days_back_from
nearest-none test = refl

nearest-yes : (test : ℕ → Bool) (n : ℕ) → test n ≡ true → nearest test (suc n) ≡ Some n
unfolding days_back_from
nearest-yes test n h = rw h refl

nearest-no : (test : ℕ → Bool) (n : ℕ) → test n ≡ false → nearest test (suc n) ≡ nearest test n
unfolding days_back_from
nearest-no test n h = rw h refl

-- One more day that fails.
one-more : (test : ℕ → Bool) (n : ℕ) (r : Option ℕ) → test n ≡ false → IsPreviousDay test n r → IsPreviousDay test (suc n) r
one-more test n None off none = λ k less. elim (cases_lt k n) as (λ _. test k ≡ false) [
  | inl before ↦ none k before
  | inr most ↦ let e : k ≡ n = omega arith in ap test e ∙ off
]
one-more test n (Some x) off last = (
  omega (arith, last.0),
  last.1,
  λ k late less. elim (cases_lt k n) as (λ _. test k ≡ false) [
    | inl before ↦ last.2 k late before
    | inr most ↦ let e : k ≡ n = omega arith in ap test e ∙ off
  ],
)

-- The first day of the list is the last day that passes.
pub previous_day : (test : ℕ → Bool) (n : ℕ) (r : Option ℕ) → r ≡ slice_get (filter test (days_back_from n)) 0 → IsPreviousDay test n r
previous_day test zero r e = rw (e ∙ nearest-none test) (λ k less. absurd (omega arith))
previous_day test (suc n) r e =
    elim (cases_Bool (test n)) as (λ _. IsPreviousDay test (suc n) r) [
      | inl hit ↦ rw (e ∙ nearest-yes test n hit) (omega arith, hit, λ k late less. absurd (omega arith))
      | inr miss ↦ one-more test n r miss (previous_day test n r (e ∙ nearest-no test n miss))
    ]

-- There is only one such day.
one_previous : (test : ℕ → Bool) (n : ℕ) (r s : Option ℕ) → IsPreviousDay test n r → IsPreviousDay test n s → r ≡ s
one_previous test n None None a b = refl
one_previous test n None (Some y) a b = absurd (false≢true (sym (a y b.0) ∙ b.1))
one_previous test n (Some x) None a b = absurd (false≢true (sym (b x a.0) ∙ a.1))
one_previous test n (Some x) (Some y) a b =
    elim (cases_lt x y) as (λ _. Some x ≡ Some y) [
      | inl less ↦ absurd (false≢true (sym (a.2 y less b.0) ∙ b.1))
      | inr most ↦ elim (cases_lt y x) as (λ _. Some x ≡ Some y) [
        | inl more ↦ absurd (false≢true (sym (b.2 x more a.0) ∙ a.1))
        | inr least ↦ let e : x ≡ y = omega arith in ap Some e
      ]
    ]

-- The last day that passes is the first day of the list.
pub is_previous_day : (test : ℕ → Bool) (n : ℕ) (r : Option ℕ) → IsPreviousDay test n r → r ≡ slice_get (filter test (days_back_from n)) 0
is_previous_day test n r h = one_previous test n r (nearest test n) h (previous_day test n (nearest test n) refl)
