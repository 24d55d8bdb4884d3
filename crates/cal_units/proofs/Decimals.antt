-- Decimals without trailing zeros, two digits at a time.
use Rattle.std.proofs.Common.{◌≡◌, ◌≢◌, ◌⊎◌, ℕ, zero, suc, ◌+◌, ◌*◌, ◌/◌, ◌%◌, ◌<◌, ◌≤◌, List, [], ◌∷◌, ◌++◌, append-nil, length, ap, sym, subst, ◌∙◌, refl, arith, inl, inr}
use Rattle.std.specs.Str.{IsAscii}
use Rattle.std.proofs.lemmas.Bool.{cases_eq, cases_lt}
use Rattle.std.proofs.lemmas.Bool.Decides.{nat_tests}
use Rattle.std.proofs.lemmas.List.{length-append}
use Rattle.std.proofs.lemmas.Str.Ascii.{IsAscii-nil, IsAscii-cons}
use Rattle.cal_units.specs.Digits.{digit, two_digits, nine_digits, prepend_digit, without_trailing_zeros, decimals}
use Rattle.cal_units.proofs.Digits.{nine_digits-ascii}

-- ---- a digit before other digits
pub is-before-other : (d : ℕ) (ds : List ℕ) → d ≢ 48 → prepend_digit d ds ≡ d ∷ ds
is-before-other d [] other = grind (arith, nat_tests)
is-before-other d (e ∷ es) other = refl

pub none-of-zero : (d : ℕ) → d ≡ 48 → prepend_digit d [] ≡ []
none-of-zero d e = grind (arith, nat_tests)

is-before : (d : ℕ) (ds : List ℕ) → 0 < length (prepend_digit d ds) → prepend_digit d ds ≡ d ∷ ds
is-before d [] some = elim (cases_eq d 48) as (λ _. prepend_digit d [] ≡ d ∷ []) [
  | inl zero_is ↦ absurd (omega (arith, some, ap length (none-of-zero d zero_is)))
  | inr other ↦ is-before-other d [] other
]
is-before d (e ∷ es) some = refl

is-before-some : (d : ℕ) (ds : List ℕ) → 0 < length ds → prepend_digit d ds ≡ d ∷ ds
is-before-some d [] some = absurd (omega arith)
is-before-some d (e ∷ es) some = refl

none-before : (d : ℕ) (ds : List ℕ) → length (prepend_digit d ds) ≡ 0 → (d ≡ 48) × (length ds ≡ 0)
none-before d [] e = (elim (cases_eq d 48) as (λ _. d ≡ 48) [ inl zero_is ↦ zero_is | inr other ↦ absurd (omega (arith, ap length (is-before-other d [] other), e)) ], refl)
none-before d (e ∷ es) none = absurd (omega (arith, none))

before-few : (d : ℕ) (ds : List ℕ) → length (prepend_digit d ds) ≤ suc (length ds)
before-few d [] = elim (cases_eq d 48) as (λ _. length (prepend_digit d []) ≤ 1) [
  | inl zero_is ↦ omega (arith, ap length (none-of-zero d zero_is))
  | inr other ↦ omega (arith, ap length (is-before-other d [] other))
]
before-few d (e ∷ es) = omega arith

before-ascii : (d : ℕ) (ds : List ℕ) → d < 128 → IsAscii ds → IsAscii (prepend_digit d ds)
before-ascii d [] low h = elim (cases_eq d 48) as (λ _. IsAscii (prepend_digit d [])) [
  | inl zero_is ↦ subst IsAscii (sym (none-of-zero d zero_is)) IsAscii-nil
  | inr other ↦ subst IsAscii (sym (is-before-other d [] other)) (IsAscii-cons d [] low IsAscii-nil)
]
before-ascii d (e ∷ es) low h = IsAscii-cons d (e ∷ es) low h

-- ---- digits without trailing zeros
zero-last : (ds : List ℕ) → without_trailing_zeros (ds ++ 48 ∷ []) ≡ without_trailing_zeros ds
unfolding without_trailing_zeros
zero-last [] = refl
zero-last (d ∷ ds) = ap (prepend_digit d) (zero-last ds)

none-left : (d : ℕ) (ds : List ℕ) → length (without_trailing_zeros (d ∷ ds)) ≡ 0 → (d ≡ 48) × (length (without_trailing_zeros ds) ≡ 0)
unfolding without_trailing_zeros
none-left d ds = none-before d (without_trailing_zeros ds)

-- If no digit is left, all digits are zeros.
total : List ℕ → ℕ
total [] = 0
total (d ∷ ds) = d + total ds

all-zeros : (ds : List ℕ) → length (without_trailing_zeros ds) ≡ 0 → total ds ≡ 48 * length ds
unfolding total
all-zeros [] e = refl
all-zeros (d ∷ ds) e =
    let none = none-left d ds e in
    omega (arith, none.0, all-zeros ds none.1)

pub few-left : (ds : List ℕ) → length (without_trailing_zeros ds) ≤ length ds
unfolding without_trailing_zeros
few-left [] = omega arith
few-left (d ∷ ds) = omega (arith, before-few d (without_trailing_zeros ds), few-left ds)

ascii-left : (ds : List ℕ) → IsAscii ds → IsAscii (without_trailing_zeros ds)
unfolding without_trailing_zeros
ascii-left [] h = IsAscii-nil
ascii-left (d ∷ ds) h = before-ascii d (without_trailing_zeros ds) (h 0) (ascii-left ds (λ i. h (suc i)))

-- ---- the decimals of n nanoseconds
abbrev pub decimals_of : ℕ → List ℕ
decimals_of n = without_trailing_zeros (nine_digits n)

abbrev pub after_two : ℕ → List ℕ
after_two n =
    digit (n / 1000000 % 10) ∷ digit (n / 100000 % 10) ∷ digit (n / 10000 % 10) ∷ digit (n / 1000 % 10) ∷ digit (n / 100 % 10)
    ∷ digit (n / 10 % 10) ∷ digit (n % 10) ∷ []

abbrev pub after_one : ℕ → List ℕ
after_one n = digit (n / 10000000 % 10) ∷ after_two n

some-left : (n : ℕ) → 0 < n % 100000000 → 0 < length (without_trailing_zeros (after_one n))
unfolding total
some-left n more =
    elim (cases_lt 0 (length (without_trailing_zeros (after_one n)))) as (λ _. 0 < length (without_trailing_zeros (after_one n))) [
      | inl some ↦ some
      | inr none ↦ absurd (omega (arith, more, all-zeros (after_one n) (omega (arith, none))))
    ]

-- The decimals after the first two are the decimals of 100 times the rest of n.
first_moved : (n : ℕ) → n % 10000000 * 100 / 100000000 ≡ n / 1000000 % 10
first_moved n = omega arith

second_moved : (n : ℕ) → n % 10000000 * 100 / 10000000 % 10 ≡ n / 100000 % 10
second_moved n = omega arith

third_moved : (n : ℕ) → n % 10000000 * 100 / 1000000 % 10 ≡ n / 10000 % 10
third_moved n = omega arith

fourth_moved : (n : ℕ) → n % 10000000 * 100 / 100000 % 10 ≡ n / 1000 % 10
fourth_moved n = omega arith

fifth_moved : (n : ℕ) → n % 10000000 * 100 / 10000 % 10 ≡ n / 100 % 10
fifth_moved n = omega arith

sixth_moved : (n : ℕ) → n % 10000000 * 100 / 1000 % 10 ≡ n / 10 % 10
sixth_moved n = omega arith

seventh_moved : (n : ℕ) → n % 10000000 * 100 / 100 % 10 ≡ n % 10
seventh_moved n = omega arith

tens_none : (n : ℕ) → n % 10000000 * 100 / 10 % 10 ≡ 0
tens_none n = omega arith

ones_none : (n : ℕ) → n % 10000000 * 100 % 10 ≡ 0
ones_none n = omega arith

hundredfold : (n : ℕ) → decimals_of (n % 10000000 * 100) ≡ without_trailing_zeros (after_two n)
hundredfold n =
    (λ i. without_trailing_zeros (digit (first_moved n i) ∷ digit (second_moved n i) ∷ digit (third_moved n i) ∷ digit (fourth_moved n i)
    ∷ digit (fifth_moved n i) ∷ digit (sixth_moved n i) ∷ digit (seventh_moved n i) ∷ digit (tens_none n i) ∷ digit (ones_none n i) ∷ []))
    ∙ zero-last (after_two n ++ 48 ∷ []) ∙ zero-last (after_two n)

tenth : (n : ℕ) → n / 100000000 ≡ n / 10000000 / 10
tenth n = omega arith

pub two-decimals : (n : ℕ) → 0 < n % 100000000 → decimals_of n ≡ two_digits (n / 10000000) ++ decimals_of (n % 10000000 * 100)
unfolding without_trailing_zeros
two-decimals n more =
    ap (prepend_digit (digit (n / 100000000))) (is-before (digit (n / 10000000 % 10)) (without_trailing_zeros (after_two n)) (some-left n more))
    ∙ ap (λ k. digit k ∷ digit (n / 10000000 % 10) ∷ without_trailing_zeros (after_two n)) (tenth n)
    ∙ ap (λ ds. two_digits (n / 10000000) ++ ds) (sym (hundredfold n))

-- Only the first digit is left if the other eight are zeros.
second_none : (n : ℕ) → n % 100000000 ≡ 0 → n / 10000000 % 10 ≡ 0
second_none n none = omega arith

third_none : (n : ℕ) → n % 100000000 ≡ 0 → n / 1000000 % 10 ≡ 0
third_none n none = omega arith

fourth_none : (n : ℕ) → n % 100000000 ≡ 0 → n / 100000 % 10 ≡ 0
fourth_none n none = omega arith

fifth_none : (n : ℕ) → n % 100000000 ≡ 0 → n / 10000 % 10 ≡ 0
fifth_none n none = omega arith

sixth_none : (n : ℕ) → n % 100000000 ≡ 0 → n / 1000 % 10 ≡ 0
sixth_none n none = omega arith

seventh_none : (n : ℕ) → n % 100000000 ≡ 0 → n / 100 % 10 ≡ 0
seventh_none n none = omega arith

eighth_none : (n : ℕ) → n % 100000000 ≡ 0 → n / 10 % 10 ≡ 0
eighth_none n none = omega arith

ninth_none : (n : ℕ) → n % 100000000 ≡ 0 → n % 10 ≡ 0
ninth_none n none = omega arith

no-zeros : (n : ℕ) → n % 100000000 ≡ 0 → without_trailing_zeros (after_one n) ≡ []
unfolding without_trailing_zeros
no-zeros n none = λ i.
    without_trailing_zeros (digit (second_none n none i) ∷ digit (third_none n none i) ∷ digit (fourth_none n none i) ∷ digit (fifth_none n none i)
    ∷ digit (sixth_none n none i) ∷ digit (seventh_none n none i) ∷ digit (eighth_none n none i) ∷ digit (ninth_none n none i) ∷ [])

pub last-decimal : (n : ℕ) → 0 < n → n % 100000000 ≡ 0 → decimals_of n ≡ digit (n / 100000000) ∷ []
unfolding without_trailing_zeros
last-decimal n more none =
    ap (prepend_digit (digit (n / 100000000))) (no-zeros n none) ∙ is-before-other (digit (n / 100000000)) [] (λ e. omega (arith, e, more, none))

pub no-decimal : decimals_of 0 ≡ []
unfolding without_trailing_zeros
no-decimal = refl

pub one-zero : decimals 0 ≡ 48 ∷ []
unfolding without_trailing_zeros
one-zero = refl

-- For n above 0, the first digit needs no exception.
pub decimals-some : (n : ℕ) → 0 < n → decimals n ≡ decimals_of n
unfolding without_trailing_zeros
decimals-some n more =
    elim (cases_lt 0 (n % 100000000)) as (λ _. decimals n ≡ decimals_of n) [
      | inl some ↦ sym (is-before-some (digit (n / 100000000)) (without_trailing_zeros (after_one n)) (some-left n some))
      | inr none ↦ sym (is-before-other (digit (n / 100000000)) (without_trailing_zeros (after_one n)) (λ e. omega (arith, e, more, none)))
    ]

pub decimals-ascii : (n : ℕ) → n < 1000000000 → IsAscii (decimals n)
decimals-ascii n below =
    let h = nine_digits-ascii n below in
    IsAscii-cons (digit (n / 100000000)) (without_trailing_zeros (after_one n)) (h 0) (ascii-left (after_one n) (λ i. h (suc i)))

-- ---- the text, if the decimals of k are still to be appended
some-too : (n k : ℕ) → (n ≡ 0 → k ≡ 0) → 0 < k → 0 < n
some-too zero k zero_too some = absurd (omega (arith, some, zero_too refl))
some-too (suc n) k zero_too some = omega arith

-- Two decimals follow, so there is room for them.
pub two-more : (n k : ℕ) (old text : List ℕ) → k < 1000000000 → (n ≡ 0 → k ≡ 0) → 0 < k % 100000000 → text ++ decimals_of k ≡ old ++ decimals_of n
    → (length text + 2 ≤ length old + length (decimals n)) × (length (decimals_of (k % 10000000 * 100)) < length (decimals_of k))
two-more n k old text below zero_too more all =
    let two = two-decimals k more in
    let some = some-too n k zero_too (omega (arith, more)) in (
      omega (arith, ap length all, length-append text (decimals_of k), length-append old (decimals_of n), ap length (decimals-some n some), ap length two),
      omega (arith, ap length two),
    )

last-more : (n k : ℕ) (old text : List ℕ) → k % 100000000 ≡ 0 → (n ≡ 0 → k ≡ 0) → text ++ decimals_of k ≡ old ++ decimals_of n → 0 < k
    → text ++ digit (k / 100000000) ∷ [] ≡ old ++ decimals n
last-more n k old text none zero_too all some =
    ap (λ ds. text ++ ds) (sym (last-decimal k some none)) ∙ all ∙ ap (λ ds. old ++ ds) (sym (decimals-some n (some-too n k zero_too some)))

zero-more : (n k : ℕ) (old text : List ℕ) → (n ≡ 0 → k ≡ 0) → text ++ decimals_of k ≡ old ++ decimals_of n → n ≡ 0
    → text ++ digit (k / 100000000) ∷ [] ≡ old ++ decimals n
zero-more n k old text zero_too all none =
    let here : k ≡ 0 = zero_too none in
    ap (λ j. text ++ digit (j / 100000000) ∷ []) here
    ∙ ap (λ t. t ++ 48 ∷ []) (sym (append-nil text) ∙ ap (λ ds. text ++ ds) (sym no-decimal ∙ ap decimals_of (sym here)) ∙ all ∙ ap (λ ds. old ++ ds) (ap decimals_of none ∙ no-decimal) ∙ append-nil old)
    ∙ ap (λ ds. old ++ ds) (sym (ap decimals none ∙ one-zero))

pub digit-more : (n k : ℕ) (old text : List ℕ) → k % 100000000 ≡ 0 → (n ≡ 0 → k ≡ 0) → text ++ decimals_of k ≡ old ++ decimals_of n → (0 < k) ⊎ ((k ≤ 0) × (n ≡ 0))
    → text ++ digit (k / 100000000) ∷ [] ≡ old ++ decimals n
digit-more n k old text none zero_too all some = elim some as (λ _. text ++ digit (k / 100000000) ∷ [] ≡ old ++ decimals n) [
  | inl more ↦ last-more n k old text none zero_too all more
  | inr zero_is ↦ zero-more n k old text zero_too all zero_is.1
]

pub none-more : (n k : ℕ) (old text : List ℕ) → text ++ decimals_of k ≡ old ++ decimals_of n → k ≡ 0 → n ≢ 0 → text ≡ old ++ decimals n
none-more n k old text all none some =
    sym (append-nil text) ∙ ap (λ ds. text ++ ds) (sym (ap decimals_of none ∙ no-decimal)) ∙ all ∙ ap (λ ds. old ++ ds) (sym (decimals-some n (omega (arith, some))))

pub decimals-few : (n : ℕ) → length (decimals n) ≤ 9
decimals-few n = omega (arith, few-left (after_one n))
