-- Fractions of a second.
use Rattle.std.proofs.Common.{◌≡◌, ℕ, suc, ◌+◌, ◌-◌, ◌/◌, ◌%◌, ◌<◌, ◌≤◌, List, [], ◌∷◌, ◌++◌, length, drop, replicate, refl, sym, ap, ◌∙◌, subst, arith, inl, inr}
use Rattle.std.specs.Prelude.{fold}
use Rattle.std.proofs.lemmas.Bool.{cases_eq, cases_lt}
use Rattle.std.proofs.lemmas.Bool.Decides.{nat_tests}
use Rattle.std.proofs.lemmas.List.Sums.{fold-append}
use Rattle.cal_time.specs.Digits.{digit, nine_digits, prepend_digit, without_trailing_zeros, decimals}
use Rattle.cal_time.specs.Laws.{length-decimals, prepend_digit-other, prepend_digit-zero}
use Rattle.cal_format.specs.Text.{fraction_text}
use Rattle.cal_format.proofs.Digits.{step, step-digit, step-one}
use Rattle.cal_format.proofs.Ends.{AreDigits}
use Rattle.cal_units.proofs.Decimals.{decimals-some}

-- ---- trailing zeros
-- The digits without trailing zeros, and then the zeros, are all digits.
prepend-zeros : (d : ℕ) (w ds : List ℕ) → w ++ replicate (length ds - length w) 48 ≡ ds → prepend_digit d w ++ replicate (suc (length ds) - length (prepend_digit d w)) 48 ≡ d ∷ ds
prepend-zeros d [] ds h =
    let P : List ℕ → Type 0 = λ l. l ++ replicate (suc (length ds) - length l) 48 ≡ d ∷ ds in
    elim (cases_eq d 48) as (λ _. P (prepend_digit d [])) [
      | inl zero_is ↦ (let e : suc (length ds) - 0 ≡ suc (length ds - 0) = omega arith in
          let own : P [] = ap (λ k. replicate k 48) e ∙ (λ i. sym zero_is i ∷ h i) in
          subst P (sym (prepend_digit-zero d zero_is)) own)
      | inr other ↦ (let e : suc (length ds) - 1 ≡ length ds - 0 = omega arith in
          let own : P (d ∷ []) = ap (λ k. d ∷ replicate k 48) e ∙ ap (λ l. d ∷ l) h in
          subst P (sym (prepend_digit-other d [] other)) own)
    ]
prepend-zeros d (x ∷ xs) ds h =
    let e : suc (length ds) - suc (suc (length xs)) ≡ length ds - suc (length xs) = omega arith in
    ap (λ k. d ∷ ((x ∷ xs) ++ replicate k 48)) e ∙ ap (λ l. d ∷ l) h

zeros-again : (ds : List ℕ) → without_trailing_zeros ds ++ replicate (length ds - length (without_trailing_zeros ds)) 48 ≡ ds
unfolding without_trailing_zeros
zeros-again [] = refl
zeros-again (d ∷ ds) = prepend-zeros d (without_trailing_zeros ds) ds (zeros-again ds)

joined-zeros : (a : ℕ) (ds : List ℕ) → length ds ≡ 8 → (a ∷ without_trailing_zeros ds) ++ replicate (9 - length (a ∷ without_trailing_zeros ds)) 48 ≡ a ∷ ds
joined-zeros a ds h =
    let e : 9 - suc (length (without_trailing_zeros ds)) ≡ length ds - length (without_trailing_zeros ds) = omega (arith, h) in
    ap (λ k. a ∷ (without_trailing_zeros ds ++ replicate k 48)) e ∙ ap (λ l. a ∷ l) (zeros-again ds)

decimals-zeros : (n : ℕ) → decimals n ++ replicate (9 - length (decimals n)) 48 ≡ nine_digits n
decimals-zeros n = joined-zeros (digit (n / 100_000_000)) (drop 1 (nine_digits n)) refl

prepend-digits : (d : ℕ) (w : List ℕ) → 48 ≤ d → d ≤ 57 → AreDigits w → AreDigits (prepend_digit d w)
prepend-digits d [] low high h =
    elim (cases_eq d 48) as (λ _. AreDigits (prepend_digit d [])) [
      | inl zero_is ↦ subst AreDigits (sym (prepend_digit-zero d zero_is)) tt
      | inr other ↦ subst AreDigits (sym (prepend_digit-other d [] other)) (low, high, tt)
    ]
prepend-digits d (x ∷ xs) low high h = (low, high, h)

zeros-digits : (ds : List ℕ) → AreDigits ds → AreDigits (without_trailing_zeros ds)
unfolding without_trailing_zeros
zeros-digits [] h = tt
zeros-digits (d ∷ ds) h = prepend-digits d (without_trailing_zeros ds) h.0 h.1 (zeros-digits ds h.2)

one-digit : (k : ℕ) (ds : List ℕ) → AreDigits ds → AreDigits ((48 + k % 10) ∷ ds)
one-digit k ds h = (omega arith, omega arith, h)

pub nine-digits : (n : ℕ) → n < 1_000_000_000 → AreDigits (nine_digits n)
nine-digits n small =
    let first : 48 + n / 100_000_000 ≤ 57 = omega arith in
    let nine = nine_digits n in
    let eight = one-digit (n / 10_000_000) (drop 2 nine) (one-digit (n / 1_000_000) (drop 3 nine) (one-digit (n / 100_000) (drop 4 nine) (one-digit (n / 10_000) (drop 5 nine) (one-digit (n / 1_000) (drop 6 nine) (one-digit (n / 100) (drop 7 nine) (one-digit (n / 10) (drop 8 nine) (one-digit n [] tt))))))) in
    (omega arith, first, eight)

pub AreDigits-decimals : (n : ℕ) → n < 1_000_000_000 → AreDigits (decimals n)
AreDigits-decimals n small = let nine = nine-digits n small in (nine.0, nine.1, zeros-digits (drop 1 (nine_digits n)) nine.2)

-- The decimals of a fraction have no trailing zeros, and there are some.
zeros-again-gone : (d : ℕ) (w : List ℕ) → without_trailing_zeros w ≡ w → without_trailing_zeros (prepend_digit d w) ≡ prepend_digit d w
unfolding without_trailing_zeros
zeros-again-gone d [] h = elim (cases_eq d 48) as (λ _. without_trailing_zeros (prepend_digit d []) ≡ prepend_digit d []) [
  | inl zero_is ↦ ap without_trailing_zeros (prepend_digit-zero d zero_is) ∙ sym (prepend_digit-zero d zero_is)
  | inr other ↦ ap without_trailing_zeros (prepend_digit-other d [] other)
]
zeros-again-gone d (x ∷ xs) h = ap (prepend_digit d) h

zeros-gone : (ds : List ℕ) → without_trailing_zeros (without_trailing_zeros ds) ≡ without_trailing_zeros ds
unfolding without_trailing_zeros
zeros-gone [] = refl
zeros-gone (d ∷ ds) = zeros-again-gone d (without_trailing_zeros ds) (zeros-gone ds)

pub decimals-last : (n : ℕ) → 0 < n → without_trailing_zeros (decimals n) ≡ decimals n
decimals-last n some = ap without_trailing_zeros (decimals-some n some) ∙ zeros-gone (nine_digits n) ∙ sym (decimals-some n some)

decimals-zero : length (decimals 0) ≡ 1
unfolding without_trailing_zeros
decimals-zero = refl

pub decimals-many : (n : ℕ) → 1 < length (decimals n) → without_trailing_zeros (decimals n) ≡ decimals n
decimals-many n many = elim (cases_lt 0 n) as (λ _. without_trailing_zeros (decimals n) ≡ decimals n) [
  | inl some ↦ decimals-last n some
  | inr none ↦ (let z : n ≡ 0 = omega arith in absurd (omega (arith, many, ap (λ k. length (decimals k)) z, decimals-zero)))
]

pub decimals-present : (n : ℕ) → 0 < length (decimals n)
decimals-present n = omega arith

-- ---- the number of nine digits
pub value-nine : (n : ℕ) → n < 1_000_000_000 → fold step 0 (nine_digits n) ≡ n
value-nine n small =
    ap (λ x. fold step x (drop 1 (nine_digits n))) (step-one (n / 100_000_000) (omega arith))
    ∙ ap (λ x. fold step x (drop 2 (nine_digits n))) (step-digit (n / 10_000_000) (n / 100_000_000) (omega arith))
    ∙ ap (λ x. fold step x (drop 3 (nine_digits n))) (step-digit (n / 1_000_000) (n / 10_000_000) (omega arith))
    ∙ ap (λ x. fold step x (drop 4 (nine_digits n))) (step-digit (n / 100_000) (n / 1_000_000) (omega arith))
    ∙ ap (λ x. fold step x (drop 5 (nine_digits n))) (step-digit (n / 10_000) (n / 100_000) (omega arith))
    ∙ ap (λ x. fold step x (drop 6 (nine_digits n))) (step-digit (n / 1_000) (n / 10_000) (omega arith))
    ∙ ap (λ x. fold step x (drop 7 (nine_digits n))) (step-digit (n / 100) (n / 1_000) (omega arith))
    ∙ ap (λ x. fold step x (drop 8 (nine_digits n))) (step-digit (n / 10) (n / 100) (omega arith))
    ∙ step-digit n (n / 10) refl

-- ---- the text of a fraction
pub fraction-none : (n : ℕ) → n ≡ 0 → fraction_text n ≡ []
fraction-none n e = ap fraction_text e

pub fraction-some : (n : ℕ) → 0 < n → fraction_text n ≡ 46 ∷ decimals n
fraction-some n h = grind (arith, nat_tests)

pub length-fraction : (n : ℕ) → length (fraction_text n) ≤ 10
length-fraction n = elim (cases_lt 0 n) [
  | inl some ↦ omega (arith, ap length (fraction-some n some), length-decimals n)
  | inr none ↦ (let e : n ≡ 0 = omega arith in omega (arith, ap length (fraction-none n e)))
]

-- The digits of a fraction have this many nanoseconds: the digits go on with zeros.
abbrev pub fraction_number : List ℕ → ℕ
fraction_number digits = fold step (fold step 0 digits) (replicate (9 - length digits) 48)

pub value-some : (n : ℕ) → n < 1_000_000_000 → fraction_number (decimals n) ≡ n
value-some n small =
    sym (fold-append step 0 (decimals n) (replicate (9 - length (decimals n)) 48)) ∙ ap (fold step 0) (decimals-zeros n) ∙ value-nine n small
