-- The digits of a year, two at a time.
use Rattle.std.proofs.Common.{◌≡◌, ℕ, ℤ, ◌+◌, ◌/◌, ◌%◌, ◌<◌, ◌≤◌, List, [], ◌∷◌, ◌++◌, append_assoc, length, length-append, ap, ◌∙◌, arith, inl, inr}
use Rattle.std.specs.Prelude.{unsigned_abs}
use Rattle.cal_units.specs.Digits.{digit, two_digits, digits_at_least}
use Rattle.cal_units.specs.YearText.{sign_text, year_text}
use Rattle.cal_units.proofs.Digits.{pair_step, digits_at_least-none, digits_at_least-one, digits_at_least-two, decimal-two}

-- The digits of the hundreds, and the last two digits.
halves : (n : ℕ) → n < 1_000_000 → digits_at_least 4 n ≡ digits_at_least 2 (n / 100) ++ two_digits (n % 100)
halves n high = pair_step 4 n (omega arith) (inl (omega arith))

pub four_digits : (n : ℕ) → n < 10_000 → digits_at_least 4 n ≡ two_digits (n / 100 % 100) ++ two_digits (n % 100)
four_digits n high =
    let same : n / 100 ≡ n / 100 % 100 = omega arith in
    halves n (omega arith) ∙ ap (λ l. l ++ two_digits (n % 100)) (digits_at_least-two (n / 100) (omega arith) ∙ ap two_digits same)

-- One or two digits come before them.
more_digits : (n : ℕ) (front : List ℕ) → 10_000 ≤ n → n < 1_000_000 → digits_at_least 0 (n / 10_000) ≡ front
    → digits_at_least 4 n ≡ (front ++ two_digits (n / 100 % 100)) ++ two_digits (n % 100)
more_digits n front low high e =
    let same : n / 100 / 100 ≡ n / 10_000 = omega arith in
    halves n high ∙ ap (λ l. l ++ two_digits (n % 100)) (pair_step 2 (n / 100) (omega arith) (inr (omega arith)) ∙ ap (λ l. l ++ two_digits (n / 100 % 100)) (ap (digits_at_least 0) same ∙ e))

pub five_digits : (n : ℕ) → 10_000 ≤ n → n < 100_000 → digits_at_least 4 n ≡ (digit (n / 10_000) ∷ two_digits (n / 100 % 100)) ++ two_digits (n % 100)
five_digits n low high = more_digits n (digit (n / 10_000) ∷ []) low (omega arith) (digits_at_least-one 0 (n / 10_000) (omega arith) (omega arith))

pub six_digits : (n : ℕ) → 100_000 ≤ n → n < 1_000_000 → digits_at_least 4 n ≡ (two_digits (n / 10_000) ++ two_digits (n / 100 % 100)) ++ two_digits (n % 100)
six_digits n low high = more_digits n (two_digits (n / 10_000)) (omega arith) high (digits_at_least-none (n / 10_000) ∙ decimal-two (n / 10_000) (omega arith) (omega arith))

-- The lengths of years.
pub length-four : (n : ℕ) → n < 10_000 → length (digits_at_least 4 n) ≡ 4
length-four n high = ap length (four_digits n high)

pub length-five : (n : ℕ) → 10_000 ≤ n → n < 100_000 → length (digits_at_least 4 n) ≡ 5
length-five n low high = ap length (five_digits n low high)

pub length-six : (n : ℕ) → 100_000 ≤ n → n < 1_000_000 → length (digits_at_least 4 n) ≡ 6
length-six n low high = ap length (six_digits n low high)

pub length-year_text : (y : ℤ) → length (year_text y) ≡ length (sign_text y) + length (digits_at_least 4 (unsigned_abs y))
length-year_text y = length-append (sign_text y) (digits_at_least 4 (unsigned_abs y))

pub ruleset years = (four_digits, five_digits, six_digits, length-four, length-five, length-six, append_assoc)

pub ruleset year_lengths = (length-year_text, length-four, length-five, length-six)
