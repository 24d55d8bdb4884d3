-- The digits of numbers, one, two or three at a time.
use Rattle.std.proofs.Common.{◌≡◌, ◌⊎◌, ℕ, zero, suc, ◌+◌, ◌-◌, ◌*◌, ◌/◌, ◌%◌, ◌<◌, ◌≤◌, ◌^◌, List, [], ◌∷◌, ◌++◌, length, replicate, append_assoc, length-append, sym, ap, ◌∙◌, arith, inl, inr}
use Rattle.std.specs.Prelude.{decimal}
use Rattle.std.specs.Str.{IsAscii}
use Rattle.std.proofs.lemmas.Bool.{cases_lt}
use Rattle.std.proofs.lemmas.Fmt.{decimal_digit, decimal_step, decimal_step_wide, length-decimal-le, length-decimal-le_wide, IsAscii-decimal}
use Rattle.std.proofs.lemmas.List.{length-replicate, replicate_more}
use Rattle.std.proofs.lemmas.Str.{IsAscii-append}
use Rattle.std.proofs.lemmas.Str.Ascii.{IsAscii-nil, IsAscii-cons, IsAscii-from_all}
use Rattle.std.proofs.lemmas.List.Elements.{All-from_recursion}
use Rattle.cal_units.specs.Digits.{digit, two_digits, digits_at_least, nine_digits}

-- Quotients and remainders by 10 and by 100.
tenth-below_10 : (n : ℕ) → n < 10 → n / 10 ≡ 0
tenth-below_10 n low = omega arith

rest-below_10 : (n : ℕ) → n < 10 → n ≡ n % 10
rest-below_10 n low = omega arith

hundredth : (n : ℕ) → n / 10 / 10 ≡ n / 100
hundredth n = omega arith

tens : (n : ℕ) → n / 10 % 10 ≡ n % 100 / 10
tens n = omega arith

ones : (n : ℕ) → n % 10 ≡ n % 100 % 10
ones n = omega arith

tenth-below : (n : ℕ) → n < 2 ^ 64 → n / 10 < 2 ^ 64
tenth-below n high = omega arith

-- The number of zeros before the digits of a number and of its tenth.
zeros_of_many : (w k m : ℕ) → k ≡ m + 1 → w - k ≡ w - 1 - m
zeros_of_many w k m e = omega arith

zeros_of_one : (w k m : ℕ) → 1 < w → k ≡ 1 → m ≡ 1 → w - k ≡ (w - 1 - m) + 1
zeros_of_one w k m wide e f = omega arith

two_less : (w : ℕ) → w - 1 - 1 ≡ w - 2
two_less w = omega arith

-- A number with two digits or more.
step_of_many : (w n : ℕ) → 10 ≤ n → n < 2 ^ 64
    → digits_at_least w n ≡ digits_at_least (w - 1) (n / 10) ++ digit (n % 10) ∷ []
step_of_many w n low high =
    let step = decimal_step n low high in
    let shorter = zeros_of_many w (length (decimal n)) (length (decimal (n / 10))) (ap length step ∙ length-append (decimal (n / 10)) (digit (n % 10) ∷ [])) in
    (λ i. replicate (shorter i) 48 ++ step i)
    ∙ sym (append_assoc (replicate (w - 1 - length (decimal (n / 10))) 48) (decimal (n / 10)) (digit (n % 10) ∷ []))

-- A digit after zeros.
zero_digit : (n : ℕ) → n < 10 → decimal (n / 10) ≡ 48 ∷ []
zero_digit n low = ap decimal (tenth-below_10 n low) ∙ decimal_digit 0 (omega arith)

last_digit : (n : ℕ) → n < 10 → decimal n ≡ digit (n % 10) ∷ []
last_digit n low = decimal_digit n low ∙ ap (λ d. digit d ∷ []) (rest-below_10 n low)

step_of_one : (w n : ℕ) → n < 10 → 1 < w
    → digits_at_least w n ≡ digits_at_least (w - 1) (n / 10) ++ digit (n % 10) ∷ []
step_of_one w n low wide =
    let zeros = w - 1 - length (decimal (n / 10)) in
    let widths = zeros_of_one w (length (decimal n)) (length (decimal (n / 10))) wide (ap length (decimal_digit n low)) (ap length (zero_digit n low)) in
    (λ i. replicate (widths i) 48 ++ last_digit n low i)
    ∙ (λ i. sym (replicate_more zeros 48) i ++ digit (n % 10) ∷ [])
    ∙ (λ i. (replicate zeros 48 ++ sym (zero_digit n low) i) ++ digit (n % 10) ∷ [])

-- The last digit comes after the digits of n / 10, with a width that is 1 less.
digits_step : (w n : ℕ) → n < 2 ^ 64 → (1 < w) ⊎ (9 < n)
    → digits_at_least w n ≡ digits_at_least (w - 1) (n / 10) ++ digit (n % 10) ∷ []
digits_step w n high more = elim (cases_lt n 10) [
  | inl low ↦ step_of_one w n low (elim more [ inl wide ↦ wide | inr many ↦ absurd (omega (arith, many)) ])
  | inr low ↦ step_of_many w n low high
]

-- The last two digits come after the digits of n / 100, with a width that is 2 less.
pair_joined : (w n : ℕ) → digits_at_least (w - 1 - 1) (n / 10 / 10) ++ digit (n / 10 % 10) ∷ digit (n % 10) ∷ [] ≡ digits_at_least (w - 2) (n / 100) ++ two_digits (n % 100)
pair_joined w n = λ i. digits_at_least (two_less w i) (hundredth n i) ++ digit (tens n i) ∷ digit (ones n i) ∷ []

pub pair_step : (w n : ℕ) → n < 2 ^ 64 → (2 < w) ⊎ (99 < n)
    → digits_at_least w n ≡ digits_at_least (w - 2) (n / 100) ++ two_digits (n % 100)
pair_step w n high more =
    let last = digits_step w n high (elim more [ inl wide ↦ inl (omega (arith, wide)) | inr many ↦ inr (omega (arith, many)) ]) in
    let front = digits_step (w - 1) (n / 10) (tenth-below n high) (elim more [ inl wide ↦ inl (omega (arith, wide)) | inr many ↦ inr (omega (arith, many)) ]) in
    last ∙ (λ i. front i ++ digit (n % 10) ∷ [])
    ∙ append_assoc (digits_at_least (w - 1 - 1) (n / 10 / 10)) (digit (n / 10 % 10) ∷ []) (digit (n % 10) ∷ [])
    ∙ pair_joined w n

-- A number below 10 is one digit if the width is 0 or 1.
pub digits_at_least-one : (w n : ℕ) → w ≤ 1 → n < 10 → digits_at_least w n ≡ digit n ∷ []
digits_at_least-one w n few low =
    let last : decimal n ≡ digit n ∷ [] = decimal_digit n low in
    let none : w - length (decimal n) ≡ 0 = omega (arith, ap length last) in
    ap (λ k. replicate k 48 ++ decimal n) none ∙ last

-- Numbers of two digits and of three digits.
pub digits_at_least-two : (n : ℕ) → n < 100 → digits_at_least 2 n ≡ two_digits n
digits_at_least-two n high =
    digits_step 2 n (omega arith) (inl (omega arith)) ∙ ap (λ l. l ++ digit (n % 10) ∷ []) (digits_at_least-one 1 (n / 10) (omega arith) (omega arith))

pub digits_at_least-three : (n : ℕ) → n < 1000 → digits_at_least 3 n ≡ digit (n / 100) ∷ two_digits (n % 100)
digits_at_least-three n high =
    pair_step 3 n (omega arith) (inl (omega arith)) ∙ ap (λ l. l ++ two_digits (n % 100)) (digits_at_least-one 1 (n / 100) (omega arith) (omega arith))

-- Numbers without leading zeros.
pub decimal-one : (n : ℕ) → n < 10 → decimal n ≡ digit n ∷ []
decimal-one n low = decimal_digit n low

pub decimal-two : (n : ℕ) → 10 ≤ n → n < 100 → decimal n ≡ two_digits n
decimal-two n low high = decimal_step n low (omega arith) ∙ ap (λ ds. ds ++ digit (n % 10) ∷ []) (decimal_digit (n / 10) (omega arith))

pub digits_at_least-none : (n : ℕ) → digits_at_least 0 n ≡ decimal n
digits_at_least-none n = let none : 0 - length (decimal n) ≡ 0 = omega arith in ap (λ k. replicate k 48 ++ decimal n) none

pub decimal-more : (n : ℕ) → 100 ≤ n → n < 2 ^ 64 → decimal n ≡ decimal (n / 100) ++ two_digits (n % 100)
decimal-more n low high = sym (digits_at_least-none n) ∙ pair_step 0 n high (inr (omega arith)) ∙ ap (λ l. l ++ two_digits (n % 100)) (digits_at_least-none (n / 100))

-- The lengths of numbers.
pub length-one : (n : ℕ) → n < 10 → length (decimal n) ≡ 1
length-one n low = ap length (decimal-one n low)

pub length-two : (n : ℕ) → 10 ≤ n → n < 100 → length (decimal n) ≡ 2
length-two n low high = ap length (decimal-two n low high)

pub length-more : (n : ℕ) → 100 ≤ n → n < 2 ^ 64 → length (decimal n) ≡ length (decimal (n / 100)) + 2
length-more n low high = ap length (decimal-more n low high) ∙ length-append (decimal (n / 100)) (two_digits (n % 100))

pub length-32_bits : (n : ℕ) → n < 2 ^ 32 → length (decimal n) ≤ 10
length-32_bits n small = length-decimal-le 10 n (omega arith) (omega (arith, small)) (omega (arith, small))

pub length-64_bits : (n : ℕ) → n < 2 ^ 64 → length (decimal n) ≤ 20
length-64_bits n small = length-decimal-le 20 n (omega arith) (omega (arith, small)) small

-- The last digit of a 128-bit number comes after the digits of n / 10. There are 39 digits or
-- fewer.
pub decimal-wide : (n : ℕ) → 10 ≤ n → n < 2 ^ 128 → decimal n ≡ decimal (n / 10) ++ digit (n % 10) ∷ []
decimal-wide n low high = decimal_step_wide n low (omega arith)

pub length-wide : (n : ℕ) → 10 ≤ n → n < 2 ^ 128 → length (decimal n) ≡ length (decimal (n / 10)) + 1
length-wide n low high = ap length (decimal-wide n low high) ∙ length-append (decimal (n / 10)) (digit (n % 10) ∷ [])

pub length-128_bits : (n : ℕ) → n < 2 ^ 128 → length (decimal n) ≤ 39
length-128_bits n high = length-decimal-le_wide 39 n (omega arith) (omega arith) (omega arith)

-- Digits are ASCII.
pub two_digits-ascii : (n : ℕ) → n < 100 → IsAscii (two_digits n)
two_digits-ascii n high = IsAscii-from_all (two_digits n) (All-from_recursion (λ byte. byte < 128) (two_digits n) (omega arith, (omega arith, tt)))

pub nine_digits-ascii : (n : ℕ) → n < 1_000_000_000 → IsAscii (nine_digits n)
nine_digits-ascii n high =
    IsAscii-from_all (nine_digits n) (All-from_recursion (λ byte. byte < 128) (nine_digits n)
    (omega arith, (omega arith, (omega arith, (omega arith, (omega arith, (omega arith, (omega arith, (omega arith, (omega arith, tt))))))))))

pub digits_at_least-ascii : (w n : ℕ) → n < 2 ^ 64 → IsAscii (digits_at_least w n)
digits_at_least-ascii w n high = IsAscii-append (replicate (w - length (decimal n)) 48) (decimal n) (zeros-ascii (w - length (decimal n))) (IsAscii-decimal n high)
  where
    zeros-ascii : (k : ℕ) → IsAscii (replicate k 48)
    zeros-ascii zero = IsAscii-nil
    zeros-ascii (suc k) = IsAscii-cons 48 (replicate k 48) (omega arith) (zeros-ascii k)

pub ruleset pairs = (digits_at_least-two, two_digits-ascii)

pub ruleset threes = (digits_at_least-three, append_assoc)

pub ruleset numbers = (decimal-one, decimal-two, decimal-more, length-one, length-two, length-more, append_assoc)

pub ruleset last_digits = (decimal-wide, length-wide, append_assoc)

pub ruleset wide_numbers = (length-128_bits)

pub ruleset short_numbers = (length-32_bits, length-64_bits)
