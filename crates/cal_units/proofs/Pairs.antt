-- The table of the digits of the numbers below 100.
use Rattle.std.proofs.Common.{◌≡◌, ℕ, zero, suc, ◌+◌, ◌*◌, ◌/◌, ◌%◌, ◌<◌, Bool, true, false, cond, nat_eq, List, [], ◌∷◌, ◌++◌, codes, get_or, refl, subst, arith, inl, inr}
use Rattle.std.proofs.lemmas.Bool.{cases_lt}
use Rattle.std.proofs.lemmas.Bool.Decides.{nat_tests}
use Rattle.cal_units.specs.Digits.{digit, two_digits}

unfoldable pub table : List ℕ
table =
    codes "00010203040506070809101112131415161718192021222324252627282930313233343536373839404142434445464748"
    ++ codes "495051525354555657585960616263646566676869707172737475767778798081828384858687888990919293949596979899"

-- The table has the two digits of n.
HasDigits : ℕ → Type 0
HasDigits n = (get_or table (2 * n) 0 ≡ digit (n / 10)) × (get_or table (2 * n + 1) 0 ≡ digit (n % 10))

-- The table has the digits of each number below n.
are_digits : ℕ → Bool
are_digits zero = true
are_digits (suc n) =
    cond (nat_eq (get_or table (2 * n) 0) (digit (n / 10)))
    (cond (nat_eq (get_or table (2 * n + 1) 0) (digit (n % 10))) (are_digits n) false) false

last-pair : (a b x y : ℕ) (rest : Bool) → cond (nat_eq a x) (cond (nat_eq b y) rest false) false ≡ true → ((a ≡ x) × (b ≡ y)) × (rest ≡ true)
last-pair a b x y rest e = ((grind (arith, nat_tests), grind (arith, nat_tests)), grind (arith, nat_tests))

each : (m n : ℕ) → are_digits m ≡ true → n < m → HasDigits n
unfolding are_digits HasDigits
each zero n e h = absurd (omega arith)
each (suc m) n e h =
    let last = last-pair (get_or table (2 * m) 0) (get_or table (2 * m + 1) 0) (digit (m / 10)) (digit (m % 10)) (are_digits m) e in
    elim (cases_lt n m) [
      | inl below ↦ each m n last.1 below
      | inr from ↦ let same : m ≡ n = omega arith in subst HasDigits same last.0
    ]

all : are_digits 100 ≡ true
unfolding are_digits table
all = refl

pub table-pair : (n : ℕ) → n < 100 → get_or table (2 * n) 0 ∷ get_or table (2 * n + 1) 0 ∷ [] ≡ two_digits n
unfolding HasDigits
table-pair n h = let d = each 100 n all h in λ i. d.0 i ∷ d.1 i ∷ []
