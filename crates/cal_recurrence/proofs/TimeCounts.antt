-- The count of the numbers that pass, by their quotients and their remainders.
use Rattle.std.proofs.Common.{◌≡◌, refl, ℕ, zero, suc, ◌+◌, ◌-◌, ◌*◌, ◌≤◌, ap, ◌∙◌, arith, Bool, true, false, inl, inr}
use Rattle.std.proofs.lemmas.Bool.{cases_lt, cases_Bool}
use Rattle.std.proofs.Math.Nat.{zero-mul}
use Rattle.cal_time.specs.IsoWeekDate.{count_before}
use Rattle.cal_schedule.specs.Ranks.{count-none, count-yes, count-no}
use Rattle.cal_recurrence.specs.TimeSearch.{NoneIn, IsFirst}
use Rattle.cal_recurrence.proofs.TimeSteps.{Splits, parts-of}

-- The count stays where no number passes.
pub count-stays : (test : ℕ → Bool) (m n : ℕ) → m ≤ n → NoneIn test m n → count_before test n ≡ count_before test m
count-stays test m zero h none = let e : zero ≡ m = omega arith in ap (count_before test) e
count-stays test m (suc n) h none =
    elim (cases_lt n m) as (λ _. count_before test (suc n) ≡ count_before test m) [
      | inl past ↦ let e : suc n ≡ m = omega arith in ap (count_before test) e
      | inr within ↦ count-no test n (none n within (omega arith)) ∙ count-stays test m n within (λ k low high. none k low (omega arith))
    ]

-- The count after the next number that passes.
pub count-past : (test : ℕ → Bool) (from count e x n : ℕ) → count ≡ count_before test from → IsFirst test from e x → n ≡ x + 1 → count + 1 ≡ count_before test n
count-past test from count e x n is h at =
    let next : n ≡ suc x = omega arith in
    omega (arith, ap (count_before test) next, count-yes test x h.passes, count-stays test from x h.not_before h.none_before)

-- The count within one block of the size.
pub block-off : (test outer inner : ℕ → Bool) (size n j : ℕ) → Splits test outer inner size → outer n ≡ false → j ≤ size
    → count_before test (n * size + j) ≡ count_before test (n * size)
block-off test outer inner size n j h off most =
    count-stays test (n * size) (n * size + j) (omega arith) (λ k low high.
    let parts = parts-of size n (k - n * size) k h.some (omega arith) (omega arith) in
    rw (h.at k, parts.quotient, off) refl)

pub block-on : (test outer inner : ℕ → Bool) (size n j : ℕ) → Splits test outer inner size → outer n ≡ true → j ≤ size
    → count_before test (n * size + j) ≡ count_before test (n * size) + count_before inner j
block-on test outer inner size n zero h on most =
    let e : n * size + zero ≡ n * size = omega arith in
    omega (arith, ap (count_before test) e, count-none inner)
block-on test outer inner size n (suc j) h on most =
    let next : n * size + suc j ≡ suc (n * size + j) = omega arith in
    let parts = parts-of size n j (n * size + j) h.some (omega arith) refl in
    let same : test (n * size + j) ≡ inner j = rw (h.at (n * size + j), parts.quotient, parts.remainder, on) refl in
    let before = block-on test outer inner size n j h on (omega arith) in
    elim (cases_Bool (inner j)) as (λ _. count_before test (n * size + suc j) ≡ count_before test (n * size) + count_before inner (suc j)) [
      | inl hit ↦ omega (arith, ap (count_before test) next, count-yes test (n * size + j) (same ∙ hit), count-yes inner j hit, before)
      | inr miss ↦ omega (arith, ap (count_before test) next, count-no test (n * size + j) (same ∙ miss), count-no inner j miss, before)
    ]

-- The count of whole blocks is the count of the blocks that pass, times the count of one block.
pub blocks : (test outer inner : ℕ → Bool) (size n : ℕ) → Splits test outer inner size → count_before test (n * size) ≡ count_before outer n * count_before inner size
blocks test outer inner size zero h =
    let e : zero * size ≡ zero = omega arith in
    let f : count_before outer zero * count_before inner size ≡ 0 = ap (λ c. c * count_before inner size) (count-none outer) ∙ zero-mul (count_before inner size) in
    omega (arith, ap (count_before test) e, count-none test, f)
blocks test outer inner size (suc n) h =
    let next : suc n * size ≡ n * size + size = omega arith in
    let before = blocks test outer inner size n h in
    elim (cases_Bool (outer n)) as (λ _. count_before test (suc n * size) ≡ count_before outer (suc n) * count_before inner size) [
      | inl hit ↦
          omega (arith, ap (count_before test) next, block-on test outer inner size n size h hit (omega arith), ap (λ c. c * count_before inner size) (count-yes outer n hit), before)
      | inr miss ↦
          omega (arith, ap (count_before test) next, block-off test outer inner size n size h miss (omega arith), ap (λ c. c * count_before inner size) (count-no outer n miss), before)
    ]
