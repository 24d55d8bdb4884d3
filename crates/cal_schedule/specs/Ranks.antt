-- Laws for callers: the rank of a day is the number of days before it that pass a test. It gives
-- the index of the day in a list of such days.
use Rattle.std.proofs.Common.{◌≡◌, ℕ, zero, suc, ◌+◌, ◌*◌, ◌<◌, ◌≤◌, refl, sym, ap, ◌∙◌, arith, ◌∷◌, filter, length, slice_get, Some, None, Bool, true, false, inl, inr, add-one}
use Rattle.std.proofs.Math.Nat.{suc-mul, zero-mul}
use Rattle.std.proofs.lemmas.Bool.{cases_lt, cases_Bool, false≢true}
use Rattle.std.proofs.lemmas.Option.{slice_get_past}
use Rattle.std.specs.Int.{from_bool}
use Rattle.cal_time.specs.IsoWeekDate.{count_before}
use Rattle.cal_time.specs.Occurrences.{days_from, days_back_from}

-- The count of the days before day 0 is 0.
pub count-none : (test : ℕ → Bool) → count_before test 0 ≡ 0
unfolding count_before
count-none test = refl

-- The count rises by 1 after a day that passes.
pub count-yes : (test : ℕ → Bool) (n : ℕ) → test n ≡ true → count_before test (suc n) ≡ count_before test n + 1
unfolding count_before
count-yes test n h = rw h refl

-- The count stays after a day that doesn't pass.
pub count-no : (test : ℕ → Bool) (n : ℕ) → test n ≡ false → count_before test (suc n) ≡ count_before test n
unfolding count_before
count-no test n h = rw h (omega arith)

-- The count rises by 1 or 0, the number of a `bool` that says if the day passes.
pub count-next : (test : ℕ → Bool) (n : ℕ) (b : Bool) (k : ℕ) → b ≡ test n → k ≡ from_bool b → count_before test (n + 1) ≡ count_before test n + k
count-next test n true k e f = let one : k ≡ 1 = f in omega (arith, ap (count_before test) (add-one n), count-yes test n (sym e))
count-next test n false k e f = let none : k ≡ 0 = f in omega (arith, ap (count_before test) (add-one n), count-no test n (sym e))

-- The number of a `bool` is at most 1.
pub bit-most : (b : Bool) (k : ℕ) → k ≡ from_bool b → k ≤ 1
bit-most true k f = let one : k ≡ 1 = f in omega arith
bit-most false k f = let none : k ≡ 0 = f in omega arith

-- The count doesn't fall from one day to the next.
count-grows : (test : ℕ → Bool) (n : ℕ) → count_before test n ≤ count_before test (suc n)
count-grows test n =
    elim (cases_Bool (test n)) [
      | inl hit ↦ omega (arith, count-yes test n hit)
      | inr miss ↦ omega (arith, count-no test n miss)
    ]

-- The count before a later day is not smaller.
pub count-rises : (test : ℕ → Bool) (m n : ℕ) → m ≤ n → count_before test m ≤ count_before test n
count-rises test m zero h = let e : m ≡ 0 = omega arith in omega (arith, ap (count_before test) e)
count-rises test m (suc n) h =
    elim (cases_lt n m) as (λ _. count_before test m ≤ count_before test (suc n)) [
      | inl past ↦ let e : m ≡ suc n = omega arith in omega (arith, ap (count_before test) e)
      | inr within ↦ omega (arith, count-rises test m n within, count-grows test n)
    ]

-- The count is higher after a day that passes.
pub count-less : (test : ℕ → Bool) (m n : ℕ) → test m ≡ true → m < n → count_before test m < count_before test n
count-less test m n on h = omega (arith, count-yes test m on, count-rises test (suc m) n (omega arith))

-- At most n days before day n pass.
pub count-most : (test : ℕ → Bool) (n : ℕ) → count_before test n ≤ n
count-most test zero = omega (arith, count-none test)
count-most test (suc n) =
    elim (cases_Bool (test n)) [
      | inl hit ↦ omega (arith, count-yes test n hit, count-most test n)
      | inr miss ↦ omega (arith, count-no test n miss, count-most test n)
    ]

-- If the test repeats every 7 days, the count rises in 7 days by the count of the first 7 days.
count-week : (test : ℕ → Bool) → ((n : ℕ) → test (n + 7) ≡ test n) → (n : ℕ) → count_before test (n + 7) ≡ count_before test n + count_before test 7
count-week test same zero =
    let e : zero + 7 ≡ 7 = omega arith in
    omega (arith, ap (count_before test) e, count-none test)
count-week test same (suc n) =
    let e : suc n + 7 ≡ suc (n + 7) = omega arith in
    elim (cases_Bool (test n)) [
      | inl hit ↦ omega (arith, ap (count_before test) e, count-yes test (n + 7) (same n ∙ hit), count-yes test n hit, count-week test same n)
      | inr miss ↦ omega (arith, ap (count_before test) e, count-no test (n + 7) (same n ∙ miss), count-no test n miss, count-week test same n)
    ]

-- If the test repeats every 7 days, the count rises in q weeks by q times the count of the first 7
-- days.
pub count-weeks : (test : ℕ → Bool) → ((n : ℕ) → test (n + 7) ≡ test n) → (q n : ℕ) → count_before test (q * 7 + n) ≡ q * count_before test 7 + count_before test n
count-weeks test same zero n =
    let e : zero * 7 + n ≡ n = omega arith in
    omega (arith, ap (count_before test) e, zero-mul (count_before test 7))
count-weeks test same (suc q) n =
    let e : suc q * 7 + n ≡ (q * 7 + n) + 7 = omega arith in
    omega (arith, ap (count_before test) e, count-week test same (q * 7 + n), count-weeks test same q n, suc-mul q (count_before test 7))

-- If day n passes, the list from day n on is this day and then the list of the other days.
pub from-yes : (test : ℕ → Bool) (n count : ℕ) → test n ≡ true → filter test (days_from n (suc count)) ≡ n ∷ filter test (days_from (n + 1) count)
unfolding days_from
from-yes test n count h = rw h refl

-- If day n doesn't pass, the list from day n on is the list of the other days.
pub from-no : (test : ℕ → Bool) (n count : ℕ) → test n ≡ false → filter test (days_from n (suc count)) ≡ filter test (days_from (n + 1) count)
unfolding days_from
from-no test n count h = rw h refl

-- If day n passes, the list of the days back from day n is this day and then the list of the days
-- before it.
back-yes : (test : ℕ → Bool) (n : ℕ) → test n ≡ true → filter test (days_back_from (suc n)) ≡ n ∷ filter test (days_back_from n)
unfolding days_back_from
back-yes test n h = rw h refl

-- If day n doesn't pass, the list of the days back from day n is the list of the days before it.
back-no : (test : ℕ → Bool) (n : ℕ) → test n ≡ false → filter test (days_back_from (suc n)) ≡ filter test (days_back_from n)
unfolding days_back_from
back-no test n h = rw h refl

-- Without days the list is empty.
none-from : (test : ℕ → Bool) (n : ℕ) → length (filter test (days_from n 0)) ≡ 0
unfolding days_from
none-from test n = refl

-- Before day 0 the list is empty.
none-back : (test : ℕ → Bool) → length (filter test (days_back_from 0)) ≡ 0
unfolding days_back_from
none-back test = refl

-- The length of the list of `count` days from day n on is the count before day n + count, less the
-- count before day n.
pub length-from : (test : ℕ → Bool) (n count : ℕ) → length (filter test (days_from n count)) + count_before test n ≡ count_before test (n + count)
length-from test n zero =
    let e : n + zero ≡ n = omega arith in
    omega (arith, ap (count_before test) e, none-from test n)
length-from test n (suc count) =
    let e : n + suc count ≡ n + 1 + count = omega arith in
    let f : n + 1 ≡ suc n = omega arith in
    elim (cases_Bool (test n)) [
      | inl hit ↦ omega (arith, ap (count_before test) e, ap (count_before test) f, count-yes test n hit, ap length (from-yes test n count hit), length-from test (n + 1) count)
      | inr miss ↦ omega (arith, ap (count_before test) e, ap (count_before test) f, count-no test n miss, ap length (from-no test n count miss), length-from test (n + 1) count)
    ]

-- The length of the list of the days before day n is the count before day n.
length-back : (test : ℕ → Bool) (n : ℕ) → length (filter test (days_back_from n)) ≡ count_before test n
length-back test zero = omega (arith, none-back test, count-none test)
length-back test (suc n) =
    elim (cases_Bool (test n)) [
      | inl hit ↦ omega (arith, count-yes test n hit, ap length (back-yes test n hit), length-back test n)
      | inr miss ↦ omega (arith, count-no test n miss, ap length (back-no test n miss), length-back test n)
    ]

-- A day that passes is different from a day that doesn't.
apart : (test : ℕ → Bool) (m n : ℕ) → test m ≡ false → test n ≡ true → m ≡ n → ⊥
apart test m n miss on e = false≢true (sym miss ∙ ap test e ∙ on)

-- A day that passes, and is not before a day that doesn't, is after it.
after-no : (test : ℕ → Bool) (n x : ℕ) → test n ≡ false → test x ≡ true → n ≤ x → n < x
after-no test n x miss on h =
    elim (cases_lt n x) as (λ _. n < x) [ inl less ↦ less | inr most ↦ absurd (apart test n x miss on (omega arith)) ]

-- A day that passes, and is not after a day that doesn't, is before it.
before-no : (test : ℕ → Bool) (n x : ℕ) → test n ≡ false → test x ≡ true → x ≤ n → x < n
before-no test n x miss on h =
    elim (cases_lt x n) as (λ _. x < n) [ inl less ↦ less | inr most ↦ absurd (apart test n x miss on (omega arith)) ]

-- Two days that pass are the same if they have the same rank.
same-rank : (test : ℕ → Bool) (n x : ℕ) → test n ≡ true → n ≤ x → count_before test x ≡ count_before test n → n ≡ x
same-rank test n x hit h e =
    elim (cases_lt n x) as (λ _. n ≡ x) [ inl less ↦ absurd (omega (arith, count-less test n x hit less)) | inr most ↦ omega arith ]

-- A day with a higher rank comes later.
pub greater-rank : (test : ℕ → Bool) (m n : ℕ) → count_before test m < count_before test n → m < n
greater-rank test m n h =
    elim (cases_lt m n) as (λ _. m < n) [ inl less ↦ less | inr most ↦ absurd (omega (arith, count-rises test n m most)) ]

-- A day that passes, whose rank is k more than the rank of day n, is at index k of the days from
-- day n on.
pub nth-from : (test : ℕ → Bool) (n count k x : ℕ) → n ≤ x → x < n + count → test x ≡ true → count_before test x ≡ count_before test n + k
    → slice_get (filter test (days_from n count)) k ≡ Some x
nth-from test n zero k x low high on e = absurd (omega arith)
nth-from test n (suc count) zero x low high on e =
    let f : n + 1 ≡ suc n = omega arith in
    elim (cases_Bool (test n)) as (λ _. slice_get (filter test (days_from n (suc count))) 0 ≡ Some x) [
      | inl hit ↦ ap (λ days. slice_get days 0) (from-yes test n count hit) ∙ ap Some (same-rank test n x hit low (omega arith))
      | inr miss ↦
          let later = after-no test n x miss on low in
          ap (λ days. slice_get days 0) (from-no test n count miss)
          ∙ nth-from test (n + 1) count 0 x (omega arith) (omega arith) on (omega (arith, ap (count_before test) f, count-no test n miss))
    ]
nth-from test n (suc count) (suc k) x low high on e =
    let f : n + 1 ≡ suc n = omega arith in
    elim (cases_Bool (test n)) as (λ _. slice_get (filter test (days_from n (suc count))) (suc k) ≡ Some x) [
      | inl hit ↦
          let later = greater-rank test n x (omega arith) in
          ap (λ days. slice_get days (suc k)) (from-yes test n count hit)
          ∙ nth-from test (n + 1) count k x (omega arith) (omega arith) on (omega (arith, ap (count_before test) f, count-yes test n hit))
      | inr miss ↦
          let later = after-no test n x miss on low in
          ap (λ days. slice_get days (suc k)) (from-no test n count miss)
          ∙ nth-from test (n + 1) count (suc k) x (omega arith) (omega arith) on (omega (arith, ap (count_before test) f, count-no test n miss))
    ]

-- A list from day n on has no day at index k if at most k of its days pass.
pub none-nth_from : (test : ℕ → Bool) (n count k : ℕ) → count_before test (n + count) ≤ count_before test n + k → slice_get (filter test (days_from n count)) k ≡ None
none-nth_from test n count k h = slice_get_past (filter test (days_from n count)) k (omega (arith, length-from test n count))

-- A day that passes, whose rank is k + 1 less than the rank of day n, is at index k of the days
-- before day n, from the nearest.
pub nth-back : (test : ℕ → Bool) (n k x : ℕ) → x < n → test x ≡ true → count_before test x + (k + 1) ≡ count_before test n
    → slice_get (filter test (days_back_from n)) k ≡ Some x
nth-back test zero k x h on e = absurd (omega arith)
nth-back test (suc n) zero x h on e =
    elim (cases_Bool (test n)) as (λ _. slice_get (filter test (days_back_from (suc n))) 0 ≡ Some x) [
      | inl hit ↦
          let same : n ≡ x = sym (same-rank test x n on (omega arith) (omega (arith, count-yes test n hit))) in
          ap (λ days. slice_get days 0) (back-yes test n hit) ∙ ap Some same
      | inr miss ↦
          ap (λ days. slice_get days 0) (back-no test n miss)
          ∙ nth-back test n 0 x (before-no test n x miss on (omega arith)) on (omega (arith, count-no test n miss))
    ]
nth-back test (suc n) (suc k) x h on e =
    elim (cases_Bool (test n)) as (λ _. slice_get (filter test (days_back_from (suc n))) (suc k) ≡ Some x) [
      | inl hit ↦
          let less : count_before test x < count_before test n = omega (arith, count-yes test n hit) in
          ap (λ days. slice_get days (suc k)) (back-yes test n hit)
          ∙ nth-back test n k x (greater-rank test x n less) on (omega (arith, count-yes test n hit))
      | inr miss ↦
          ap (λ days. slice_get days (suc k)) (back-no test n miss)
          ∙ nth-back test n (suc k) x (before-no test n x miss on (omega arith)) on (omega (arith, count-no test n miss))
    ]

-- The list of the days before day n has no day at index k if at most k of them pass.
pub none-nth_back : (test : ℕ → Bool) (n k : ℕ) → count_before test n ≤ k → slice_get (filter test (days_back_from n)) k ≡ None
none-nth_back test n k h = slice_get_past (filter test (days_back_from n)) k (omega (arith, length-back test n))

-- A day that passes comes after day m if its rank is not less than the number of such days up to
-- day m.
pub below-rank : (test : ℕ → Bool) (m x : ℕ) → test x ≡ true → count_before test (m + 1) ≤ count_before test x → m < x
below-rank test m x on h =
    elim (cases_lt m x) as (λ _. m < x) [ inl less ↦ less | inr most ↦ absurd (omega (arith, count-less test x (m + 1) on (omega arith))) ]
