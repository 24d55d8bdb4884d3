-- Digits in a text.
use Rattle.std.proofs.Common.{◌≡◌, ℕ, zero, suc, ◌+◌, ◌*◌, ◌<◌, ◌≤◌, List, [], ◌∷◌, ◌++◌, length, refl, sym, ap, ◌∙◌, arith, inl, inr}
use Rattle.std.specs.Char.{digit_value}
use Rattle.std.specs.Str.Parse.{AllDigits, digits_value_after}
use Rattle.std.proofs.lemmas.Bool.{cases_lt}
use Rattle.std.proofs.lemmas.Str.{digit_value_digit}
use Rattle.std.proofs.lemmas.Str.Parse.{digit_from_value}
use Rattle.cal_text.specs.Shape.{Shape, unmatched_bytes, Digits, UpTo, ParsesDigits}
use Rattle.cal_text.proofs.Parts.{BeginsOutside, unmatched_bytes-outside}
use Rattle.cal_text.proofs.Stops.{IsIn, in_or_out, unmatched_bytes-in, unmatched_bytes-out, unmatched_bytes-end, unmatched_bytes-branch_in, unmatched_bytes-branch_out, unmatched_bytes-branch_end}

pub is_digit : (x : ℕ) → digit_value x < 10 → IsIn 48 9 x
is_digit x h = let range = digit_from_value x h in (range.0, range.1)

pub has_value : (x : ℕ) → IsIn 48 9 x → digit_value x + 48 ≡ x
has_value x h = digit_value_digit x (h.0, h.1)

pub digit_is : (x : ℕ) → IsIn 48 9 x → digit_value x < 10
digit_is x h = omega (arith, has_value x h, h.1)

-- ---- k digits
abbrev pub IsExact : ℕ → List ℕ → Type 0
IsExact k ds = AllDigits 10 ds × (length ds ≡ k)

pub exact-each : (k : ℕ) (f : Shape) (ds rest : List ℕ) → IsExact k ds → unmatched_bytes (Digits k f) (ds ++ rest) ≡ unmatched_bytes f rest
exact-each zero f [] rest h = refl
exact-each zero f (x ∷ xs) rest h = absurd (omega (arith, h.1))
exact-each (suc k) f [] rest h = absurd (omega (arith, h.1))
exact-each (suc k) f (x ∷ xs) rest h =
    unmatched_bytes-in 48 9 (Digits k f) x (xs ++ rest) (is_digit x h.0.0) ∙ exact-each k f xs rest (h.0.1, omega (arith, h.1))

pub exact-one : (k : ℕ) (ds es r s : List ℕ) → length ds ≡ k → length es ≡ k → ds ++ r ≡ es ++ s → (ds ≡ es) × (r ≡ s)
exact-one k [] [] r s a b e = (refl, e)
exact-one k [] (y ∷ ys) r s a b e = absurd (omega (arith, a, b))
exact-one k (x ∷ xs) [] r s a b e = absurd (omega (arith, a, b))
exact-one zero (x ∷ xs) (y ∷ ys) r s a b e = absurd (omega (arith, a))
exact-one (suc k) (x ∷ xs) (y ∷ ys) r s a b e =
    let first : x ≡ y = cc in
    let next : xs ++ r ≡ ys ++ s = cc in
    let found = exact-one k xs ys r s (omega (arith, a)) (omega (arith, b)) next in
    (ap (λ n. n ∷ xs) first ∙ ap (λ ds. y ∷ ds) found.0, found.1)

-- those that a scanner read
pub reads-scans : (k n : ℕ) (f : Shape) (old new : List ℕ) → ParsesDigits old new k n → unmatched_bytes (Digits k f) old ≡ unmatched_bytes f new
reads-scans k n f old new h = ap (unmatched_bytes (Digits k f)) h.bytes_are ∙ exact-each k f h.digits new (h.all, h.count_is)

-- ---- k digits or more
abbrev pub IsCount : ℕ → ℕ → List ℕ → Type 0
IsCount k more ds = AllDigits 10 ds × (k ≤ length ds) × (length ds ≤ k + more)

pub counted-each : (k more : ℕ) (f : Shape) (ds rest : List ℕ) → IsCount k more ds → BeginsOutside 48 9 rest → unmatched_bytes (Digits k (UpTo more f)) (ds ++ rest) ≡ unmatched_bytes f rest
counted-each zero zero f [] rest h out = refl
counted-each zero zero f (x ∷ xs) rest h out = absurd (omega (arith, h.2))
counted-each zero (suc m) f [] rest h out = unmatched_bytes-outside 48 9 (UpTo m f) f rest out
counted-each zero (suc m) f (x ∷ xs) rest h out =
    unmatched_bytes-branch_in 48 9 (UpTo m f) f x (xs ++ rest) (is_digit x h.0.0) ∙ counted-each zero m f xs rest (h.0.1, omega arith, omega (arith, h.2)) out
counted-each (suc k) m f [] rest h out = absurd (omega (arith, h.1))
counted-each (suc k) m f (x ∷ xs) rest h out =
    unmatched_bytes-in 48 9 (Digits k (UpTo m f)) x (xs ++ rest) (is_digit x h.0.0) ∙ counted-each k m f xs rest (h.0.1, omega (arith, h.1), omega (arith, h.2)) out

pub record Counted (k more : ℕ) (f : Shape) (bytes : List ℕ) : Type 0 where
  pub value : List ℕ
  pub rest : List ℕ
  pub valid : IsCount k more value
  pub bytes_are : bytes ≡ value ++ rest
  pub next : unmatched_bytes f rest ≡ 0

no_digits : (m : ℕ) (f : Shape) (bytes : List ℕ) → unmatched_bytes f bytes ≡ 0 → Counted 0 m f bytes
no_digits m f bytes e = record { value = []; rest = bytes; valid = (tt, omega arith, omega arith); bytes_are = refl; next = e }

pub counted-only : (k more : ℕ) (f : Shape) (bytes : List ℕ) → unmatched_bytes (Digits k (UpTo more f)) bytes ≡ 0 → Counted k more f bytes
counted-only zero zero f bytes e = no_digits 0 f bytes e
counted-only zero (suc m) f [] e = no_digits (suc m) f [] (sym (unmatched_bytes-branch_end 48 9 (UpTo m f) f) ∙ e)
counted-only zero (suc m) f (x ∷ xs) e =
    elim (in_or_out 48 9 x) as (λ _. Counted 0 (suc m) f (x ∷ xs)) [
      | inl here ↦
          let a = counted-only zero m f xs (sym (unmatched_bytes-branch_in 48 9 (UpTo m f) f x xs here) ∙ e) in
          record {
            value = x ∷ a.value;
            rest = a.rest;
            valid = ((digit_is x here, a.valid.0), omega arith, omega (arith, a.valid.2));
            bytes_are = ap (λ ds. x ∷ ds) a.bytes_are;
            next = a.next;
          }
      | inr out ↦ no_digits (suc m) f (x ∷ xs) (sym (unmatched_bytes-branch_out 48 9 (UpTo m f) f x xs out) ∙ e)
    ]
counted-only (suc k) m f [] e = absurd (omega (arith, e, unmatched_bytes-end 48 9 (Digits k (UpTo m f))))
counted-only (suc k) m f (x ∷ xs) e =
    elim (in_or_out 48 9 x) as (λ _. Counted (suc k) m f (x ∷ xs)) [
      | inl here ↦
          let a = counted-only k m f xs (sym (unmatched_bytes-in 48 9 (Digits k (UpTo m f)) x xs here) ∙ e) in
          record {
            value = x ∷ a.value;
            rest = a.rest;
            valid = ((digit_is x here, a.valid.0), omega (arith, a.valid.1), omega (arith, a.valid.2));
            bytes_are = ap (λ ds. x ∷ ds) a.bytes_are;
            next = a.next;
          }
      | inr out ↦ absurd (omega (arith, e, unmatched_bytes-out 48 9 (Digits k (UpTo m f)) x xs out))
    ]

pub counted-one : (ds es r s : List ℕ) → AllDigits 10 ds → AllDigits 10 es → BeginsOutside 48 9 r → BeginsOutside 48 9 s → ds ++ r ≡ es ++ s → (ds ≡ es) × (r ≡ s)
counted-one [] [] r s h k a b e = (refl, e)
counted-one [] (y ∷ ys) r s h k a b e = absurd (a y (ys ++ s) e (is_digit y k.0))
counted-one (x ∷ xs) [] r s h k a b e = absurd (b x (xs ++ r) (sym e) (is_digit x h.0))
counted-one (x ∷ xs) (y ∷ ys) r s h k a b e =
    let first : x ≡ y = cc in
    let next : xs ++ r ≡ ys ++ s = cc in
    let found = counted-one xs ys r s h.1 k.1 a b next in
    (ap (λ n. n ∷ xs) first ∙ ap (λ ds. y ∷ ds) found.0, found.1)

-- ---- digits of which one is not 0
pub value-most : (n : ℕ) (ds : List ℕ) → n ≤ digits_value_after 10 n ds
value-most n [] = omega arith
value-most n (x ∷ xs) = omega (arith, value-most (n * 10 + digit_value x) xs)

pub zero_byte : (x : ℕ) → IsIn 48 9 x → ¬ IsIn 49 8 x → x ≡ 48
zero_byte x here out =
    elim (cases_lt 48 x) as (λ _. x ≡ 48) [ inl more ↦ absurd (out (omega arith, omega (arith, here.1))) | inr few ↦ omega (arith, here.0, few) ]
