-- Digits that a scanner reads, one after another.
use Rattle.std.proofs.Common.{◌≡◌, ◌≢◌, ℕ, zero, suc, ◌+◌, ◌-◌, ◌*◌, ◌<◌, ◌≤◌, ◌^◌, List, [], ◌∷◌, ◌++◌, refl, sym, ap, ◌∙◌, arith, lit<, length, get_or, take, drop}
use Rattle.std.specs.Char.{digit_value}
use Rattle.std.specs.Str.Parse.{AllDigits, digits_value, digits_value_after}
use Rattle.std.proofs.lemmas.Int.Digits.{digits_push, digits_value_push, digits_value-lt}
use Rattle.std.proofs.Math.Nat.{mul-le-mul_left, pow-le-pow_right, pow-suc}
use Rattle.std.proofs.lemmas.List.{append_assoc, length-append, take_all}
use Rattle.std.proofs.lemmas.Str.{digit_value_digit}
use Rattle.cal_text.specs.Shape.{Shape, Branch, UpTo, unmatched_bytes, ParsesDigits, ParsesMoreDigits}
use Rattle.cal_time.specs.DateText.{digits_at_least}
use Rattle.cal_text.proofs.DigitTexts.{digits-printed}

pub value-of : (d : ℕ) → d < 10 → digit_value (48 + d) ≡ d
value-of d low = omega (arith, digit_value_digit (48 + d) (omega arith, omega arith))

pub one_digit : (d : ℕ) (old new : List ℕ) → d < 10 → old ≡ (48 + d) ∷ new → ParsesDigits old new 1 d
one_digit d old new low e = record {
  digits = (48 + d) ∷ [];
  all = (omega (arith, value-of d low), tt);
  count_is = refl;
  value = omega (arith, value-of d low);
  bytes_are = e;
}

pub one_more : (m d i : ℕ) (old mid new : List ℕ) → ParsesDigits old mid i m → d < 10 → mid ≡ (48 + d) ∷ new → ParsesDigits old new (i + 1) (m * 10 + d)
one_more m d i old mid new h low e = record {
  digits = h.digits ++ (48 + d) ∷ [];
  all = digits_push 10 h.digits (48 + d) h.all (omega (arith, value-of d low));
  count_is = length-append h.digits ((48 + d) ∷ []) ∙ ap (λ k. k + 1) h.count_is;
  value = digits_value_push 10 h.digits (48 + d) ∙ omega (arith, h.value, value-of d low);
  bytes_are = h.bytes_are ∙ ap (λ rest. h.digits ++ rest) e ∙ sym (append_assoc h.digits ((48 + d) ∷ []) new);
}

-- The first two bytes, if both are digits.
pub at_once : (n : ℕ) (old : List ℕ) → 2 ≤ length old → AllDigits 10 (get_or old 0 0 ∷ get_or old 1 0 ∷ []) × (n ≡ digits_value 10 (get_or old 0 0 ∷ get_or old 1 0 ∷ []))
    → ParsesDigits old (take (length old - 2) (drop 2 old)) 2 n
at_once n [] two h = absurd (omega arith)
at_once n (x ∷ []) two h = absurd (omega arith)
at_once n (x ∷ y ∷ rest) two h = record {
  digits = x ∷ y ∷ [];
  all = h.0;
  count_is = refl;
  value = sym h.1;
  bytes_are = ap (λ r. x ∷ y ∷ r) (sym (take_all (length (x ∷ y ∷ rest) - 2) rest (omega arith)));
}

pub zero_first : (n i : ℕ) (old mid new : List ℕ) → old ≡ 48 ∷ mid → ParsesDigits mid new i n → ParsesDigits old new (suc i) n
zero_first n i old mid new e h = record {
  digits = 48 ∷ h.digits;
  all = (lit< tt, h.all);
  count_is = ap (λ k. suc k) h.count_is;
  value = h.value;
  bytes_are = e ∙ ap (λ rest. 48 ∷ rest) h.bytes_are;
}

pub kept : (old mid new : List ℕ) (k n : ℕ) → mid ≡ old → ParsesDigits mid new k n → ParsesDigits old new k n
kept old mid new k n e h = record { digits = h.digits; all = h.all; count_is = h.count_is; value = h.value; bytes_are = sym e ∙ h.bytes_are }

pub more_after : (most d n before : ℕ) (old mid new : List ℕ) → most ≢ 0 → (d < 10) × (old ≡ (48 + d) ∷ mid) → ParsesMoreDigits mid new (most - 1) (before * 10 + d) n
    → ParsesMoreDigits old new most before n
more_after most d n before old mid new some first h = record {
  digits = (48 + d) ∷ h.digits;
  all = (omega (arith, value-of d first.0, first.0), h.all);
  few = omega (arith, h.few, some);
  value = ap (λ v. digits_value_after 10 (before * 10 + v) h.digits) (value-of d first.0) ∙ h.value;
  bytes_are = first.1 ∙ ap (λ rest. (48 + d) ∷ rest) h.bytes_are;
}

pub more-scans : (f : Shape) (most : ℕ) (old mid new : List ℕ) → most ≢ 0 → ((g h : Shape) → unmatched_bytes (Branch 48 9 g h) old ≡ unmatched_bytes g mid)
    → unmatched_bytes (UpTo (most - 1) f) mid ≡ unmatched_bytes f new → unmatched_bytes (UpTo most f) old ≡ unmatched_bytes f new
more-scans f zero old mid new some first e = absurd (some refl)
more-scans f (suc k) old mid new some first e =
    let same : suc k - 1 ≡ k = omega arith in
    first (UpTo k f) f ∙ ap (λ n. unmatched_bytes (UpTo n f) mid) (sym same) ∙ e

pub room : (limit n most d : ℕ) → most ≢ 0 → d < 10 → (n + 1) * 10 ^ most ≤ limit → (n * 10 + d + 1) * 10 ^ (most - 1) ≤ limit
room limit n zero d some low h = absurd (some refl)
room limit n (suc k) d some low h =
    let same : suc k - 1 ≡ k = omega arith in
    let less : n * 10 + d + 1 ≤ (n + 1) * 10 = omega arith in
    let more : 10 ^ k * (n * 10 + d + 1) ≤ 10 ^ k * ((n + 1) * 10) = mul-le-mul_left (10 ^ k) less in
    let power : (n + 1) * 10 ^ suc k ≡ (n + 1) * (10 ^ k * 10) = ap (λ p. (n + 1) * p) (pow-suc 10 k) in
    rw same (omega (arith, more, power, h))

pub small : (limit n k : ℕ) → (n + 1) * 10 ^ k ≤ limit → n < limit
small limit n k h =
    let low : 0 ≤ k = omega arith in
    let one : 10 ^ 0 ≤ 10 ^ k = pow-le-pow_right (lit< tt) low in
    let more : (n + 1) * 1 ≤ (n + 1) * 10 ^ k = mul-le-mul_left (n + 1) one in
    omega (arith, more, h)

pub value-append : (n : ℕ) (xs ys : List ℕ) → digits_value_after 10 n (xs ++ ys) ≡ digits_value_after 10 (digits_value_after 10 n xs) ys
value-append n [] ys = refl
value-append n (x ∷ xs) ys = value-append (n * 10 + digit_value x) xs ys

pub all-append : (xs ys : List ℕ) → AllDigits 10 xs → AllDigits 10 ys → AllDigits 10 (xs ++ ys)
all-append [] ys a b = b
all-append (x ∷ xs) ys a b = (a.0, all-append xs ys a.1 b)

-- as they are printed
pub printed : (old new : List ℕ) (count n : ℕ) → 1 ≤ count → count ≤ 9 → ParsesDigits old new count n → (n < 10 ^ count) × (old ≡ digits_at_least count n ++ new)
printed old new count n some few h =
    let same : digits_at_least count n ≡ h.digits =
    ap (λ v. digits_at_least count v) (sym h.value) ∙ ap (λ k. digits_at_least k (digits_value 10 h.digits)) (sym h.count_is)
    ∙ digits-printed h.digits h.all (omega (arith, h.count_is)) (omega (arith, h.count_is)) in
    let below : n < 10 ^ count = omega (arith, digits_value-lt 10 h.digits h.all, ap (λ k. 10 ^ k) h.count_is, h.value) in
    (below, h.bytes_are ∙ ap (λ ds. ds ++ new) (sym same))
