-- No two days print alike: the digits of a number give its value, and the first byte of a year its
-- sign.
use Rattle.std.proofs.Common.{◌≡◌, ◌≢◌, ℕ, zero, suc, ◌-◌, ◌<◌, ◌≤◌, ◌^◌, List, [], ◌∷◌, ◌++◌, length, get_or, take, drop, replicate, append_assoc, length-append, ℤ, pos, negsuc, unsigned_abs, refl, sym, ap, ◌∙◌, arith, inl, inr, lit<, if◌then◌else◌, nat_lt}
use Rattle.std.specs.Prelude.{codes, decimal}
use Rattle.std.specs.Str.Parse.{AllDigits, digits_value}
use Rattle.std.proofs.Math.Seq.{take-append_seam, drop-append_seam}
use Rattle.std.proofs.lemmas.Bool.{cases_lt}
use Rattle.std.proofs.lemmas.Bool.Decides.{nat_tests}
use Rattle.std.proofs.lemmas.Fmt.{decimal_is_IsNumeral}
use Rattle.std.proofs.lemmas.Int.{ints}
use Rattle.std.proofs.lemmas.Str.Parse.{digit_from_value}
use Rattle.cal_units.specs.Digits.{two_digits}
use Rattle.cal_units.proofs.Digits.{digits_at_least-two}
use Rattle.cal_date.specs.Date.{year_at, month_at, day_of_month_at, IsDate}
use Rattle.cal_date.specs.DateText.{digits_at_least, sign_text, year_text, text}
use Rattle.cal_date.proofs.Calendar.{in_month_of, day_of_month-most, calendar_date-one}
use Rattle.cal_date.proofs.Dates.{in_range}

-- ---- digits, filled up with zeros to a width
zeros-digits : (k : ℕ) (ds : List ℕ) → AllDigits 10 ds → AllDigits 10 (replicate k 48 ++ ds)
zeros-digits zero ds h = h
zeros-digits (suc k) ds h = (lit< tt, zeros-digits k ds h)

zeros-value : (k : ℕ) (ds : List ℕ) → digits_value 10 (replicate k 48 ++ ds) ≡ digits_value 10 ds
zeros-value zero ds = refl
zeros-value (suc k) ds = zeros-value k ds

-- a number below 10 ^ 9 is one of 64 bits
pub digits_at_least-digits : (width n : ℕ) → n < 10 ^ 9 → AllDigits 10 (digits_at_least width n)
digits_at_least-digits width n h =
    zeros-digits (width - length (decimal n)) (decimal n) (decimal_is_IsNumeral n (omega arith)).0.1

pub digits_at_least-value : (width n : ℕ) → n < 10 ^ 9 → digits_value 10 (digits_at_least width n) ≡ n
digits_at_least-value width n h =
    zeros-value (width - length (decimal n)) (decimal n) ∙ (decimal_is_IsNumeral n (omega arith)).1

-- ---- the sign of a year
sign-plain : (n : ℕ) → n ≤ 9999 → sign_text (pos n) ≡ []
sign-plain n h = grind (arith, nat_tests)

sign-plus : (n : ℕ) → 9999 < n → sign_text (pos n) ≡ 43 ∷ []
sign-plus n h = grind (arith, nat_tests)

pub year-plain : (n : ℕ) → n ≤ 9999 → year_text (pos n) ≡ digits_at_least 4 n
year-plain n h = ap (λ sign. sign ++ digits_at_least 4 n) (sign-plain n h)

pub year-plus : (n : ℕ) → 9999 < n → year_text (pos n) ≡ 43 ∷ digits_at_least 4 n
year-plus n h = ap (λ sign. sign ++ digits_at_least 4 n) (sign-plus n h)

pub year-minus : (k : ℕ) → year_text (negsuc k) ≡ 45 ∷ digits_at_least 4 (suc k)
year-minus k = refl

-- the magnitude that a text of a year says
abbrev without_sign : List ℕ → List ℕ
without_sign [] = []
without_sign (c ∷ cs) = if nat_lt c 48 then cs else c ∷ cs

unsigned : (ds : List ℕ) → AllDigits 10 ds → without_sign ds ≡ ds
unsigned [] h = refl
unsigned (c ∷ cs) h = let digit = digit_from_value c h.0 in grind (arith, nat_tests)

abbrev magnitude : List ℕ → ℕ
magnitude bytes = digits_value 10 (without_sign bytes)

year-magnitude : (y : ℤ) → unsigned_abs y < 10 ^ 9 → magnitude (year_text y) ≡ unsigned_abs y
year-magnitude (pos n) small = elim (cases_lt 9999 n) as (λ _. magnitude (year_text (pos n)) ≡ n) [
  | inl long ↦ ap magnitude (year-plus n long) ∙ digits_at_least-value 4 n small
  | inr short ↦ ap magnitude (year-plain n short) ∙ ap (digits_value 10) (unsigned _ (digits_at_least-digits 4 n small)) ∙ digits_at_least-value 4 n small
]
year-magnitude (negsuc k) small = digits_at_least-value 4 (suc k) small

-- and whether it is below 0, by its first byte
first-digit : (ds : List ℕ) → AllDigits 10 ds → get_or ds 0 0 ≢ 45
first-digit [] h e = absurd (omega (arith, e))
first-digit (c ∷ cs) h e = absurd (omega (arith, e, digit_from_value c h.0))

not-minus : (n : ℕ) → n < 10 ^ 9 → get_or (year_text (pos n)) 0 0 ≢ 45
not-minus n small e = elim (cases_lt 9999 n) as (λ _. ⊥) [
  | inl long ↦ absurd (omega (arith, e, ap (λ bytes. get_or bytes 0 0) (year-plus n long)))
  | inr short ↦ first-digit _ (digits_at_least-digits 4 n small) (sym (ap (λ bytes. get_or bytes 0 0) (year-plain n short)) ∙ e)
]

year-one : (y z : ℤ) → unsigned_abs y < 10 ^ 9 → unsigned_abs z < 10 ^ 9 → year_text y ≡ year_text z → y ≡ z
year-one (pos m) (pos n) a b e = ap pos (sym (year-magnitude (pos m) a) ∙ ap magnitude e ∙ year-magnitude (pos n) b)
year-one (pos m) (negsuc k) a b e = absurd (not-minus m a (ap (λ bytes. get_or bytes 0 0) e))
year-one (negsuc j) (pos n) a b e = absurd (not-minus n b (ap (λ bytes. get_or bytes 0 0) (sym e)))
year-one (negsuc j) (negsuc k) a b e =
    let same = sym (year-magnitude (negsuc j) a) ∙ ap magnitude e ∙ year-magnitude (negsuc k) b in
    omega (arith, ints, same)

-- ---- the month and the day of the month follow in six bytes
abbrev rest : ℕ → ℕ → List ℕ
rest m d = 45 ∷ (two_digits m ++ (45 ∷ two_digits d))

regroup : (sign digits a b c d : List ℕ) → sign ++ ((((digits ++ a) ++ b) ++ c) ++ d) ≡ (sign ++ digits) ++ (a ++ (b ++ (c ++ d)))
regroup sign digits a b c d = simp append_assoc

text-parts : (n : ℕ) → month_at n < 100 → day_of_month_at n < 100 → text n ≡ year_text (year_at n) ++ rest (month_at n) (day_of_month_at n)
text-parts n a b =
    rw (digits_at_least-two (month_at n) a, digits_at_least-two (day_of_month_at n) b)
    (regroup (sign_text (year_at n)) (digits_at_least 4 (unsigned_abs (year_at n))) (codes "-") (two_digits (month_at n)) (codes "-") (two_digits (day_of_month_at n)))

same-parts : (xs ys us vs : List ℕ) → length us ≡ length vs → xs ++ us ≡ ys ++ vs → (xs ≡ ys) × (us ≡ vs)
same-parts xs ys us vs e f =
    let long : length xs ≡ length ys = omega (arith, e, ap length f, length-append xs us, length-append ys vs) in (
      sym (take-append_seam xs us) ∙ ap (take (length xs)) f ∙ ap (λ k. take k (ys ++ vs)) long ∙ take-append_seam ys vs,
      sym (drop-append_seam xs us) ∙ ap (drop (length xs)) f ∙ ap (λ k. drop k (ys ++ vs)) long ∙ drop-append_seam ys vs,
    )

byte : (k : ℕ) (xs ys : List ℕ) → xs ≡ ys → get_or xs k 0 ≡ get_or ys k 0
byte k xs ys e = ap (λ bytes. get_or bytes k 0) e

same-rest : (m d k e : ℕ) → rest m d ≡ rest k e → (m ≡ k) × (d ≡ e)
same-rest m d k e h =
    (omega (arith, byte 1 (rest m d) (rest k e) h, byte 2 (rest m d) (rest k e) h), omega (arith, byte 4 (rest m d) (rest k e) h, byte 5 (rest m d) (rest k e) h))

month-most : (n : ℕ) → month_at n ≤ 12
month-most n = let at = in_month_of n in omega (arith, at.month_is, at.stands.month)

year-most : (n : ℕ) → IsDate n → unsigned_abs (year_at n) < 10 ^ 9
year-most n h = let range = (in_range n _ _ h (refl, refl)).year in omega (arith, ints)

pub text-one : (m n : ℕ) → IsDate m → IsDate n → text m ≡ text n → m ≡ n
text-one m n h k e =
    let month = month-most m in
    let other_month = month-most n in
    let day = day_of_month-most m in
    let other_day = day_of_month-most n in
    let split = same-parts (year_text (year_at m)) (year_text (year_at n)) (rest (month_at m) (day_of_month_at m)) (rest (month_at n) (day_of_month_at n)) refl
    (sym (text-parts m (omega arith) (omega arith)) ∙ e ∙ text-parts n (omega arith) (omega arith)) in
    let years = year-one (year_at m) (year_at n) (year-most m h) (year-most n k) split.0 in
    let parts = same-rest (month_at m) (day_of_month_at m) (month_at n) (day_of_month_at n) split.1 in
    calendar_date-one (year_at n) (month_at n) (day_of_month_at n) m n h k (λ i. record { year = years i; month = parts.0 i; day = parts.1 i }) refl
