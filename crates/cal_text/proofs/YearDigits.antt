-- The digits of a year, and its sign.
use Rattle.std.proofs.Common.{◌≡◌, ◌≢◌, ℕ, suc, ◌+◌, ◌-◌, ◌*◌, ◌<◌, ◌≤◌, ◌^◌, ℤ, to_z, w32, List, [], ◌∷◌, ◌++◌, length, get_or, subst, sym, ap, ◌∙◌, arith, inl, inr, lit<}
use Rattle.std.specs.Prelude.{replicate}
use Rattle.std.specs.Char.{digit_value}
use Rattle.std.specs.Str.Parse.{AllDigits, digits_value, digits_value_after}
use Rattle.std.proofs.Math.Nat.{pow-suc}
use Rattle.std.proofs.lemmas.Bool.{cases_lt}
use Rattle.std.proofs.lemmas.Fmt.{decimal_digit}
use Rattle.std.proofs.lemmas.Int.Digits.{digits_value-lt}
use Rattle.std.proofs.lemmas.List.{append_assoc, length-append}
use Rattle.cal_time.specs.DateText.{digits_at_least}
use Rattle.cal_time.proofs.DistinctTexts.{year-plain}
use Rattle.cal_text.specs.DateForms.{year_text, IsPrintableYear}
use Rattle.cal_text.specs.Shape.{ParsesDigits, ParsesMoreDigits}
use Rattle.cal_text.proofs.DigitTexts.{IsMagnitude, magnitude-printed, digits-printed, digits_at_least-length, below-nine}
use Rattle.cal_text.proofs.YearTexts.{plain-cast}
use Rattle.cal_text.proofs.ReadDigits.{value-append, all-append, value-of}

-- ---- digits of a year are those that its number prints
pub record IsSpelled (ds : List ℕ) (n : ℕ) : Type 0 where
  pub all : AllDigits 10 ds
  pub size : IsMagnitude ds
  pub value : digits_value 10 ds ≡ n

pub spelled-below : (ds : List ℕ) (n : ℕ) → IsSpelled ds n → n < 10 ^ 9
spelled-below ds n h = below-nine ds n h.size.most (subst (λ v. v < 10 ^ length ds) h.value (digits_value-lt 10 ds h.all))

pub spelled-printed : (ds : List ℕ) (n : ℕ) → IsSpelled ds n → ds ≡ digits_at_least 4 n
spelled-printed ds n h =
    magnitude-printed ds n h.size (sym (ap (λ v. digits_at_least (length ds) v) (sym h.value) ∙ digits-printed ds h.all (omega (arith, h.size.least)) h.size.most))

pub spelled-large : (ds : List ℕ) (n : ℕ) → IsSpelled ds n → 5 ≤ length ds → 9999 < n
spelled-large ds n h long =
    elim (cases_lt 9999 n) as (λ _. 9999 < n) [
      | inl more ↦ more
      | inr few ↦ absurd (omega (arith, long, ap length (spelled-printed ds n h), digits_at_least-length 4 n (lit< tt) (omega arith) (omega arith)))
    ]

four_zeros : get_or (digits_at_least 4 0) 0 0 ≡ 48
four_zeros = ap (λ ds. get_or (replicate (4 - length ds) 48 ++ ds) 0 0) (decimal_digit 0 (lit< tt))

pub spelled-some : (ds : List ℕ) (n : ℕ) → IsSpelled ds n → get_or ds 0 0 ≢ 48 → 0 < n
spelled-some ds n h first =
    elim (cases_lt 0 n) as (λ _. 0 < n) [
      | inl more ↦ more
      | inr none ↦
          let zero_is : n ≡ 0 = omega arith in
          absurd (first (ap (λ all. get_or all 0 0) (spelled-printed ds n h ∙ ap (λ v. digits_at_least 4 v) zero_is) ∙ four_zeros))
    ]

-- ---- the digits that were parsed: a digit that is not 0, k digits, and more
pub value-after : (n : ℕ) (ds : List ℕ) → digits_value_after 10 n ds ≡ n * 10 ^ length ds + digits_value 10 ds
value-after n [] = omega arith
value-after n (x ∷ xs) =
    let power = pow-suc 10 (length xs) in
    omega (arith, value-after (n * 10 + digit_value x) xs, value-after (0 * 10 + digit_value x) xs, ap (λ p. n * p) power)

pub two_and_two : (front back : ℕ) (old mid new : List ℕ) → ParsesDigits old mid 2 front → ParsesDigits mid new 2 back → ParsesDigits old new 4 (front * 100 + back)
two_and_two front back old mid new h k = record {
  digits = h.digits ++ k.digits;
  all = all-append h.digits k.digits h.all k.all;
  count_is = omega (arith, length-append h.digits k.digits, h.count_is, k.count_is);
  value = value-append 0 h.digits k.digits ∙ value-after (digits_value 10 h.digits) k.digits
      ∙ omega (arith, ap (λ size. digits_value 10 h.digits * 10 ^ size) k.count_is, h.value, k.value);
  bytes_are = h.bytes_are ∙ ap (λ rest. h.digits ++ rest) k.bytes_are ∙ sym (append_assoc h.digits k.digits new);
}

pub record Spells (least : ℕ) (old new : List ℕ) (n : ℕ) : Type 0 where
  pub digits : List ℕ
  pub spelled : IsSpelled digits n
  pub first : get_or digits 0 0 ≢ 48
  pub long : least ≤ length digits
  pub bytes_are : old ≡ digits ++ 45 ∷ new

pub put_more : (d k m before most n : ℕ) (old a b c new : List ℕ) → (1 ≤ d) × (d < 10) × (old ≡ (48 + d) ∷ a) → ParsesDigits a b k m → 3 ≤ k → k + most ≤ 8
    → before ≡ d * 10 ^ k + m → ParsesMoreDigits b c most before n → c ≡ 45 ∷ new → Spells (suc k) old new n
put_more d k m before most n old a b c new h front least size is more hyphen =
    let long = length-append front.digits more.digits in
    let digit : 0 * 10 + digit_value (48 + d) ≡ d = omega (arith, value-of d h.1) in
    let number : digits_value_after 10 (0 * 10 + digit_value (48 + d)) front.digits ≡ before =
    ap (λ v. digits_value_after 10 v front.digits) digit ∙ value-after d front.digits
    ∙ ap (λ p. d * 10 ^ p + digits_value 10 front.digits) front.count_is ∙ ap (λ v. d * 10 ^ k + v) front.value ∙ sym is in
    record {
      digits = (48 + d) ∷ (front.digits ++ more.digits);
      spelled = record {
        all = (omega (arith, value-of d h.1, h.1), all-append front.digits more.digits front.all more.all);
        size = record {
          least = omega (arith, long, front.count_is, least);
          most = omega (arith, long, front.count_is, more.few, size);
          first = λ _ e. omega (arith, e, h.0);
        };
        value = value-append (0 * 10 + digit_value (48 + d)) front.digits more.digits ∙ ap (λ v. digits_value_after 10 v more.digits) number ∙ more.value;
      };
      first = λ e. omega (arith, e, h.0);
      long = omega (arith, long, front.count_is);
      bytes_are = h.2 ∙ ap (λ rest. (48 + d) ∷ rest)
          (front.bytes_are ∙ ap (λ rest. front.digits ++ rest) (more.bytes_are ∙ ap (λ rest. more.digits ++ rest) hyphen) ∙ sym (append_assoc front.digits more.digits (45 ∷ new)));
    }

abbrev pub IsNumberAbove : ℕ → List ℕ → List ℕ → ℕ → Type 0
IsNumberAbove low new old n = (low < n) × (n < 10 ^ 9) × (old ≡ digits_at_least 4 n ++ 45 ∷ new)

pub put_above_9999 : (old new : List ℕ) (n : ℕ) → Spells 5 old new n → IsNumberAbove 9999 new old n
put_above_9999 old new n h =
    (spelled-large h.digits n h.spelled h.long, spelled-below h.digits n h.spelled, h.bytes_are ∙ ap (λ ds. ds ++ 45 ∷ new) (spelled-printed h.digits n h.spelled))

pub put_above_0 : (old new : List ℕ) (n : ℕ) → Spells 4 old new n → IsNumberAbove 0 new old n
put_above_0 old new n h =
    (spelled-some h.digits n h.spelled h.first, spelled-below h.digits n h.spelled, h.bytes_are ∙ ap (λ ds. ds ++ 45 ∷ new) (spelled-printed h.digits n h.spelled))

pub four-spelled : (ds : List ℕ) (n : ℕ) → AllDigits 10 ds → length ds ≡ 4 → digits_value 10 ds ≡ n → IsSpelled ds n
four-spelled ds n all size value =
    record { all = all; size = record { least = omega arith; most = omega arith; first = λ more. absurd (omega arith) }; value = value }

pub put_four : (n : ℕ) (old mid new : List ℕ) → ParsesDigits old mid 4 n → mid ≡ 45 ∷ new → old ≡ digits_at_least 4 n ++ 45 ∷ new
put_four n old mid new h e =
    h.bytes_are ∙ ap (λ rest. h.digits ++ rest) e ∙ ap (λ ds. ds ++ 45 ∷ new) (spelled-printed h.digits n (four-spelled h.digits n h.all h.count_is h.value))

pub put_zero : (n : ℕ) (old b new : List ℕ) → ParsesDigits old b 4 n → (0 < n) × (n < 1000) → b ≡ 45 ∷ new → IsNumberAbove 0 new old n
put_zero n old b new h range hyphen = (range.0, omega (arith, range.1), put_four n old b new h hyphen)

-- ---- the sign
abbrev IsYearBefore : List ℕ → List ℕ → ℤ → Type 0
IsYearBefore new old y = IsPrintableYear y × (old ≡ year_text y ++ 45 ∷ new)

pub put_plain : (n : ℕ) (old mid new : List ℕ) → n < 10000 → ParsesDigits old mid 4 n → mid ≡ 45 ∷ new → IsYearBefore new old (to_z w32 n)
put_plain n old mid new below h e =
    subst (IsYearBefore new old) (sym (plain-cast n (omega arith)))
    (omega arith, put_four n old mid new h e ∙ ap (λ ds. ds ++ 45 ∷ new) (sym (year-plain n (omega arith))))
