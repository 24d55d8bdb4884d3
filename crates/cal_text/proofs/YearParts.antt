-- The form of a year and the hyphen after it.
use Rattle.std.proofs.Common.{◌≡◌, ◌≢◌, ℕ, zero, suc, ◌+◌, ◌<◌, ◌≤◌, ◌^◌, ◌⊎◌, inl, inr, ℤ, pos, negsuc, List, [], ◌∷◌, ◌++◌, length, get_or, refl, sym, ap, subst, ◌∙◌, arith, lit<, lit≤}
use Rattle.std.specs.Str.Parse.{AllDigits, digits_value}
use Rattle.std.proofs.lemmas.Bool.{cases_lt}
use Rattle.std.proofs.lemmas.Int.Digits.{digits_value-lt}
use Rattle.std.proofs.lemmas.Str.Parse.{digit_at}
use Rattle.cal_time.specs.DateText.{digits_at_least}
use Rattle.cal_time.proofs.DistinctTexts.{digits_at_least-digits, digits_at_least-value, year-minus, year-plain, year-plus}
use Rattle.cal_text.specs.DateForms.{year_text, IsPrintableYear}
use Rattle.cal_text.specs.Shape.{ByteRange, Byte, DigitsAtLeast, YearAfterPlus, YearAfterMinus, ZeroAndThree, Year}
use Rattle.cal_text.proofs.DigitForms.{run, IsSome, AreSome, some_digits}
use Rattle.cal_text.proofs.DigitParts.{IsCount, is_digit, digit_is}
use Rattle.cal_text.proofs.DigitTexts.{digits_at_least-magnitude, digits_at_least-length}
use Rattle.cal_text.proofs.Forms.{IsForm, IsNothing, IsByteFrom, IsLed, IsThen, IsEither, always, nothing, byte_from, led, both, either, retold, put}
use Rattle.cal_text.proofs.Stops.{in_or_out}
use Rattle.cal_text.proofs.YearDigits.{IsSpelled, spelled-below, spelled-printed, spelled-large, spelled-some, four-spelled}

-- ---- digits of this kind and a hyphen
abbrev AreDigits : (List ℕ → Type 0) → List ℕ → List ℕ → Type 0
AreDigits Are bytes ds = Are ds × (bytes ≡ ds ++ 45 ∷ [])

hyphened : (k more : ℕ) → IsForm (DigitsAtLeast k more) (AreDigits (IsCount k more)) always
hyphened k more =
    retold (AreDigits (IsCount k more)) (both (run k more (λ ds. ds)) (led 45 nothing)) (λ v. v.0)
    (λ bytes v h. (subst (IsCount k more) (sym h.first.1) h.first.0, put h.bytes_are (sym h.first.1) (h.second.2 ∙ ap (λ r. 45 ∷ r) h.second.1)))
    (λ bytes ds h. ((ds, tt), record { front = ds; back = 45 ∷ []; first = (h.0, refl); second = ([], refl, refl); bytes_are = h.1 }, refl))

-- the first digit is not 0
abbrev IsFirst : ℕ → ℕ → List ℕ → Type 0
IsFirst k more ds = IsCount (suc k) more ds × (49 ≤ get_or ds 0 0)

from_1 : (k more : ℕ) → IsForm (λ f. ByteRange 49 8 (DigitsAtLeast k more f)) (AreDigits (IsFirst k more)) always
from_1 k more =
    retold (AreDigits (IsFirst k more)) (both (byte_from 49 8) (hyphened k more)) (λ v. v.0 ∷ v.1)
    (λ bytes v h. (
      (((digit_is v.0 (omega (arith, h.first.0.0), omega (arith, h.first.0.1)), h.second.0.0), omega (arith, h.second.0.1), omega (arith, h.second.0.2)), h.first.0.0),
      put h.bytes_are h.first.1 h.second.1,
    ))
    here
  where
    here : (bytes ds : List ℕ) → AreDigits (IsFirst k more) bytes ds → (v : ℕ × List ℕ) × IsThen (IsByteFrom 49 8) (AreDigits (IsCount k more)) bytes v × (v.0 ∷ v.1 ≡ ds)
    here bytes [] h = absurd (omega (arith, h.0.0.1))
    here bytes (x ∷ xs) h =
        let all = h.0.0.0 in (
          (x, xs),
          record {
            front = x ∷ [];
            back = xs ++ 45 ∷ [];
            first = ((h.0.1, omega (arith, (is_digit x all.0).1)), refl);
            second = ((all.1, omega (arith, h.0.0.1), omega (arith, h.0.0.2)), refl);
            bytes_are = h.1;
          },
          refl,
        )

-- a zero and three digits of which one is not 0
abbrev IsZeroed : List ℕ → Type 0
IsZeroed ds = AllDigits 10 ds × (length ds ≡ 4) × (get_or ds 0 0 ≡ 48) × (0 < digits_value 10 ds)

zeroed : IsForm (λ f. ZeroAndThree (Byte 45 f)) (AreDigits IsZeroed) always
zeroed = retold (AreDigits IsZeroed) (led 48 (both (some_digits 2) (led 45 nothing))) (λ v. 48 ∷ v.0) there here
  where
    IsRaw : List ℕ → List ℕ × Unit {0} → Type 0
    IsRaw = IsLed 48 (IsThen (AreSome 3 3) (IsLed 45 IsNothing))

    there : (bytes : List ℕ) (v : List ℕ × Unit {0}) → IsRaw bytes v → AreDigits IsZeroed bytes (48 ∷ v.0)
    there bytes v h =
        let t = h.1 in
        let is : IsSome 3 3 v.0 = subst (IsSome 3 3) t.first.1 t.first.0 in
        (((lit< tt, is.0), omega (arith, is.1, is.2), refl, is.3), h.2 ∙ ap (λ r. 48 ∷ r) (put t.bytes_are t.first.1 (t.second.2 ∙ ap (λ r. 45 ∷ r) t.second.1)))

    here : (bytes ds : List ℕ) → AreDigits IsZeroed bytes ds → (v : List ℕ × Unit {0}) × IsRaw bytes v × (48 ∷ v.0 ≡ ds)
    here bytes [] h = absurd (omega (arith, h.0.1))
    here bytes (x ∷ xs) h =
        let value : 0 < digits_value 10 xs = subst (λ b. 0 < digits_value 10 (b ∷ xs)) h.0.2 h.0.3 in (
          (xs, tt),
          (
            xs ++ 45 ∷ [],
            record { front = xs; back = 45 ∷ []; first = ((h.0.0.1, omega (arith, h.0.1), omega (arith, h.0.1), value), refl); second = ([], refl, refl); bytes_are = refl },
            h.1 ∙ ap (λ b. b ∷ (xs ++ 45 ∷ [])) h.0.2,
          ),
          ap (λ b. b ∷ xs) (sym h.0.2),
        )

-- ---- as numbers
abbrev number_hyphen : ℕ → List ℕ
number_hyphen n = digits_at_least 4 n ++ 45 ∷ []

abbrev IsAbove : ℕ → List ℕ → ℕ → Type 0
IsAbove low bytes n = (low < n) × (n < 10 ^ 9) × (bytes ≡ number_hyphen n)

first-spelled : (k more : ℕ) (ds : List ℕ) → 3 ≤ k → k + more ≤ 8 → IsFirst k more ds → IsSpelled ds (digits_value 10 ds)
first-spelled k more ds least most h = record {
  all = h.0.0;
  size = record { least = omega (arith, h.0.1); most = omega (arith, h.0.2); first = λ _ e. omega (arith, e, h.1) };
  value = refl;
}

spells : (bytes ds : List ℕ) → IsSpelled ds (digits_value 10 ds) → bytes ≡ ds ++ 45 ∷ [] → bytes ≡ number_hyphen (digits_value 10 ds)
spells bytes ds is e = e ∙ ap (λ all. all ++ 45 ∷ []) (spelled-printed ds _ is)

not-zero : (ds : List ℕ) → AllDigits 10 ds → 0 < length ds → get_or ds 0 0 ≢ 48 → 49 ≤ get_or ds 0 0
not-zero ds all some other = elim (cases_lt 48 (get_or ds 0 0)) as (λ _. 49 ≤ get_or ds 0 0) [
  | inl over ↦ omega arith
  | inr under ↦ absurd (other (omega (arith, under, (digit_at ds 0 all some).0)))
]

small-length : (n : ℕ) → n < 10 ^ 9 → length (digits_at_least 4 n) ≤ 4 → n ≤ 9999
small-length n small few =
    let size = digits_at_least-magnitude n small in
    let four : length (digits_at_least 4 n) ≡ 4 = omega (arith, size.least) in
    let below = digits_value-lt 10 (digits_at_least 4 n) (digits_at_least-digits 4 n small) in
    omega (arith, digits_at_least-value 4 n small, subst (λ k. digits_value 10 (digits_at_least 4 n) < 10 ^ k) four below)

above_9999 : IsForm YearAfterPlus (IsAbove 9999) always
above_9999 =
    retold (IsAbove 9999) (from_1 4 4) (digits_value 10)
    (λ bytes ds h. let is = first-spelled 4 4 ds (lit≤ tt) (lit≤ tt) h.0 in (spelled-large _ _ is (omega (arith, h.0.0.1)), spelled-below _ _ is, spells bytes ds is h.1))
    (λ bytes n h.
    let ds = digits_at_least 4 n in
    let all = digits_at_least-digits 4 n h.1 in
    let size = digits_at_least-magnitude n h.1 in
    let long : 5 ≤ length ds = elim (cases_lt 4 (length ds)) as (λ _. 5 ≤ length ds) [ inl over ↦ omega arith | inr under ↦ absurd (omega (arith, h.0, small-length n h.1 under)) ] in
    (ds, (((all, long, size.most), not-zero ds all (omega arith) (size.first (omega arith))), h.2), digits_at_least-value 4 n h.1))

above_0 : IsForm YearAfterMinus (IsAbove 0) always
above_0 = retold (IsAbove 0) (either 49 8 (from_1 3 5) zeroed) into there here
  where
    Raw : Type 0
    Raw = List ℕ ⊎ List ℕ

    IsRaw : List ℕ → Raw → Type 0
    IsRaw = IsEither (AreDigits (IsFirst 3 5)) (AreDigits IsZeroed)

    into : Raw → ℕ
    into (inl ds) = digits_value 10 ds
    into (inr ds) = digits_value 10 ds

    there : (bytes : List ℕ) (v : Raw) → IsRaw bytes v → IsAbove 0 bytes (into v)
    there bytes (inl ds) h =
        let is = first-spelled 3 5 ds (lit≤ tt) (lit≤ tt) h.0 in (spelled-some _ _ is (λ e. omega (arith, e, h.0.1)), spelled-below _ _ is, spells bytes ds is h.1)
    there bytes (inr ds) h = let is = four-spelled ds _ h.0.0 h.0.1 refl in (h.0.3, spelled-below _ _ is, spells bytes ds is h.1)

    here : (bytes : List ℕ) (n : ℕ) → IsAbove 0 bytes n → (v : Raw) × IsRaw bytes v × (into v ≡ n)
    here bytes n h =
        let ds = digits_at_least 4 n in
        let all = digits_at_least-digits 4 n h.1 in
        let size = digits_at_least-magnitude n h.1 in
        let value = digits_at_least-value 4 n h.1 in
        elim (in_or_out 48 0 (get_or ds 0 0)) as (λ _. (v : Raw) × IsRaw bytes v × (into v ≡ n)) [
          | inl zero_is ↦
              let first : get_or ds 0 0 ≡ 48 = omega (arith, zero_is.0, zero_is.1) in
              let four : length ds ≡ 4 = elim (cases_lt 4 (length ds)) as (λ _. length ds ≡ 4) [ inl more ↦ absurd (size.first more first) | inr few ↦ omega (arith, size.least, few) ] in
              (inr ds, ((all, four, first, omega (arith, value, h.0)), h.2), value)
          | inr other ↦ (
            inl ds,
            (((all, size.least, size.most), not-zero ds all (omega (arith, size.least)) (λ e. other (omega (arith, e), omega (arith, e)))), h.2),
            value,
          )
        ]

abbrev IsPlain : List ℕ → ℕ → Type 0
IsPlain bytes n = (n < 10000) × (bytes ≡ number_hyphen n)

four : IsForm (DigitsAtLeast 4 0) IsPlain always
four =
    retold IsPlain (hyphened 4 0) (digits_value 10)
    (λ bytes ds h.
    let size : length ds ≡ 4 = omega (arith, h.0.1, h.0.2) in
    (subst (λ k. digits_value 10 ds < 10 ^ k) size (digits_value-lt 10 ds h.0.0), spells bytes ds (four-spelled ds _ h.0.0 size refl) h.1))
    (λ bytes n h.
    let small : n < 10 ^ 9 = omega (arith, h.0) in
    let size = digits_at_least-length 4 n (lit< tt) h.0 small in
    (digits_at_least 4 n, ((digits_at_least-digits 4 n small, omega arith, omega arith), h.1), digits_at_least-value 4 n small))

-- ---- a sign or none
abbrev pub IsYear : List ℕ → ℤ → Type 0
IsYear bytes y = IsPrintableYear y × (bytes ≡ year_text y ++ 45 ∷ [])

pub year : IsForm Year IsYear always
year = retold IsYear (either 43 0 (led 43 above_9999) (either 45 0 (led 45 above_0) four)) into there here
  where
    Raw : Type 0
    Raw = ℕ ⊎ ℕ ⊎ ℕ

    IsRaw : List ℕ → Raw → Type 0
    IsRaw = IsEither (IsLed 43 (IsAbove 9999)) (IsEither (IsLed 45 (IsAbove 0)) IsPlain)

    into : Raw → ℤ
    into (inl n) = pos n
    into (inr (inl zero)) = pos 0
    into (inr (inl (suc k))) = negsuc k
    into (inr (inr n)) = pos n

    there : (bytes : List ℕ) (v : Raw) → IsRaw bytes v → IsYear bytes (into v)
    there bytes (inl n) h = (h.1.1, h.2 ∙ ap (λ r. 43 ∷ r) h.1.2 ∙ ap (λ ds. ds ++ 45 ∷ []) (sym (year-plus n h.1.0)))
    there bytes (inr (inl zero)) h = absurd (omega (arith, h.1.0))
    there bytes (inr (inl (suc k))) h = (h.1.1, h.2 ∙ ap (λ r. 45 ∷ r) h.1.2 ∙ ap (λ ds. ds ++ 45 ∷ []) (sym (year-minus k)))
    there bytes (inr (inr n)) h = (omega (arith, h.0), h.1 ∙ ap (λ ds. ds ++ 45 ∷ []) (sym (year-plain n (omega (arith, h.0)))))

    here : (bytes : List ℕ) (y : ℤ) → IsYear bytes y → (v : Raw) × IsRaw bytes v × (into v ≡ y)
    here bytes (pos n) h = elim (cases_lt n 10000) as (λ _. (v : Raw) × IsRaw bytes v × (into v ≡ pos n)) [
      | inl few ↦ (inr (inr n), (few, h.1 ∙ ap (λ ds. ds ++ 45 ∷ []) (year-plain n (omega arith))), refl)
      | inr many ↦ (inl n, (number_hyphen n, (omega arith, h.0, refl), h.1 ∙ ap (λ ds. ds ++ 45 ∷ []) (year-plus n (omega arith))), refl)
    ]
    here bytes (negsuc k) h = (inr (inl (suc k)), (number_hyphen (suc k), (omega arith, h.0, refl), h.1 ∙ ap (λ ds. ds ++ 45 ∷ []) (year-minus k)), refl)
