-- The shapes of numbers without zeros before them, and of a Julian day.
use Rattle.std.proofs.Common.{◌≡◌, ℕ, zero, suc, ◌+◌, ◌<◌, ◌≤◌, ◌^◌, ◌⊎◌, inl, inr, ℤ, pos, negsuc, List, [], ◌∷◌, ◌++◌, length, get_or, refl, sym, ap, subst, ◌∙◌, arith, lit<, lit≤, ◌*◌}
use Rattle.std.specs.Prelude.{decimal}
use Rattle.std.specs.Char.{digit_value}
use Rattle.std.specs.Str.Parse.{AllDigits, digits_value, digits_value_after}
use Rattle.std.proofs.Math.Nat.{pow-le-pow_right, mul-le-mul_left}
use Rattle.std.proofs.lemmas.Fmt.{decimal-digits_value, decimal_digit, decimal_is_IsNumeral, decimal_nonempty, first_decimal, length-decimal-le}
use Rattle.std.proofs.lemmas.Int.Digits.{digits_value-lt}
use Rattle.std.proofs.lemmas.Str.Parse.{IsNumeralModel, numerals_by_value, tells_digits}
use Rattle.cal_text.specs.JulianForm.{IsJulianForm}
use Rattle.cal_text.specs.Shape.{Number, julian_day, ParsesMoreDigits}
use Rattle.cal_text.proofs.DigitForms.{run}
use Rattle.cal_text.proofs.DigitParts.{IsCount, digit_is, has_value, is_digit, value-most}
use Rattle.cal_text.proofs.Forms.{IsForm, IsNothing, IsLed, IsEither, avoids, nothing, byte_from, led, both, either, retold, whole, put}
use Rattle.cal_text.proofs.Positions.{IsShapeOf}
use Rattle.cal_text.proofs.ReadDigits.{value-of}
use Rattle.cal_text.proofs.Stops.{IsIn}

own : IsNumeralModel (AllDigits 10) (digits_value 10)
own = numerals_by_value _ tells_digits

-- ---- a number above 0
abbrev pub IsAbove0 : ℕ → ℕ → Type 0
IsAbove0 more n = (0 < n) × (n < 10 ^ (more + 1))

-- digits of which the first is not 0 are the text of such a number
record IsText (more b : ℕ) (ds : List ℕ) : Type 0 where
  range : IsAbove0 more (digits_value 10 (b ∷ ds))
  text : b ∷ ds ≡ decimal (digits_value 10 (b ∷ ds))

long-power : (k more : ℕ) → k ≤ more → 10 ^ (k + 1) ≤ 10 ^ (more + 1)
long-power k more h = let up : k + 1 ≤ more + 1 = omega arith in pow-le-pow_right (lit< tt) up

is_text : (more b : ℕ) (ds : List ℕ) → more ≤ 17 → IsIn 49 8 b → IsCount 0 more ds → IsText more b ds
is_text more b ds few low h =
    let first : IsIn 48 9 b = (omega (arith, low.0), omega (arith, low.1)) in
    let all : AllDigits 10 (b ∷ ds) = (digit_is b first, h.0) in
    let value = digits_value-lt 10 (b ∷ ds) all in
    let size : suc (length ds) ≡ length ds + 1 = omega arith in
    let below : digits_value 10 (b ∷ ds) < 10 ^ (more + 1) = omega (arith, value, ap (λ k. 10 ^ k) size, long-power (length ds) more (omega (arith, h.2))) in
    let small : digits_value 10 (b ∷ ds) < 10 ^ 18 = omega (arith, below, long-power more 17 few) in
    record {
      range = (omega (arith, value-most (0 * 10 + digit_value b) ds, has_value b first, low.0), below);
      text = sym (decimal-digits_value own (b ∷ ds) all (omega arith) (λ e. absurd (omega (arith, e, low.0))) (omega (arith, small)));
    }

-- and the text of such a number is such digits
record IsSplit (more n : ℕ) : Type 0 where
  first : ℕ
  others : List ℕ
  low : IsIn 49 8 first
  count : IsCount 0 more others
  text : decimal n ≡ first ∷ others
  value : digits_value 10 (first ∷ others) ≡ n

split : (more n : ℕ) → more ≤ 17 → IsAbove0 more n → IsSplit more n
split more n few h =
    let small : n < 2 ^ 64 = omega (arith, h.1, long-power more 17 few) in
    let numeral = decimal_is_IsNumeral n small in
    at (decimal n) numeral.0.1 (decimal_nonempty n small) (length-decimal-le (more + 1) n (omega arith) h.1 small) (first_decimal n h.0 small) refl numeral.1
  where
    at : (ds : List ℕ) → AllDigits 10 ds → 0 < length ds → length ds ≤ more + 1 → 48 < get_or ds 0 0 → decimal n ≡ ds → digits_value 10 ds ≡ n → IsSplit more n
    at [] all some size first e value = absurd (omega arith)
    at (x ∷ xs) all some size first e value =
        record { first = x; others = xs; low = (omega (arith, first), omega (arith, (is_digit x all.0).1)); count = (all.1, omega arith, omega (arith, size)); text = e; value = value }

abbrev pub IsNumeral : ℕ → List ℕ → ℕ → Type 0
IsNumeral more bytes n = IsAbove0 more n × (bytes ≡ decimal n)

pub numeral : (more : ℕ) → more ≤ 17 → IsForm (Number more) (IsNumeral more) (avoids 48 9)
numeral more few =
    retold (IsNumeral more) (both (byte_from 49 8) (run 0 more (λ ds. ds))) (λ v. digits_value 10 (v.0 ∷ v.1))
    (λ bytes v h.
    let is = is_text more v.0 v.1 few h.first.0 (subst (IsCount 0 more) (sym h.second.1) h.second.0) in (is.range, put h.bytes_are h.first.1 (sym h.second.1) ∙ is.text))
    (λ bytes n h.
    let is = split more n few h.0 in
    ((is.first, is.others), record { front = is.first ∷ []; back = is.others; first = (is.low, refl); second = (is.count, refl); bytes_are = h.1 ∙ is.text }, is.value))

-- what a scanner read
pub most_digits : (d more : ℕ) → more ≤ 17 → d < 10 → (d + 1) * 10 ^ more ≤ 10 ^ 18
most_digits d more few low =
    let up : 10 ^ more ≤ 10 ^ 17 = pow-le-pow_right (lit< tt) few in
    let digits : (d + 1) * 10 ^ more ≤ (d + 1) * 10 ^ 17 = mul-le-mul_left (d + 1) up in
    omega (arith, digits)

pub put_number : (more d n : ℕ) (old mid new : List ℕ) → more ≤ 17 → (1 ≤ d) × (d < 10) × (old ≡ (48 + d) ∷ mid) → ParsesMoreDigits mid new more d n
    → (0 < n) × (n < 10 ^ (more + 1)) × (old ≡ decimal n ++ new)
put_number more d n old mid new few digit h =
    let is = is_text more (48 + d) h.digits few (omega (arith, digit.0), omega (arith, digit.1)) (h.all, omega arith, omega (arith, h.few)) in
    let value : digits_value 10 ((48 + d) ∷ h.digits) ≡ n = ap (λ v. digits_value_after 10 v h.digits) (omega (arith, value-of d digit.1)) ∙ h.value in (
      omega (arith, is.range.0, value),
      omega (arith, is.range.1, value),
      digit.2 ∙ ap (λ r. (48 + d) ∷ r) h.bytes_are ∙ ap (λ ds. ds ++ new) (is.text ∙ ap decimal value),
    )

pub zero_text : decimal 0 ≡ 48 ∷ []
zero_text = decimal_digit 0 (lit< tt)

-- ---- a Julian day
abbrev Raw : Type 0
Raw = ℕ ⊎ Unit {0} ⊎ ℕ

abbrev IsRaw : List ℕ → Raw → Type 0
IsRaw = IsLed 74 (IsEither (IsLed 45 (IsNumeral 8)) (IsEither (IsLed 48 IsNothing) (IsNumeral 8)))

into : Raw → ℤ
into (inl zero) = pos 0
into (inl (suc k)) = negsuc k
into (inr (inl u)) = pos 0
into (inr (inr n)) = pos n

there : (bytes : List ℕ) (v : Raw) → IsRaw bytes v → IsJulianForm bytes (into v)
unfolding into
there bytes (inl zero) h = absurd (omega (arith, h.1.1.0.0))
there bytes (inl (suc k)) h = record { digits = h.1.1.0.1; bytes_are = h.2 ∙ ap (λ r. 74 ∷ r) (h.1.2 ∙ ap (λ r. 45 ∷ r) h.1.1.1) }
there bytes (inr (inl u)) h = record { digits = lit< tt; bytes_are = h.2 ∙ ap (λ r. 74 ∷ r) (h.1.2 ∙ ap (λ r. 48 ∷ r) h.1.1 ∙ sym zero_text) }
there bytes (inr (inr n)) h = record { digits = h.1.0.1; bytes_are = h.2 ∙ ap (λ r. 74 ∷ r) h.1.1 }

here : (bytes : List ℕ) (j : ℤ) → IsJulianForm bytes j → (v : Raw) × IsRaw bytes v × (into v ≡ j)
unfolding into
here bytes (pos zero) h = (inr (inl tt), (48 ∷ [], ([], refl, refl), h.bytes_are ∙ ap (λ r. 74 ∷ r) zero_text), refl)
here bytes (pos (suc k)) h = (inr (inr (suc k)), (decimal (suc k), ((omega arith, h.digits), refl), h.bytes_are), refl)
here bytes (negsuc k) h = (inl (suc k), (45 ∷ decimal (suc k), (decimal (suc k), ((omega arith, h.digits), refl), refl), h.bytes_are), refl)

pub julian_shape : IsShapeOf IsJulianForm julian_day
julian_shape =
    let number = numeral 8 (lit≤ tt) in whole (retold IsJulianForm (led 74 (either 45 0 (led 45 number) (either 48 0 (led 48 nothing) number))) into there here) refl
