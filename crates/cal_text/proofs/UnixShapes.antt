-- The shapes of a fraction and of a Unix time.
use Rattle.std.proofs.Common.{◌≡◌, ℕ, zero, suc, ◌+◌, ◌*◌, ◌/◌, ◌%◌, ◌<◌, ◌≤◌, ◌^◌, ◌⊎◌, inl, inr, ℤ, pos, negsuc, neg_ℤ, Bool, ◌&&◌, List, [], ◌∷◌, ◌++◌, length, refl, sym, ap, subst, ◌∙◌, arith, lit<, lit≤}
use Rattle.std.specs.Prelude.{decimal}
use Rattle.std.specs.Str.Parse.{digits_value}
use Rattle.cal_time.specs.SignedDuration.{second}
use Rattle.cal_text.specs.Rfc3339Form.{IsFraction, HasFractionBefore, nanoseconds_of}
use Rattle.cal_text.specs.Shape.{Shape, Byte, Fraction, SomeUpTo, unix_time, ParsesPositiveDecimals}
use Rattle.cal_text.specs.UnixText.{HasUnixForm, HasSeconds}
use Rattle.cal_text.proofs.Decimals.{nanoseconds, nanoseconds-some, value-some, fraction-below}
use Rattle.cal_text.proofs.DigitForms.{IsRun, run, IsSome, AreSome, some_up_to, longer}
use Rattle.cal_text.proofs.Forms.{IsForm, IsNothing, IsLed, IsThen, IsEither, avoids, nothing, led, both, either, retold, whole, put}
use Rattle.cal_text.proofs.NumberShapes.{IsNumeral, numeral, zero_text}
use Rattle.cal_text.proofs.Parts.{at_end}
use Rattle.cal_text.proofs.Positions.{IsShapeOf}

-- ---- a fraction
abbrev pub IsFractionUpTo : ℕ → List ℕ → ℕ → Type 0
IsFractionUpTo more bytes n = IsFraction bytes n × (length bytes ≤ more + 2)

-- What follows begins with no point and no digit.
abbrev pub ends_fraction : Shape → Bool
ends_fraction f = avoids 48 9 f && avoids 46 0 f

pub fraction : (more : ℕ) → IsForm (Fraction more) (IsFractionUpTo more) ends_fraction
fraction more = retold (IsFractionUpTo more) (either 46 0 (led 46 (run 1 more nanoseconds_of)) nothing) into there here
  where
    Raw : Type 0
    Raw = ℕ ⊎ Unit {0}

    IsRaw : List ℕ → Raw → Type 0
    IsRaw = IsEither (IsLed 46 (IsRun 1 more nanoseconds_of)) IsNothing

    into : Raw → ℕ
    into (inl n) = n
    into (inr u) = 0

    there : (bytes : List ℕ) (v : Raw) → IsRaw bytes v → IsFractionUpTo more bytes (into v)
    there bytes (inl n) h = (inr (h.0, record { some = h.1.0.1; all = h.1.0.0; bytes_are = h.2; value = h.1.1 }), omega (arith, h.1.0.2, ap length h.2))
    there bytes (inr u) h = (inl (h, refl), omega (arith, ap length h))

    here : (bytes : List ℕ) (n : ℕ) → IsFractionUpTo more bytes n → (v : Raw) × IsRaw bytes v × (into v ≡ n)
    here bytes n (inl none, short) = (inr tt, none.0, sym none.1)
    here bytes n (inr (ds, is), short) = (inl n, (ds, ((is.all, is.some, omega (arith, short, ap length is.bytes_are)), is.value), is.bytes_are), refl)

-- ---- a fraction that is not 0
abbrev IsFractionAbove0 : List ℕ → ℕ → Type 0
IsFractionAbove0 bytes n = IsFraction bytes n × (length bytes ≤ 10) × (0 < n)

fraction_above_0 : IsForm (λ f. Byte 46 (SomeUpTo 8 f)) IsFractionAbove0 (avoids 48 9)
fraction_above_0 = retold IsFractionAbove0 (led 46 (some_up_to 8)) nanoseconds_of there here
  where
    there : (bytes ds : List ℕ) → IsLed 46 (AreSome 1 9) bytes ds → IsFractionAbove0 bytes (nanoseconds_of ds)
    there bytes ds h =
        let is : IsSome 1 9 ds = subst (IsSome 1 9) h.1.1 h.1.0 in
        let text : bytes ≡ 46 ∷ ds = h.2 ∙ ap (λ r. 46 ∷ r) h.1.1 in
        (inr (ds, record { some = omega (arith, is.1); all = is.0; bytes_are = text; value = refl }), omega (arith, ap length text, is.2), nanoseconds-some ds (omega (arith, is.2)) is.3)

    here : (bytes : List ℕ) (n : ℕ) → IsFractionAbove0 bytes n → (ds : List ℕ) × IsLed 46 (AreSome 1 9) bytes ds × (nanoseconds_of ds ≡ n)
    here bytes n (inl none, few, more) = absurd (omega (arith, more, none.1))
    here bytes n (inr (ds, is), few, more) =
        let short : length ds ≤ 9 = omega (arith, few, ap length is.bytes_are) in
        let value : 0 < digits_value 10 ds = value-some ds short (omega (arith, more, is.value)) in
        (ds, (ds, ((is.all, omega (arith, is.some), omega (arith, short), value), refl), is.bytes_are), sym is.value)

-- ---- seconds and a fraction
abbrev IsFromOne : List ℕ → ℕ × ℕ → Type 0
IsFromOne = IsThen (IsNumeral 17) (IsFractionUpTo 8)

from_one-is : (bytes : List ℕ) (v : ℕ × ℕ) → IsFromOne bytes v → HasSeconds bytes v.0 v.1
from_one-is bytes v h =
    record { seconds = h.first.0.1; fraction = h.back; is_fraction = h.second.0; short = h.second.1; bytes_are = put h.bytes_are h.first.1 refl }

as-from_one : (bytes : List ℕ) (k n : ℕ) → HasSeconds bytes (suc k) n → IsFromOne bytes (suc k, n)
as-from_one bytes k n h =
    record { front = decimal (suc k); back = h.fraction; first = ((omega arith, h.seconds), refl); second = (h.is_fraction, h.short); bytes_are = h.bytes_are }

zero-is : (bytes rest : List ℕ) (n : ℕ) → bytes ≡ 48 ∷ rest → IsFraction rest n → length rest ≤ 10 → HasSeconds bytes 0 n
zero-is bytes rest n e is short = record { seconds = lit< tt; fraction = rest; is_fraction = is; short = short; bytes_are = e ∙ ap (λ ds. ds ++ rest) (sym zero_text) }

abbrev IsSeconds : List ℕ → ℕ × ℕ → Type 0
IsSeconds bytes v = HasSeconds bytes v.0 v.1

abbrev IsAbove : List ℕ → ℕ × ℕ → Type 0
IsAbove bytes v = HasSeconds bytes v.0 v.1 × (0 < v.0 + v.1)

abbrev Raw : Type 0
Raw = ℕ ⊎ (ℕ × ℕ)

seconds_of : Raw → ℕ × ℕ
seconds_of (inl n) = (0, n)
seconds_of (inr v) = v

seconds-there : (bytes : List ℕ) (v : Raw) → IsEither (IsLed 48 (IsFractionUpTo 8)) IsFromOne bytes v → IsSeconds bytes (seconds_of v)
unfolding seconds_of
seconds-there bytes (inl n) h = zero-is bytes h.0 n h.2 h.1.0 h.1.1
seconds-there bytes (inr v) h = from_one-is bytes v h

seconds-here : (bytes : List ℕ) (v : ℕ × ℕ) → IsSeconds bytes v → (u : Raw) × IsEither (IsLed 48 (IsFractionUpTo 8)) IsFromOne bytes u × (seconds_of u ≡ v)
unfolding seconds_of
seconds-here bytes (zero, n) h = (inl n, (h.fraction, (h.is_fraction, h.short), h.bytes_are ∙ ap (λ ds. ds ++ h.fraction) zero_text), refl)
seconds-here bytes (suc k, n) h = (inr (suc k, n), as-from_one bytes k n h, refl)

above-there : (bytes : List ℕ) (v : Raw) → IsEither (IsLed 48 IsFractionAbove0) IsFromOne bytes v → IsAbove bytes (seconds_of v)
unfolding seconds_of
above-there bytes (inl n) h = (zero-is bytes h.0 n h.2 h.1.0 h.1.1, omega (arith, h.1.2))
above-there bytes (inr v) h = (from_one-is bytes v h, omega (arith, h.first.0.0))

above-here : (bytes : List ℕ) (v : ℕ × ℕ) → IsAbove bytes v → (u : Raw) × IsEither (IsLed 48 IsFractionAbove0) IsFromOne bytes u × (seconds_of u ≡ v)
unfolding seconds_of
above-here bytes (zero, n) (h, more) = (inl n, (h.fraction, (h.is_fraction, h.short, omega (arith, more)), h.bytes_are ∙ ap (λ ds. ds ++ h.fraction) zero_text), refl)
above-here bytes (suc k, n) (h, more) = (inr (suc k, n), as-from_one bytes k n h, refl)

-- ---- what a scanner read
pub put_zero : (n : ℕ) (old mid new : List ℕ) → old ≡ 48 ∷ mid → HasFractionBefore new 8 mid n → new ≡ [] → HasSeconds old 0 n
put_zero n old mid new byte h end =
    let whole : mid ≡ h.fraction = at_end mid h.fraction new h.bytes_are end in
    zero-is old mid n byte (subst (λ r. IsFraction r n) (sym whole) h.is_fraction) (omega (arith, ap length whole, h.short))

pub put_from_one : (s n : ℕ) (old mid new : List ℕ) → (0 < s) × (s < 10 ^ 18) × (old ≡ decimal s ++ mid) → HasFractionBefore new 8 mid n → new ≡ [] → HasSeconds old s n
put_from_one s n old mid new number h end =
    record { seconds = number.1; fraction = h.fraction; is_fraction = h.is_fraction; short = h.short; bytes_are = number.2 ∙ ap (λ r. decimal s ++ r) (at_end mid h.fraction new h.bytes_are end) }

pub put_decimals : (n : ℕ) (old mid digits new : List ℕ) → old ≡ 48 ∷ mid → mid ≡ 46 ∷ digits → ParsesPositiveDecimals digits new 8 100000000 n → new ≡ []
    → HasSeconds old 0 n × (0 < n)
put_decimals n old mid digits new zero_byte point h end =
    let whole : digits ≡ h.decimals.digits = at_end digits h.decimals.digits new h.decimals.bytes_are end in
    let long : 0 < length h.decimals.digits = longer h.decimals.digits h.some in
    let value : n ≡ nanoseconds_of h.decimals.digits = sym (omega (arith, nanoseconds h.decimals.digits, h.decimals.value)) in
    let few : length h.decimals.digits ≤ 9 = h.decimals.few in (
      zero-is old mid n zero_byte
          (inr (h.decimals.digits, record { some = long; all = h.decimals.all; bytes_are = point ∙ ap (λ r. 46 ∷ r) whole; value = value }))
          (omega (arith, ap length point, ap length whole, few)),
      omega (arith, value, nanoseconds-some h.decimals.digits few h.some),
    )

-- ---- the whole
pub put_positive : (bytes rest : List ℕ) (s n : ℕ) → bytes ≡ 64 ∷ rest → HasSeconds rest s n → HasUnixForm bytes (pos (s * second + n))
put_positive bytes rest s n e h =
    let small = fraction-below h.fraction n h.is_fraction in
    let whole : (s * second + n) / second ≡ s = omega arith in
    let part : (s * second + n) % second ≡ n = omega arith in
    record {
      seconds = subst (λ x. x < 10 ^ 18) (sym whole) h.seconds;
      fraction = h.fraction;
      is_fraction = subst (IsFraction h.fraction) (sym part) h.is_fraction;
      short = h.short;
      bytes_are = e ∙ ap (λ r. 64 ∷ r) (h.bytes_are ∙ ap (λ x. decimal x ++ h.fraction) (sym whole));
    }

pub put_negative : (bytes rest : List ℕ) (s n : ℕ) → bytes ≡ 64 ∷ 45 ∷ rest → HasSeconds rest s n → 0 < s + n → HasUnixForm bytes (neg_ℤ (pos (s * second + n)))
put_negative bytes rest s n e h some = at (s * second + n) refl
  where
    at : (m : ℕ) → m ≡ s * second + n → HasUnixForm bytes (neg_ℤ (pos m))
    at zero sum = absurd (omega (arith, sum, some))
    at (suc k) sum =
        let small = fraction-below h.fraction n h.is_fraction in
        let whole : suc k / second ≡ s = omega (arith, sum, small) in
        let part : suc k % second ≡ n = omega (arith, sum, small) in
        record {
          seconds = subst (λ x. x < 10 ^ 18) (sym whole) h.seconds;
          fraction = h.fraction;
          is_fraction = subst (IsFraction h.fraction) (sym part) h.is_fraction;
          short = h.short;
          bytes_are = e ∙ ap (λ r. 64 ∷ 45 ∷ r) (h.bytes_are ∙ ap (λ x. decimal x ++ h.fraction) (sym whole));
        }

abbrev IsSigned : List ℕ → (ℕ × ℕ) ⊎ (ℕ × ℕ) → Type 0
IsSigned = IsLed 64 (IsEither (IsLed 45 IsAbove) IsSeconds)

nanoseconds_in : (ℕ × ℕ) ⊎ (ℕ × ℕ) → ℤ
nanoseconds_in (inl v) = neg_ℤ (pos (v.0 * second + v.1))
nanoseconds_in (inr v) = pos (v.0 * second + v.1)

there : (bytes : List ℕ) (v : (ℕ × ℕ) ⊎ (ℕ × ℕ)) → IsSigned bytes v → HasUnixForm bytes (nanoseconds_in v)
unfolding nanoseconds_in
there bytes (inl v) h = put_negative bytes h.1.0 v.0 v.1 (h.2 ∙ ap (λ r. 64 ∷ r) h.1.2) h.1.1.0 h.1.1.1
there bytes (inr v) h = put_positive bytes h.0 v.0 v.1 h.2 h.1

here : (bytes : List ℕ) (v : ℤ) → HasUnixForm bytes v → (u : (ℕ × ℕ) ⊎ (ℕ × ℕ)) × IsSigned bytes u × (nanoseconds_in u ≡ v)
unfolding nanoseconds_in
here bytes (pos k) h =
    let sum : k / second * second + k % second ≡ k = omega arith in
    let is : HasSeconds (decimal (k / second) ++ h.fraction) (k / second) (k % second) = record { seconds = h.seconds; fraction = h.fraction; is_fraction = h.is_fraction; short = h.short; bytes_are = refl } in
    (inr (k / second, k % second), (decimal (k / second) ++ h.fraction, is, h.bytes_are), ap pos sum)
here bytes (negsuc k) h =
    let rest = decimal (suc k / second) ++ h.fraction in
    let sum : suc k / second * second + suc k % second ≡ suc k = omega arith in
    let is : HasSeconds rest (suc k / second) (suc k % second) = record { seconds = h.seconds; fraction = h.fraction; is_fraction = h.is_fraction; short = h.short; bytes_are = refl } in
    (inl (suc k / second, suc k % second), (45 ∷ rest, (rest, (is, omega (arith, sum)), refl), h.bytes_are), ap (λ m. neg_ℤ (pos m)) sum)

pub unix_shape : IsShapeOf HasUnixForm unix_time
unix_shape =
    let from_one = both (numeral 17 (lit≤ tt)) (fraction 8) in
    let seconds = retold IsSeconds (either 48 0 (led 48 (fraction 8)) from_one) seconds_of seconds-there seconds-here in
    let above = retold IsAbove (either 48 0 (led 48 fraction_above_0) from_one) seconds_of above-there above-here in
    whole (retold HasUnixForm (led 64 (either 45 0 (led 45 above) seconds)) nanoseconds_in there here) refl
