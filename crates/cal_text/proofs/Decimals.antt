-- Digits after a point. Each counts a tenth of the digit before it.
use Rattle.std.proofs.Common.{◌≡◌, ◌≢◌, ℕ, zero, suc, ◌+◌, ◌-◌, ◌*◌, ◌/◌, ◌<◌, ◌≤◌, ◌^◌, pow-add, List, [], ◌∷◌, ◌++◌, append-nil, length, take, refl, sym, ap, ◌∙◌, arith, inl, inr, lit<}
use Rattle.std.specs.Char.{digit_value}
use Rattle.std.specs.Str.Parse.{AllDigits, digits_value}
use Rattle.std.proofs.Math.Nat.{mul-pos, mul_assoc, pow-suc, pow-le-pow_right, mul-le-mul_right}
use Rattle.std.proofs.lemmas.Bool.{cases_lt}
use Rattle.std.proofs.lemmas.List.{append_assoc, length-append, length-take-le, take_all}
use Rattle.cal_text.specs.Rfc3339Form.{nanoseconds_of, IsFraction, HasFractionBefore}
use Rattle.std.specs.Prelude.{Option, Some, None, IfSome}
use Rattle.cal_text.specs.Shape.{Shape, unmatched_bytes, Scans, Branch, ByteRange, UpTo, SomeUpTo, Byte, decimals_value, ParsesDecimals, ParsesPositiveDecimals}
use Rattle.cal_text.proofs.DigitParts.{value-most}
use Rattle.cal_text.proofs.ReadDigits.{value-of}
use Rattle.cal_text.proofs.YearDigits.{value-after}

-- ---- their sum
unit_at : ℕ → ℕ
unit_at zero = 0
unit_at (suc n) = 10 ^ n

tenth : (n : ℕ) → unit_at (suc n) / 10 ≡ unit_at n
unfolding unit_at
tenth zero = refl
tenth (suc n) = omega (arith, pow-suc 10 n)

nothing : (ds : List ℕ) → decimals_value 0 ds ≡ 0
nothing [] = refl
nothing (x ∷ xs) = omega (arith, nothing xs)

-- The digits in front and the missing digits make the power of ten of the first digit.
front-power : (n : ℕ) (xs : List ℕ) → 10 ^ length (take n xs) * 10 ^ (n - length xs) ≡ 10 ^ n
front-power n xs =
    elim (cases_lt n (length xs)) as (λ _. 10 ^ length (take n xs) * 10 ^ (n - length xs) ≡ 10 ^ n) [
      | inl many ↦
          let sum : length (take n xs) + (n - length xs) ≡ n = omega (arith, length-take-le n xs (omega arith)) in
          sym (pow-add 10 (length (take n xs)) (n - length xs)) ∙ ap (λ k. 10 ^ k) sum
      | inr few ↦
          let sum : length (take n xs) + (n - length xs) ≡ n = omega (arith, ap length (take_all n xs (omega arith))) in
          sym (pow-add 10 (length (take n xs)) (n - length xs)) ∙ ap (λ k. 10 ^ k) sum
    ]

distributed : (d p v q r : ℕ) → p * q ≡ r → (d * p + v) * q ≡ d * r + v * q
distributed d p v q r e = omega (arith, mul_assoc d p q, ap (λ x. d * x) e)

decimals-of : (n : ℕ) (ds : List ℕ) → digits_value 10 (take n ds) * 10 ^ (n - length ds) ≡ decimals_value (unit_at n) ds
unfolding unit_at
decimals-of zero ds = omega (arith, nothing ds)
decimals-of (suc n) [] = omega arith
decimals-of (suc n) (x ∷ xs) =
    let less : suc n - length (x ∷ xs) ≡ n - length xs = omega arith in
    let first : 0 * 10 + digit_value x ≡ digit_value x = omega arith in
    ap (λ k. digits_value 10 (x ∷ take n xs) * 10 ^ k) less
    ∙ ap (λ v. v * 10 ^ (n - length xs)) (value-after (0 * 10 + digit_value x) (take n xs) ∙ ap (λ d. d * 10 ^ length (take n xs) + digits_value 10 (take n xs)) first)
    ∙ distributed (digit_value x) (10 ^ length (take n xs)) (digits_value 10 (take n xs)) (10 ^ (n - length xs)) (10 ^ n) (front-power n xs)
    ∙ ap (λ v. digit_value x * 10 ^ n + v) (decimals-of n xs ∙ ap (λ u. decimals_value u xs) (sym (tenth n)))

pub nanoseconds : (ds : List ℕ) → nanoseconds_of ds ≡ decimals_value 100000000 ds
unfolding unit_at
nanoseconds ds = decimals-of 9 ds

decimals-below : (unit : ℕ) (ds : List ℕ) → AllDigits 10 ds → 0 < unit → decimals_value unit ds < 10 * unit
decimals-below unit [] all some = omega arith
decimals-below unit (x ∷ xs) all some =
    let most : digit_value x ≤ 9 = omega (arith, all.0) in
    let first : digit_value x * unit ≤ 9 * unit = mul-le-mul_right unit most in
    elim (cases_lt 0 (unit / 10)) as (λ _. digit_value x * unit + decimals_value (unit / 10) xs < 10 * unit) [
      | inl more ↦ omega (arith, first, decimals-below (unit / 10) xs all.1 more)
      | inr none ↦
          let zero_is : unit / 10 ≡ 0 = omega arith in
          omega (arith, first, ap (λ u. decimals_value u xs) zero_is ∙ nothing xs)
    ]

pub fraction-below : (fraction : List ℕ) (n : ℕ) → IsFraction fraction n → n < 1000000000
fraction-below fraction n is = elim is [
  | inl none ↦ omega (arith, none.1)
  | inr some ↦ omega (arith, some.1.value, nanoseconds some.0, decimals-below 100000000 some.0 some.1.all (lit< tt))
]

pub nanoseconds-some : (ds : List ℕ) → length ds ≤ 9 → 0 < digits_value 10 ds → 0 < nanoseconds_of ds
nanoseconds-some ds few some =
    let zero_up : 0 ≤ 9 - length ds = omega arith in
    let one : 10 ^ 0 ≤ 10 ^ (9 - length ds) = pow-le-pow_right (lit< tt) zero_up in
    let front : 0 < digits_value 10 (take 9 ds) = omega (arith, some, ap (digits_value 10) (take_all 9 ds few)) in
    mul-pos front (omega (arith, one))

pub value-some : (ds : List ℕ) → length ds ≤ 9 → 0 < nanoseconds_of ds → 0 < digits_value 10 ds
value-some ds few some =
    elim (cases_lt 0 (digits_value 10 ds)) as (λ _. 0 < digits_value 10 ds) [
      | inl more ↦ more
      | inr none ↦
          let zero_is : digits_value 10 (take 9 ds) ≡ 0 = omega (arith, none, ap (digits_value 10) (take_all 9 ds few)) in
          absurd (omega (arith, some, ap (λ v. v * 10 ^ (9 - length ds)) zero_is))
    ]

-- ---- read one by one
-- The digits parsed so far, and the value of the next digits.
pub record AreRead (old mid : List ℕ) (count unit next before now : ℕ) : Type 0 where
  pub digits : List ℕ
  pub all : AllDigits 10 digits
  pub count_is : length digits ≡ count
  pub bytes_are : old ≡ digits ++ mid
  pub value : (more : List ℕ) → before + decimals_value unit (digits ++ more) ≡ now + decimals_value next more

pub one_read : (old mid new : List ℕ) (count unit next before now d : ℕ) → AreRead old mid count unit next before now → (d < 10) × (mid ≡ (48 + d) ∷ new)
    → AreRead old new (count + 1) unit (next / 10) before (now + d * next)
one_read old mid new count unit next before now d h digit = record {
  digits = h.digits ++ (48 + d) ∷ [];
  all = all-push h.digits h.all;
  count_is = length-append h.digits ((48 + d) ∷ []) ∙ ap (λ k. k + 1) h.count_is;
  bytes_are = h.bytes_are ∙ ap (λ rest. h.digits ++ rest) digit.1 ∙ sym (append_assoc h.digits ((48 + d) ∷ []) new);
  value = λ more.
      ap (λ ds. before + decimals_value unit ds) (append_assoc h.digits ((48 + d) ∷ []) more) ∙ h.value ((48 + d) ∷ more)
      ∙ omega (arith, ap (λ v. v * next) (value-of d digit.0));
}
  where
    all-push : (ds : List ℕ) → AllDigits 10 ds → AllDigits 10 (ds ++ (48 + d) ∷ [])
    all-push [] a = (omega (arith, value-of d digit.0, digit.0), tt)
    all-push (x ∷ xs) a = (a.0, all-push xs a.1)

pub all_read : (old mid new : List ℕ) (count most unit next before now : ℕ) → count ≤ most → AreRead old mid count unit next before now → new ≡ mid
    → ParsesDecimals old new most unit before now
all_read old mid new count most unit next before now few h kept = record {
  digits = h.digits;
  all = h.all;
  few = omega (arith, h.count_is, few);
  value = ap (λ ds. before + decimals_value unit ds) (sym (append-nil h.digits)) ∙ h.value [] ∙ omega arith;
  bytes_are = h.bytes_are ∙ ap (λ rest. h.digits ++ rest) (sym kept);
}

-- ---- one turn of the loop
pub at_most_nine : (d unit : ℕ) → d < 10 → d * unit ≤ 9 * unit
at_most_nine d unit low = let most : d ≤ 9 = omega arith in mul-le-mul_right unit most

pub has_room : (n unit d : ℕ) → n + 10 * unit ≤ 1000000000 → d < 10 → n + d * unit + 10 * (unit / 10) ≤ 1000000000
has_room n unit d room low = omega (arith, at_most_nine d unit low)

pub scanned : (f : Shape) (most i : ℕ) (old mid new : List ℕ) → i < most → unmatched_bytes (UpTo most f) old ≡ unmatched_bytes (UpTo (most - i) f) mid
    → ((g h : Shape) → unmatched_bytes (Branch 48 9 g h) mid ≡ unmatched_bytes g new) → unmatched_bytes (UpTo most f) old ≡ unmatched_bytes (UpTo (most - (i + 1)) f) new
scanned f most i old mid new more e first =
    let next : most - i ≡ suc (most - (i + 1)) = omega (arith, more) in
    e ∙ ap (λ k. unmatched_bytes (UpTo k f) mid) next ∙ first (UpTo (most - (i + 1)) f) f

pub stopped : (f : Shape) (most i : ℕ) (old mid new : List ℕ) → i < most → unmatched_bytes (UpTo most f) old ≡ unmatched_bytes (UpTo (most - i) f) mid
    → ((g h : Shape) → unmatched_bytes (Branch 48 9 g h) mid ≡ unmatched_bytes h new) → unmatched_bytes (UpTo most f) old ≡ unmatched_bytes f new
stopped f most i old mid new more e other =
    let next : most - i ≡ suc (most - (i + 1)) = omega (arith, more) in
    e ∙ ap (λ k. unmatched_bytes (UpTo k f) mid) next ∙ other (UpTo (most - (i + 1)) f) f

pub at_most : (f : Shape) (most i : ℕ) (old new : List ℕ) → most ≤ i → unmatched_bytes (UpTo most f) old ≡ unmatched_bytes (UpTo (most - i) f) new → unmatched_bytes (UpTo most f) old ≡ unmatched_bytes f new
at_most f most i old new less e =
    let none : most - i ≡ 0 = omega (arith, less) in
    e ∙ ap (λ k. unmatched_bytes (UpTo k f) new) none

-- ---- digits of which one is not 0
pub first-scans : (f : Shape) (more : ℕ) (old mid new : List ℕ) → ((g h : Shape) → unmatched_bytes (Branch 49 8 g h) old ≡ unmatched_bytes g mid) → ((g : Shape) → unmatched_bytes (ByteRange 49 8 g) old ≡ unmatched_bytes g mid)
    → unmatched_bytes (UpTo more f) mid ≡ unmatched_bytes f new → unmatched_bytes (SomeUpTo more f) old ≡ unmatched_bytes f new
first-scans f zero old mid new branch from e = from f ∙ e
first-scans f (suc k) old mid new branch from e = branch (UpTo (suc k) f) (Byte 48 (SomeUpTo k f)) ∙ e

pub other-scans : (f : Shape) (more n : ℕ) (old mid : List ℕ) → more ≢ 0 → ((g h : Shape) → unmatched_bytes (Branch 49 8 g h) old ≡ unmatched_bytes h mid)
    → unmatched_bytes (Byte 48 (SomeUpTo (more - 1) f)) mid ≡ n → unmatched_bytes (SomeUpTo more f) old ≡ n
other-scans f zero n old mid some branch e = absurd (some refl)
other-scans f (suc k) n old mid some branch e =
    let same : suc k - 1 ≡ k = omega arith in
    branch (UpTo (suc k) f) (Byte 48 (SomeUpTo k f)) ∙ ap (λ i. unmatched_bytes (Byte 48 (SomeUpTo i f)) mid) (sym same) ∙ e

pub zero-scans : (more : ℕ) (old kept mid new : List ℕ) (r : Option ℕ) → more ≢ 0 → ((g h : Shape) → unmatched_bytes (Branch 49 8 g h) old ≡ unmatched_bytes h kept)
    → ((g : Shape) → unmatched_bytes (Byte 48 g) kept ≡ unmatched_bytes g mid) → Scans (SomeUpTo (more - 1)) mid new r → Scans (SomeUpTo more) old new r
zero-scans more old kept mid new (Some n) some branch byte scans = λ f. other-scans f more (unmatched_bytes f new) old kept some branch (byte (SomeUpTo (more - 1) f) ∙ scans f)
zero-scans more old kept mid new None some branch byte scans = λ f. other-scans f more (suc (length new)) old kept some branch (byte (SomeUpTo (more - 1) f) ∙ scans f)

pub first_decimal : (more unit d n : ℕ) (old mid new : List ℕ) → (1 ≤ d) × (d < 10) × (old ≡ (48 + d) ∷ mid) → ParsesDecimals mid new more (unit / 10) (d * unit) n
    → ParsesPositiveDecimals old new more unit n
first_decimal more unit d n old mid new digit h =
    let value = value-of d digit.1 in
    record {
      decimals = record {
        digits = (48 + d) ∷ h.digits;
        all = (omega (arith, value, digit.1), h.all);
        few = omega (arith, h.few);
        value = omega (arith, h.value, ap (λ v. v * unit) value);
        bytes_are = digit.2 ∙ ap (λ r. (48 + d) ∷ r) h.bytes_are;
      };
      some = omega (arith, value-most (0 * 10 + digit_value (48 + d)) h.digits, value, digit.0);
    }

zero_decimal : (more unit n : ℕ) (old mid new : List ℕ) → more ≢ 0 → old ≡ 48 ∷ mid → ParsesPositiveDecimals mid new (more - 1) (unit / 10) n → ParsesPositiveDecimals old new more unit n
zero_decimal more unit n old mid new some byte h = record {
  decimals = record {
    digits = 48 ∷ h.decimals.digits;
    all = (lit< tt, h.decimals.all);
    few = omega (arith, h.decimals.few, some);
    value = omega (arith, h.decimals.value);
    bytes_are = byte ∙ ap (λ r. 48 ∷ r) h.decimals.bytes_are;
  };
  some = h.some;
}

pub zero_decimals : (more unit : ℕ) (old mid new : List ℕ) (r : Option ℕ) → more ≢ 0 → old ≡ 48 ∷ mid → IfSome r (ParsesPositiveDecimals mid new (more - 1) (unit / 10))
    → IfSome r (ParsesPositiveDecimals old new more unit)
zero_decimals more unit old mid new (Some n) some byte h = zero_decimal more unit n old mid new some byte h
zero_decimals more unit old mid new None some byte h = tt

-- ---- the whole fraction
pub put_fraction : (more d n : ℕ) (old mid digits new : List ℕ) → old ≡ 46 ∷ mid → (d < 10) × (mid ≡ (48 + d) ∷ digits)
    → ParsesDecimals digits new more 10000000 (d * 100000000) n → HasFractionBefore new more old n
put_fraction more d n old mid digits new point first h =
    let value = value-of d first.0 in
    record {
      fraction = 46 ∷ (48 + d) ∷ h.digits;
      is_fraction = inr (
        (48 + d) ∷ h.digits,
        record {
          some = omega arith;
          all = (omega (arith, value, first.0), h.all);
          bytes_are = refl;
          value = omega (arith, nanoseconds ((48 + d) ∷ h.digits), h.value, ap (λ v. v * 100000000) value);
        },
      );
      short = omega (arith, h.few);
      bytes_are = point ∙ ap (λ r. 46 ∷ r) (first.1 ∙ ap (λ r. (48 + d) ∷ r) h.bytes_are);
    }

pub no_fraction : (more : ℕ) (old new : List ℕ) → new ≡ old → HasFractionBefore new more old 0
no_fraction more old new kept = record { fraction = []; is_fraction = inl (refl, refl); short = omega arith; bytes_are = sym kept }
