-- What the scanners of a fraction, of minutes and of seconds went past.
use Rattle.std.proofs.Common.{◌≡◌, ℕ, ◌+◌, ◌*◌, ◌/◌, ◌<◌, ◌≤◌, ◌⊎◌, inl, inr, List, [], ◌∷◌, ◌++◌, length, Option, Some, None, refl, sym, ap, ◌∙◌, arith}
use Rattle.std.specs.Prelude.{IfSome}
use Rattle.std.specs.Char.{digit_value}
use Rattle.std.proofs.lemmas.List.{append_assoc, length-append}
use Rattle.cal_text.specs.Shape.{Branch, GoesPast, ParsesDecimals, ParsesDigits, Shape, decimals_value, unmatched_bytes}
use Rattle.cal_text.proofs.Decimals.{nanoseconds}
use Rattle.cal_text.proofs.ReadDigits.{all-append, one_digit, one_more, value-of}
use Rattle.cal_text.proofs.Stops.{unmatched_bytes-branch_none}
use Rattle.cal_iso.specs.ClockForm.{AllZeros, IsDecimals, IsIsoFraction, IsAfterHour, IsSecondsOrNone}
use Rattle.cal_iso.specs.IsoShape.{Zeros}
use Rattle.cal_iso.proofs.ClockShapes.{IsTail, NoZero, zeros-after, zeros-digits, zeros_each}
use Rattle.cal_iso.proofs.DateReads.{number}

-- ---- zeros
-- The scanner went past this many zeros.
abbrev pub ZerosPast : ℕ → List ℕ → List ℕ → Type 0
ZerosPast count old new = GoesPast (λ zeros. AllZeros zeros × (length zeros ≡ count)) old new

zeros_append : (zs : List ℕ) → AllZeros zs → AllZeros (zs ++ 48 ∷ [])
zeros_append [] h = (refl, tt)
zeros_append (z ∷ zs) h = (h.0, zeros_append zs h.1)

pub one_zero : (count : ℕ) (old mid new : List ℕ) → ZerosPast count old mid → mid ≡ 48 ∷ new → ZerosPast (count + 1) old new
one_zero count old mid new h byte = record {
  front = h.front ++ 48 ∷ [];
  is = (zeros_append h.front h.is.0, omega (arith, length-append h.front (48 ∷ []), h.is.1));
  bytes_are = h.bytes_are ∙ ap (λ r. h.front ++ r) byte ∙ sym (append_assoc h.front (48 ∷ []) new);
}

pub zeros_past : (count m : ℕ) (f : Shape) (old mid new : List ℕ) → ZerosPast count old mid → length old ≤ m
    → ((g h : Shape) → unmatched_bytes (Branch 48 0 g h) mid ≡ unmatched_bytes h new) → new ≡ mid → unmatched_bytes (Zeros m f) old ≡ unmatched_bytes f new
zeros_past count m f old mid new h few out kept =
    ap (unmatched_bytes (Zeros m f)) h.bytes_are
    ∙ zeros_each m f h.front mid h.is.0 (omega (arith, few, ap length h.bytes_are, length-append h.front mid)) (λ g i. out g i ∙ ap (unmatched_bytes i) kept)
    ∙ ap (unmatched_bytes f) (sym kept)

pub no_more_zeros : (count : ℕ) (old new : List ℕ) → ZerosPast count old new → length old ≤ count → NoZero new
no_more_zeros count old new h all f g = unmatched_bytes-branch_none 48 0 f g new (omega (arith, all, h.is.1, ap length h.bytes_are, length-append h.front new))

-- ---- decimals
value-zeros : (unit : ℕ) (zs : List ℕ) → AllZeros zs → decimals_value unit zs ≡ 0
value-zeros unit [] h = refl
value-zeros unit (z ∷ zs) h =
    let zero_is : digit_value z ≡ 0 = ap digit_value h.0 in
    ap (λ v. v * unit + decimals_value (unit / 10) zs) zero_is ∙ omega (arith, value-zeros (unit / 10) zs h.1)

value-before : (unit : ℕ) (ds zs : List ℕ) → AllZeros zs → decimals_value unit (ds ++ zs) ≡ decimals_value unit ds
value-before unit [] zs h = value-zeros unit zs h
value-before unit (d ∷ ds) zs h = ap (λ v. digit_value d * unit + v) (value-before (unit / 10) ds zs h)

pub put_decimals : (d n : ℕ) (old mid rest new : List ℕ) → (d < 10) × (old ≡ (48 + d) ∷ mid) → ParsesDecimals mid rest 8 10000000 (d * 100000000) n → GoesPast AllZeros rest new
    → GoesPast (λ digits. IsDecimals digits n) old new
put_decimals d n old mid rest new first h zeros =
    let value = value-of d first.0 in
    let all = (48 + d) ∷ h.digits in
    let short : length all ≤ 9 = omega (arith, h.few) in
    let nanos : n ≡ decimals_value 100000000 all = sym (omega (arith, h.value, ap (λ v. v * 100000000) value)) in
    record {
      front = all ++ zeros.front;
      is = record {
        all = all-append all zeros.front (omega (arith, value, first.0), h.all) (zeros-digits zeros.front zeros.is);
        some = omega (arith, length-append all zeros.front);
        exact = zeros-after 9 all zeros.front short zeros.is;
        value = nanos ∙ sym (value-before 100000000 all zeros.front zeros.is) ∙ sym (nanoseconds (all ++ zeros.front));
      };
      bytes_are = first.1 ∙ ap (λ r. (48 + d) ∷ r) (h.bytes_are ∙ ap (λ r. h.digits ++ r) zeros.bytes_are) ∙ sym (append_assoc all zeros.front new);
    }

pub fraction_past : (mark : ℕ) (r : Option ℕ) (old mid new : List ℕ) → (mark ≡ 46) ⊎ (mark ≡ 44) → old ≡ mark ∷ mid → IfSome r (λ n. GoesPast (λ digits. IsDecimals digits n) mid new)
    → IfSome r (λ n. GoesPast (λ bytes. IsIsoFraction bytes n) old new)
fraction_past mark None old mid new is byte h = tt
fraction_past mark (Some n) old mid new (inl is) byte h = record {
  front = mark ∷ h.front;
  is = inr (h.front, h.is, inl (ap (λ m. m ∷ h.front) is));
  bytes_are = byte ∙ ap (λ r. mark ∷ r) h.bytes_are;
}
fraction_past mark (Some n) old mid new (inr is) byte h = record {
  front = mark ∷ h.front;
  is = inr (h.front, h.is, inr (ap (λ m. m ∷ h.front) is));
  bytes_are = byte ∙ ap (λ r. mark ∷ r) h.bytes_are;
}

-- ---- seconds
pub put_seconds : (T : IsTail) (mark : List ℕ) (s n : ℕ) (old mid rest new : List ℕ) → old ≡ mark ++ mid → ParsesDigits mid rest 2 s → GoesPast (λ bytes. T bytes n) rest new
    → GoesPast (λ bytes. IsSecondsOrNone T mark bytes s n) old new
put_seconds T mark s n old mid rest new e h tail = record {
  front = mark ++ (h.digits ++ tail.front);
  is = inr (record { digits = h.digits; tail = tail.front; is = number 2 s mid rest h; is_tail = tail.is; bytes_are = refl });
  bytes_are = e ∙ ap (λ r. mark ++ r) (h.bytes_are ∙ ap (λ r. h.digits ++ r) tail.bytes_are ∙ sym (append_assoc h.digits tail.front new)) ∙ sym (append_assoc mark (h.digits ++ tail.front) new);
}

pub no_seconds : (T : IsTail) (mark old new : List ℕ) → new ≡ old → GoesPast (λ bytes. IsSecondsOrNone T mark bytes 0 0) old new
no_seconds T mark old new kept = record { front = []; is = inl (refl, refl, refl); bytes_are = sym kept }

-- two digits, one by one
pub two_of : (t o : ℕ) (old mid new : List ℕ) → (t < 10) × (old ≡ (48 + t) ∷ mid) → (o < 10) × (mid ≡ (48 + o) ∷ new) → ParsesDigits old new 2 (t * 10 + o)
two_of t o old mid new first second = one_more t o 1 old mid new (one_digit t old mid first.0 first.1) second.0 second.1

-- ---- minutes
pub put_colon : (T : IsTail) (m s n : ℕ) (old mid rest new : List ℕ) → old ≡ 58 ∷ mid → ParsesDigits mid rest 2 m → GoesPast (λ bytes. IsSecondsOrNone T (58 ∷ []) bytes s n) rest new
    → GoesPast (λ bytes. IsAfterHour T bytes m s n) old new
put_colon T m s n old mid rest new e h k = record {
  front = 58 ∷ (h.digits ++ k.front);
  is = inr (inl (record { digits = h.digits; rest = k.front; is = number 2 m mid rest h; is_rest = k.is; bytes_are = refl }));
  bytes_are = e ∙ ap (λ r. 58 ∷ r) (h.bytes_are ∙ ap (λ r. h.digits ++ r) k.bytes_are ∙ sym (append_assoc h.digits k.front new));
}

pub put_basic : (T : IsTail) (m s n : ℕ) (old start rest new : List ℕ) → start ≡ old → ParsesDigits start rest 2 m → GoesPast (λ bytes. IsSecondsOrNone T [] bytes s n) rest new
    → GoesPast (λ bytes. IsAfterHour T bytes m s n) old new
put_basic T m s n old start rest new kept h k = record {
  front = h.digits ++ k.front;
  is = inr (inr (record { digits = h.digits; rest = k.front; is = number 2 m start rest h; is_rest = k.is; bytes_are = refl }));
  bytes_are = sym kept ∙ h.bytes_are ∙ ap (λ r. h.digits ++ r) k.bytes_are ∙ sym (append_assoc h.digits k.front new);
}

pub none_after : (T : IsTail) (old start new : List ℕ) → start ≡ old → new ≡ start → GoesPast (λ bytes. IsAfterHour T bytes 0 0 0) old new
none_after T old start new kept end = record { front = []; is = inl (refl, refl, refl, refl); bytes_are = sym kept ∙ sym end }
