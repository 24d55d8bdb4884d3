-- A number of any length, as it is parsed digit by digit.
use Rattle.std.proofs.Common.{◌≡◌, ℕ, suc, ◌+◌, ◌-◌, ◌*◌, ◌<◌, ◌≤◌, ◌^◌, List, [], ◌∷◌, ◌++◌, length, refl, sym, ap, ◌∙◌, arith}
use Rattle.std.specs.Prelude.{min}
use Rattle.std.specs.Char.{digit_value}
use Rattle.std.specs.Str.Parse.{AllDigits, digits_value, digits_value_after}
use Rattle.std.proofs.lemmas.List.{append_assoc, length-append}
use Rattle.cal_text.specs.Shape.{Shape, End, Branch, UpTo, unmatched_bytes, GoesPast, ParsesDecimals}
use Rattle.cal_text.proofs.Decimals.{nanoseconds}
use Rattle.cal_text.proofs.DigitParts.{is_digit, counted-each}
use Rattle.cal_text.proofs.Parts.{BeginsOutside}
use Rattle.cal_text.proofs.ReadDigits.{value-of}
use Rattle.cal_text.proofs.Stops.{unmatched_bytes-most, unmatched_bytes-more, unmatched_bytes-branch_in}
use Rattle.cal_duration.specs.Form.{IsNumber}
use Rattle.cal_duration.specs.PartsRead.{DecimalsRead}
use Rattle.cal_duration.specs.DurationShape.{AnyNumber}

-- ---- no digit comes next
pub outside : (bytes : List ℕ) → ((f g : Shape) → unmatched_bytes (Branch 48 9 f g) bytes ≡ unmatched_bytes g bytes) → BeginsOutside 48 9 bytes
outside bytes h x xs e here =
    let inside : unmatched_bytes (Branch 48 9 End End) bytes ≡ unmatched_bytes End xs = ap (unmatched_bytes (Branch 48 9 End End)) e ∙ unmatched_bytes-branch_in 48 9 End End x xs here in
    let past : unmatched_bytes End bytes ≡ suc (length (x ∷ xs)) = ap (unmatched_bytes End) e ∙ unmatched_bytes-more x xs in
    absurd (omega (arith, inside, past, h End End, unmatched_bytes-most End xs))

-- ---- digits at the front
abbrev pub IsRead : List ℕ → List ℕ → ℕ → Type 0
IsRead old new n = GoesPast (λ digits. IsNumber digits n) old new

after_all : (n : ℕ) (ds es : List ℕ) → digits_value_after 10 n (ds ++ es) ≡ digits_value_after 10 (digits_value_after 10 n ds) es
after_all n [] es = refl
after_all n (d ∷ ds) es = after_all (n * 10 + digit_value d) ds es

all_digits : (ds es : List ℕ) → AllDigits 10 ds → AllDigits 10 es → AllDigits 10 (ds ++ es)
all_digits [] es a b = b
all_digits (d ∷ ds) es a b = (a.0, all_digits ds es a.1 b)

capped : (v d : ℕ) → min (min (min v (2 ^ 64 - 1) * 10) (2 ^ 64 - 1) + d) (2 ^ 64 - 1) ≡ min (v * 10 + d) (2 ^ 64 - 1)
capped v d = omega arith

pub first_digit : (d : ℕ) (old new : List ℕ) → (d < 10) × (old ≡ (48 + d) ∷ new) → IsRead old new d
first_digit d old new h =
    let value = value-of d h.0 in
    record {
      front = (48 + d) ∷ [];
      is = record { all = (omega (arith, value, h.0), tt); some = omega arith; value = omega (arith, value, h.0) };
      bytes_are = h.1;
    }

pub next_digit : (n d : ℕ) (old mid new : List ℕ) → IsRead old mid n → (d < 10) × (mid ≡ (48 + d) ∷ new) → IsRead old new (min (min (n * 10) (2 ^ 64 - 1) + d) (2 ^ 64 - 1))
next_digit n d old mid new h digit =
    let value = value-of d digit.0 in
    let whole : digits_value 10 (h.front ++ (48 + d) ∷ []) ≡ digits_value 10 h.front * 10 + d = after_all 0 h.front ((48 + d) ∷ []) ∙ ap (λ x. digits_value 10 h.front * 10 + x) value in
    record {
      front = h.front ++ (48 + d) ∷ [];
      is = record {
        all = all_digits h.front ((48 + d) ∷ []) h.is.all (omega (arith, value, digit.0), tt);
        some = omega (arith, length-append h.front ((48 + d) ∷ []));
        value = ap (λ m. min (min (m * 10) (2 ^ 64 - 1) + d) (2 ^ 64 - 1)) h.is.value ∙ capped (digits_value 10 h.front) d ∙ ap (λ v. min v (2 ^ 64 - 1)) (sym whole);
      };
      bytes_are = h.bytes_are ∙ ap (λ r. h.front ++ r) digit.1 ∙ sym (append_assoc h.front ((48 + d) ∷ []) new);
    }

-- ---- the shape of a number that was parsed to its end
pub number_scans : (n more : ℕ) (f : Shape) (old new : List ℕ) → length old ≤ more → IsRead old new n → BeginsOutside 48 9 new
    → unmatched_bytes (AnyNumber more f) old ≡ unmatched_bytes f new
number_scans n more f old new few h out =
    ap (unmatched_bytes (AnyNumber more f)) h.bytes_are
    ∙ counted-each 1 more f h.front new (h.is.all, omega (arith, h.is.some), omega (arith, few, ap length h.bytes_are, length-append h.front new)) out

pub optional_scans : (n more : ℕ) (f g : Shape) (old new : List ℕ) → length old ≤ more → IsRead old new n → BeginsOutside 48 9 new
    → unmatched_bytes (Branch 48 9 (UpTo more f) g) old ≡ unmatched_bytes f new
optional_scans n more f g old new few h out = ap (unmatched_bytes (Branch 48 9 (UpTo more f) g)) h.bytes_are ∙ at h.front h.is.all h.is.some (omega (arith, few, ap length h.bytes_are, length-append h.front new))
  where
    at : (ds : List ℕ) → AllDigits 10 ds → 0 < length ds → length ds ≤ more → unmatched_bytes (Branch 48 9 (UpTo more f) g) (ds ++ new) ≡ unmatched_bytes f new
    at [] all some few = absurd (omega (arith, some))
    at (x ∷ xs) all some few =
        unmatched_bytes-branch_in 48 9 (UpTo more f) g x (xs ++ new) (is_digit x all.0) ∙ counted-each 0 more f xs new (all.1, omega arith, omega (arith, few)) out

-- ---- the last digit was parsed: none comes next
pub record IsStopped (mid new : List ℕ) : Type 0 where
  pub branches : (f g : Shape) → unmatched_bytes (Branch 48 9 f g) mid ≡ unmatched_bytes g new
  pub unchanged : new ≡ mid

stopped_outside : (mid new : List ℕ) → IsStopped mid new → BeginsOutside 48 9 mid
stopped_outside mid new h = outside mid (λ f g. h.branches f g ∙ ap (unmatched_bytes g) h.unchanged)

pub number_done : (n more : ℕ) (f : Shape) (old mid new : List ℕ) → length old ≤ more → IsRead old mid n → IsStopped mid new → unmatched_bytes (AnyNumber more f) old ≡ unmatched_bytes f new
number_done n more f old mid new few h stop = number_scans n more f old mid few h (stopped_outside mid new stop) ∙ ap (unmatched_bytes f) (sym stop.unchanged)

pub optional_done : (n more : ℕ) (f g : Shape) (old mid new : List ℕ) → length old ≤ more → IsRead old mid n → IsStopped mid new
    → unmatched_bytes (Branch 48 9 (UpTo more f) g) old ≡ unmatched_bytes f new
optional_done n more f g old mid new few h stop = optional_scans n more f g old mid few h (stopped_outside mid new stop) ∙ ap (unmatched_bytes f) (sym stop.unchanged)

-- ---- a fraction and the letter after it
pub decimals_read : (d n : ℕ) (old mid digits new : List ℕ) → (d < 10) × (old ≡ (48 + d) ∷ mid) → ParsesDecimals mid digits 8 10000000 (d * 100000000) n → digits ≡ 83 ∷ new
    → DecimalsRead old new n
decimals_read d n old mid digits new first h byte =
    let value = value-of d first.0 in
    record {
      digits = (48 + d) ∷ h.digits;
      all = (omega (arith, value, first.0), h.all);
      some = omega arith;
      few = omega (arith, h.few);
      value = sym (omega (arith, nanoseconds ((48 + d) ∷ h.digits), h.value, ap (λ v. v * 100000000) value));
      bytes_are = first.1 ∙ ap (λ r. (48 + d) ∷ r) (h.bytes_are ∙ ap (λ r. h.digits ++ r) byte);
    }
