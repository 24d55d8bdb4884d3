-- Scanning the digits of a fraction of a second.
use Rattle.std.proofs.Common.{◌≡◌, ◌≢◌, ℕ, zero, suc, ◌+◌, ◌-◌, ◌*◌, ◌/◌, ◌%◌, ◌<◌, ◌≤◌, List, [], ◌∷◌, ◌++◌, length, take, drop, replicate, refl, sym, ap, ◌∙◌, arith, length-append, inl, inr, lit≤}
use Rattle.std.specs.Prelude.{Bool, true, false, fold}
use Rattle.std.specs.Char.{digit_value}
use Rattle.std.specs.Str.Parse.{AllDigits}
use Rattle.std.proofs.lemmas.List.{length-replicate}
use Rattle.std.proofs.lemmas.Bool.{cases_eq}
use Rattle.cal_text.specs.Shape.{decimals_value}
use Rattle.cal_text.proofs.DigitParts.{has_value, is_digit}
use Rattle.cal_text.proofs.ReadDigits.{value-of}
use Rattle.cal_time.specs.Digits.{nine_digits, prepend_digit, without_trailing_zeros, decimals}
use Rattle.cal_time.specs.Laws.{prepend_digit-other, prepend_digit-zero}
use Rattle.cal_format.specs.Text.{fraction_text}
use Rattle.cal_format.specs.Form.{ParsesDecimals}
use Rattle.cal_format.proofs.Digits.{step, digits-one}
use Rattle.cal_format.proofs.Ends.{AreDigits}
use Rattle.cal_format.proofs.Fractions.{nine-digits, value-nine, fraction-some}

-- ---- a digit, and other digits
one-last : (d : ℕ) (ds : List ℕ) → d ≢ 48 → without_trailing_zeros ds ≡ ds → without_trailing_zeros (d ∷ ds) ≡ d ∷ ds
unfolding without_trailing_zeros
one-last d ds other last = ap (prepend_digit d) last ∙ prepend_digit-other d ds other

zero-last : (ds : List ℕ) → 0 < length ds → without_trailing_zeros ds ≡ ds → without_trailing_zeros (48 ∷ ds) ≡ 48 ∷ ds
unfolding without_trailing_zeros
zero-last [] some last = absurd (omega arith)
zero-last (d ∷ ds) some last = ap (prepend_digit 48) last

pub none-last : without_trailing_zeros [] ≡ []
unfolding without_trailing_zeros
none-last = refl

other-digit : (d : ℕ) → 1 ≤ d → 48 + d ≢ 48
other-digit d low e = absurd (omega arith)

pub first-decimal : (d more unit : ℕ) (end : Bool) (old new : List ℕ) → (1 ≤ d) × (d < 10) × (old ≡ (48 + d) ∷ new) → ParsesDecimals old new end more unit (d * unit)
first-decimal d more unit end old new first = record {
  digits = (48 + d) ∷ [];
  all = (omega (arith, value-of d first.1, first.1), tt);
  few = omega arith;
  last = one-last (48 + d) [] (other-digit d first.0) none-last;
  some = λ _. omega arith;
  value = ap (λ v. v * unit + 0) (value-of d first.1) ∙ omega arith;
  bytes_are = first.2;
}

pub next-decimal : (d n more unit : ℕ) (end : Bool) (old mid new : List ℕ) → more ≢ 0 → (1 ≤ d) × (d < 10) × (old ≡ (48 + d) ∷ mid) → ParsesDecimals mid new true (more - 1) (unit / 10) n
    → ParsesDecimals old new end more unit (d * unit + n)
next-decimal d n more unit end old mid new some first h = record {
  digits = (48 + d) ∷ h.digits;
  all = (omega (arith, value-of d first.1, first.1), h.all);
  few = omega (arith, h.few, some);
  last = one-last (48 + d) h.digits (other-digit d first.0) h.last;
  some = λ _. omega arith;
  value = ap (λ v. v * unit + decimals_value (unit / 10) h.digits) (value-of d first.1) ∙ ap (λ v. d * unit + v) h.value;
  bytes_are = first.2 ∙ ap (λ l. (48 + d) ∷ l) h.bytes_are;
}

pub zero-decimal : (n more unit : ℕ) (end : Bool) (old mid new : List ℕ) → more ≢ 0 → old ≡ 48 ∷ mid → ParsesDecimals mid new false (more - 1) (unit / 10) n → ParsesDecimals old new end more unit n
zero-decimal n more unit end old mid new some first h = record {
  digits = 48 ∷ h.digits;
  all = (omega (arith, value-of 0 (omega arith)), h.all);
  few = omega (arith, h.few, some);
  last = zero-last h.digits (h.some refl) h.last;
  some = λ _. omega arith;
  value = ap (λ v. v * unit + decimals_value (unit / 10) h.digits) (value-of 0 (omega arith)) ∙ omega (arith, h.value);
  bytes_are = first ∙ ap (λ l. 48 ∷ l) h.bytes_are;
}

no-end : {A : Type 0} (end : Bool) → end ≡ true → end ≡ false → A
no-end end e f = cc

pub no-decimal : (more unit : ℕ) (end : Bool) (old new : List ℕ) → end ≡ true → new ≡ old → ParsesDecimals old new end more unit 0
no-decimal more unit end old new e same = record {
  digits = [];
  all = tt;
  few = omega arith;
  last = none-last;
  some = λ f. no-end end e f;
  value = refl;
  bytes_are = sym same;
}

-- ---- the digits of a fraction are its decimals
value-zeros : (unit k : ℕ) → decimals_value unit (replicate k 48) ≡ 0
value-zeros unit zero = refl
value-zeros unit (suc k) = ap (λ v. v * unit + decimals_value (unit / 10) (replicate k 48)) (value-of 0 (omega arith)) ∙ omega (arith, value-zeros (unit / 10) k)

value-fill : (unit k : ℕ) (ds : List ℕ) → decimals_value unit (ds ++ replicate k 48) ≡ decimals_value unit ds
value-fill unit k [] = value-zeros unit k
value-fill unit k (d ∷ ds) = ap (λ v. digit_value d * unit + v) (value-fill (unit / 10) k ds)

last-zeros : (k : ℕ) → without_trailing_zeros (replicate k 48) ≡ []
unfolding without_trailing_zeros
last-zeros zero = refl
last-zeros (suc k) = ap (prepend_digit 48) (last-zeros k) ∙ prepend_digit-zero 48 refl

last-fill : (k : ℕ) (ds : List ℕ) → without_trailing_zeros (ds ++ replicate k 48) ≡ without_trailing_zeros ds
unfolding without_trailing_zeros
last-fill k [] = last-zeros k
last-fill k (d ∷ ds) = ap (prepend_digit d) (last-fill k ds)

prepended : (d : ℕ) (w ds : List ℕ) → prepend_digit d w ≡ d ∷ ds → w ≡ ds
prepended d [] ds e =
    elim (cases_eq d 48) as (λ _. [] ≡ ds) [
      | inl zero_is ↦ absurd (omega (arith, ap length (sym (prepend_digit-zero d zero_is) ∙ e)))
      | inr other ↦ ap (λ l. drop 1 l) (sym (prepend_digit-other d [] other) ∙ e)
    ]
prepended d (x ∷ xs) ds e = ap (λ l. drop 1 l) e

pub tail-last : (d : ℕ) (ds : List ℕ) → without_trailing_zeros (d ∷ ds) ≡ d ∷ ds → without_trailing_zeros ds ≡ ds
unfolding without_trailing_zeros
tail-last d ds e = prepended d (without_trailing_zeros ds) ds e

-- A digit alone isn't 0, and a 0 comes before other digits.
pub one-high : (x : ℕ) → 48 ≤ x → without_trailing_zeros (x ∷ []) ≡ x ∷ [] → 49 ≤ x
unfolding without_trailing_zeros
one-high x low last = elim (cases_eq x 48) as (λ _. 49 ≤ x) [
  | inl zero_is ↦ absurd (omega (arith, ap length (sym (prepend_digit-zero x zero_is) ∙ last)))
  | inr other ↦ omega (arith, low, other)
]

pub more-after : (x : ℕ) (xs : List ℕ) → x ≡ 48 → without_trailing_zeros (x ∷ xs) ≡ x ∷ xs → 0 < length xs
more-after x [] zero_is last = absurd (omega (arith, zero_is, one-high x (omega (arith, zero_is)) last))
more-after x (y ∷ ys) zero_is last = omega arith

are-digits : (ds : List ℕ) → AllDigits 10 ds → AreDigits ds
are-digits [] all = tt
are-digits (d ∷ ds) all = let is = is_digit d all.0 in (is.0, is.1, are-digits ds all.1)

value : (x : ℕ) → 48 ≤ x → x ≤ 57 → digit_value x ≡ x % 16
value x low high = let same = has_value x (low, high) in omega (arith, low, high, same)

-- Nine digits, as a number and as a fraction.
nine-value : (l : List ℕ) → length l ≡ 9 → AreDigits l → (fold step 0 l ≡ decimals_value 100_000_000 l) × (decimals_value 100_000_000 l < 1_000_000_000)
nine-value (a ∷ b ∷ c ∷ d ∷ e ∷ f ∷ g ∷ h ∷ k ∷ []) long all =
    let is_a = value a all.0 all.1 in
    let is_b = value b all.2.0 all.2.1 in
    let is_c = value c all.2.2.0 all.2.2.1 in
    let is_d = value d all.2.2.2.0 all.2.2.2.1 in
    let is_e = value e all.2.2.2.2.0 all.2.2.2.2.1 in
    let is_f = value f all.2.2.2.2.2.0 all.2.2.2.2.2.1 in
    let is_g = value g all.2.2.2.2.2.2.0 all.2.2.2.2.2.2.1 in
    let is_h = value h all.2.2.2.2.2.2.2.0 all.2.2.2.2.2.2.2.1 in
    let is_k = value k all.2.2.2.2.2.2.2.2.0 all.2.2.2.2.2.2.2.2.1 in
    (omega (arith, is_a, is_b, is_c, is_d, is_e, is_f, is_g, is_h, is_k), omega (arith, is_a, is_b, is_c, is_d, is_e, is_f, is_g, is_h, is_k, all))
nine-value _ long all = absurd (omega arith)

digits-fill : (k : ℕ) (ds : List ℕ) → AreDigits ds → AreDigits (ds ++ replicate k 48)
digits-fill zero [] h = tt
digits-fill (suc k) [] h = (lit≤ tt, lit≤ tt, digits-fill k [] tt)
digits-fill k (d ∷ ds) h = (h.0, h.1, digits-fill k ds h.2)

digits-are : (ds : List ℕ) → AllDigits 10 ds → length ds ≤ 9 → (nine_digits (decimals_value 100_000_000 ds) ≡ ds ++ replicate (9 - length ds) 48) × (decimals_value 100_000_000 ds < 1_000_000_000)
digits-are ds all few =
    let l = ds ++ replicate (9 - length ds) 48 in
    let n = decimals_value 100_000_000 ds in
    let long : length l ≡ 9 = omega (arith, length-append ds (replicate (9 - length ds) 48), length-replicate {A = ℕ} (9 - length ds) 48) in
    let are = digits-fill (9 - length ds) ds (are-digits ds all) in
    let found = nine-value l long are in
    let same = value-fill 100_000_000 (9 - length ds) ds in
    let below : n < 1_000_000_000 = omega (arith, found.1, same) in
    ((digits-one 0 0 (nine_digits n) l (sym long) (nine-digits n below) are (value-nine n below ∙ sym (found.0 ∙ same))).1, below)

abbrev first_kept : List ℕ → List ℕ
first_kept l = take 1 l ++ without_trailing_zeros (drop 1 l)

decimals-are : (ds : List ℕ) → AllDigits 10 ds → length ds ≤ 9 → 0 < length ds → without_trailing_zeros ds ≡ ds → decimals (decimals_value 100_000_000 ds) ≡ ds
decimals-are [] all few some last = absurd (omega arith)
decimals-are (d ∷ ds) all few some last =
    ap first_kept (digits-are (d ∷ ds) all few).0 ∙ ap (λ l. d ∷ l) (last-fill (9 - suc (length ds)) ds ∙ tail-last d ds last)

decimals-0 : without_trailing_zeros (decimals 0) ≡ []
unfolding without_trailing_zeros
decimals-0 = refl

not-0 : (ds : List ℕ) → decimals 0 ≡ ds → 0 < length ds → without_trailing_zeros ds ≡ ds → ⊥
not-0 ds e some last = omega (arith, some, ap length (sym last ∙ ap without_trailing_zeros (sym e) ∙ decimals-0))

pub fraction-scanned : (n : ℕ) (old mid new : List ℕ) → old ≡ 46 ∷ mid → ParsesDecimals mid new false 8 100_000_000 n → (n < 1_000_000_000) × (old ≡ fraction_text n ++ new)
fraction-scanned n old mid new point h =
    let few : length h.digits ≤ 9 = h.few in
    let is : decimals n ≡ h.digits = ap decimals (sym h.value) ∙ decimals-are h.digits h.all few (h.some refl) h.last in
    let other : n ≢ 0 = λ e. absurd (not-0 h.digits (ap decimals (sym e) ∙ is) (h.some refl) h.last) in
    let below = (digits-are h.digits h.all few).1 in (
      omega (arith, below, h.value),
      point ∙ ap (λ l. 46 ∷ l) (h.bytes_are ∙ ap (λ ds. ds ++ new) (sym is)) ∙ ap (λ l. l ++ new) (sym (fraction-some n (omega (arith, other)))),
    )

-- A digit and the digits after it.
pub decimals-scanned : (d n : ℕ) (old mid new : List ℕ) → (d < 10) × (old ≡ (48 + d) ∷ mid) → ParsesDecimals mid new true 7 10_000_000 n
    → (d * 100_000_000 + n < 1_000_000_000) × (old ≡ decimals (d * 100_000_000 + n) ++ new)
decimals-scanned d n old mid new first h =
    let ds = (48 + d) ∷ h.digits in
    let all : AllDigits 10 ((48 + d) ∷ h.digits) = (omega (arith, value-of d first.0, first.0), h.all) in
    let few : length ((48 + d) ∷ h.digits) ≤ 9 = omega (arith, h.few) in
    let value : decimals_value 100_000_000 ((48 + d) ∷ h.digits) ≡ d * 100_000_000 + n =
    ap (λ v. v * 100_000_000 + decimals_value 10_000_000 h.digits) (value-of d first.0) ∙ ap (λ v. d * 100_000_000 + v) h.value in
    let is : decimals (d * 100_000_000 + n) ≡ (48 + d) ∷ h.digits =
    ap decimals (sym value) ∙ ap first_kept (digits-are ((48 + d) ∷ h.digits) all few).0 ∙ ap (λ l. (48 + d) ∷ l) (last-fill (9 - suc (length h.digits)) h.digits ∙ h.last) in
    let below = (digits-are ((48 + d) ∷ h.digits) all few).1 in (
      omega (arith, below, value),
      first.1 ∙ ap (λ l. (48 + d) ∷ l) h.bytes_are ∙ ap (λ l. l ++ new) (sym is),
    )
