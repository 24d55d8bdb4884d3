-- The form of a date after its parts have been parsed.
use Rattle.std.proofs.Common.{◌≡◌, ℕ, ◌+◌, ◌-◌, ◌*◌, ◌<◌, ◌≤◌, ℤ, List, [], ◌∷◌, ◌++◌, length, refl, sym, ap, ◌∙◌, arith, lit≤, lit<}
use Rattle.std.specs.Str.Parse.{digits_value}
use Rattle.std.proofs.lemmas.Int.Digits.{digits_push, digits_value_push}
use Rattle.std.proofs.lemmas.List.{append_assoc, length-append}
use Rattle.std.proofs.lemmas.Str.{digit_value_digit}
use Rattle.cal_time.specs.DateText.{digits_at_least}
use Rattle.cal_time.proofs.DistinctTexts.{digits_at_least-digits, digits_at_least-value}
use Rattle.cal_text.specs.declared.date_numbers.DateNumbers.{DateNumbers}
use Rattle.cal_text.specs.declared.date_numbers.DateNumbers.TheVariants.{Calendar, Ordinal, Week}
use Rattle.cal_text.specs.DateForms.{year_text, month_and_day_text, form_year, form_rest, form_text, IsPrintableYear, DigitsFit, HasForm}
use Rattle.cal_text.specs.Shape.{GoesPast, ParsesDigits}
use Rattle.cal_text.proofs.DigitTexts.{digits-printed, digits_at_least-length}
use Rattle.cal_text.proofs.NumberTexts.{one_digit}
use Rattle.cal_text.proofs.ReadDigits.{printed, one_more}

-- numbers, one after the other, as one number
pub three_digits-split : (m d : ℕ) → m < 100 → d < 10 → digits_at_least 3 (m * 10 + d) ≡ digits_at_least 2 m ++ digits_at_least 1 d
three_digits-split m d few low =
    let front = digits_at_least-value 2 m (omega arith) in
    let value : digits_value 10 (digits_at_least 2 m ++ (48 + d) ∷ []) ≡ m * 10 + d =
    digits_value_push 10 (digits_at_least 2 m) (48 + d) ∙ omega (arith, front, digit_value_digit (48 + d) (omega arith, omega arith)) in
    let size : length (digits_at_least 2 m ++ (48 + d) ∷ []) ≡ 3 =
    length-append (digits_at_least 2 m) ((48 + d) ∷ []) ∙ ap (λ k. k + 1) (digits_at_least-length 2 m (lit< tt) few (omega arith)) in
    let all = digits_push 10 (digits_at_least 2 m) (48 + d) (digits_at_least-digits 2 m (omega arith)) (omega (arith, digit_value_digit (48 + d) (omega arith, omega arith))) in
    let printed : digits_at_least (length (digits_at_least 2 m ++ (48 + d) ∷ [])) (digits_value 10 (digits_at_least 2 m ++ (48 + d) ∷ [])) ≡ digits_at_least 2 m ++ (48 + d) ∷ [] =
    digits-printed _ all (omega (arith, size)) (omega (arith, size)) in
    ap (λ n. digits_at_least 3 n) (sym value) ∙ ap (λ k. digits_at_least k (digits_value 10 (digits_at_least 2 m ++ (48 + d) ∷ []))) (sym size) ∙ printed
    ∙ ap (λ ds. digits_at_least 2 m ++ ds) (one_digit d low)

-- two numbers with a hyphen between them, and the rest
pub pair : (front back old rest new : List ℕ) → old ≡ front ++ rest → rest ≡ 45 ∷ (back ++ new) → old ≡ ((front ++ 45 ∷ []) ++ back) ++ new
pair front back old rest new e f =
    e ∙ ap (λ r. front ++ r) f ∙ sym (append_assoc front (45 ∷ []) (back ++ new)) ∙ sym (append_assoc (front ++ 45 ∷ []) back new)

pub put_week : (y : ℤ) (w b : ℕ) (old a c new : List ℕ) → IsPrintableYear y → ParsesDigits old a 2 w → a ≡ 45 ∷ c → (49 ≤ b) × (b ≤ 55) × (c ≡ b ∷ new)
    → DigitsFit (Week y w (b - 48)) × (87 ∷ old ≡ form_rest (Week y w (b - 48)) ++ new)
put_week y w b old a c new written h hyphen weekday =
    let two = printed old a 2 w (lit≤ tt) (lit≤ tt) h in
    let same : b ≡ 48 + (b - 48) = omega (arith, weekday.0) in
    let last : c ≡ digits_at_least 1 (b - 48) ++ new =
    weekday.2 ∙ ap (λ x. x ∷ new) same ∙ ap (λ ds. ds ++ new) (one_digit (b - 48) (omega (arith, weekday.1))) in (
      (written, omega (arith, two.0), omega (arith, weekday.0), omega (arith, weekday.1)),
      ap (λ r. 87 ∷ r) (pair (digits_at_least 2 w) (digits_at_least 1 (b - 48)) old a new two.1 (hyphen ∙ ap (λ r. 45 ∷ r) last)),
    )

pub put_calendar : (y : ℤ) (m d : ℕ) (old a c new : List ℕ) → IsPrintableYear y → ParsesDigits old a 2 m → a ≡ 45 ∷ c → ParsesDigits c new 2 d
    → DigitsFit (Calendar y m d) × (old ≡ form_rest (Calendar y m d) ++ new)
put_calendar y m d old a c new written h hyphen k =
    let first = printed old a 2 m (lit≤ tt) (lit≤ tt) h in
    let second = printed c new 2 d (lit≤ tt) (lit≤ tt) k in (
      (written, omega (arith, first.0), omega (arith, second.0)),
      pair (digits_at_least 2 m) (digits_at_least 2 d) old a new first.1 (hyphen ∙ ap (λ r. 45 ∷ r) second.1),
    )

pub month_and_day : (m d : ℕ) (new : List ℕ) → digits_at_least 2 m ++ 45 ∷ (digits_at_least 2 d ++ new) ≡ month_and_day_text m d ++ new
month_and_day m d new = pair (digits_at_least 2 m) (digits_at_least 2 d) _ _ new refl refl

pub put_ordinal : (y : ℤ) (m d : ℕ) (old a new : List ℕ) → IsPrintableYear y → ParsesDigits old a 2 m → (d < 10) × (a ≡ (48 + d) ∷ new)
    → DigitsFit (Ordinal y (m * 10 + d)) × (old ≡ form_rest (Ordinal y (m * 10 + d)) ++ new)
put_ordinal y m d old a new written h last =
    let three = printed old new 3 (m * 10 + d) (lit≤ tt) (lit≤ tt) (one_more m d 2 old a new h last.0 last.1) in
    ((written, omega (arith, three.0)), three.1)

pub put_form : (y : ℤ) (f : DateNumbers) (old mid new : List ℕ) → old ≡ year_text y ++ 45 ∷ mid → DigitsFit f → form_year f ≡ y → mid ≡ form_rest f ++ new
    → GoesPast (λ bytes. HasForm bytes f) old new
put_form y f old mid new e is same rest = record {
  front = form_text f;
  is = record { form = is; bytes_are = refl };
  bytes_are = e ∙ ap (λ r. year_text y ++ 45 ∷ r) rest ∙ sym (append_assoc (year_text y) (45 ∷ []) (form_rest f ++ new))
      ∙ sym (append_assoc (year_text y ++ 45 ∷ []) (form_rest f) new) ∙ ap (λ z. ((year_text z ++ 45 ∷ []) ++ form_rest f) ++ new) (sym same);
}
