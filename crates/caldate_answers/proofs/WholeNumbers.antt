-- The shape of whole numbers of at most 27 digits.
use Rattle.std.proofs.Common.{◌≡◌, ◌⊎◌, inl, inr, ℕ, zero, suc, ◌+◌, ◌-◌, ◌*◌, ◌/◌, ◌%◌, ◌^◌, ◌<◌, ◌≤◌, ℤ, pos, negsuc, neg_ℤ, List, [], ◌∷◌, ◌++◌, append-nil, append_assoc, length, get_or, refl, sym, ap, subst, ◌∙◌, arith, lit<}
use Rattle.std.specs.Prelude.{decimal}
use Rattle.std.specs.Char.{digit_value}
use Rattle.std.specs.Str.Parse.{AllDigits, digits_value, digits_value_after}
use Rattle.std.proofs.Math.Nat.{mul-le-mul_left, pow-le-pow_right}
use Rattle.std.proofs.lemmas.Fmt.{decimal_by_steps_wide, decimal_digit, decimal_is_IsNumeral_wide, decimal_step_wide, length-decimal-le_wide}
use Rattle.std.proofs.lemmas.Int.Digits.{digits_value-lt}
use Rattle.cal_text.specs.Shape.{Number, ParsesMoreDigits, unmatched_bytes}
use Rattle.cal_text.proofs.DigitForms.{IsRun, run}
use Rattle.cal_text.proofs.DigitParts.{IsCount, digit_is, has_value, is_digit, value-most}
use Rattle.cal_text.proofs.Forms.{IsForm, IsNothing, IsByteFrom, IsLed, IsThen, IsEither, avoids, nothing, byte_from, led, both, either, retold, whole, put}
use Rattle.cal_text.proofs.NumberShapes.{zero_text}
use Rattle.cal_text.proofs.Parts.{at_end}
use Rattle.cal_text.proofs.Positions.{IsShapeOf, Stopped, stopped}
use Rattle.cal_text.proofs.ReadDigits.{room, small, value-of}
use Rattle.cal_text.proofs.Stops.{IsIn}
use Rattle.caldate_answers.specs.Readings.{IsNumber, number_shape}

-- ---- digits of which the first is not 0 are a number
printable : (v : ℕ) (ds : List ℕ) → 0 < v → AllDigits 10 ds → (v + 1) * 10 ^ length ds ≤ 10 ^ 64 → decimal (digits_value_after 10 v ds) ≡ decimal v ++ ds
printable v [] some all fits = sym (append-nil (decimal v))
printable v (x ∷ xs) some all fits =
    let value = has_value x (is_digit x all.0) in
    let one : suc (length xs) - 1 ≡ length xs = omega arith in
    let next : (v * 10 + digit_value x + 1) * 10 ^ length xs ≤ 10 ^ 64 =
    subst (λ k. (v * 10 + digit_value x + 1) * 10 ^ k ≤ 10 ^ 64) one (room (10 ^ 64) v (suc (length xs)) (digit_value x) (λ e. omega (arith, e)) all.0 fits) in
    let low : v * 10 + digit_value x < 10 ^ 64 = small (10 ^ 64) (v * 10 + digit_value x) (length xs) next in
    let step = decimal_step_wide (v * 10 + digit_value x) (omega (arith, some)) low in
    let front : (v * 10 + digit_value x) / 10 ≡ v = omega (arith, all.0) in
    let last : 48 + (v * 10 + digit_value x) % 10 ≡ x = omega (arith, all.0, value) in
    printable (v * 10 + digit_value x) xs (omega (arith, some)) all.1 next ∙ ap (λ ds. ds ++ xs) (step ∙ ap (λ n. decimal n ++ (48 + (v * 10 + digit_value x) % 10) ∷ []) front ∙ ap (λ b. decimal v ++ b ∷ []) last)
    ∙ append_assoc (decimal v) (x ∷ []) xs

-- A number above 0.
abbrev IsAbove : List ℕ → ℕ → Type 0
IsAbove bytes n = (0 < n) × IsNumber bytes (pos n)

spells : (b : ℕ) (ds : List ℕ) → IsIn 49 8 b → IsCount 0 26 ds → IsAbove (b ∷ ds) (digits_value 10 (b ∷ ds))
spells b ds low h =
    let here : IsIn 48 9 b = (omega (arith, low.0), omega (arith, low.1)) in
    let digit : digit_value b + 48 ≡ b = has_value b here in
    let v = 0 * 10 + digit_value b in
    let all : AllDigits 10 (b ∷ ds) = (digit_is b here, h.0) in
    let power : 10 ^ length ds ≤ 10 ^ 26 = pow-le-pow_right (lit< tt) h.2 in
    let bound : (v + 1) * 10 ^ length ds ≤ (v + 1) * 10 ^ 26 = mul-le-mul_left (v + 1) power in
    let longer : suc (length ds) ≤ 27 = omega (arith, h.2) in
    let more : 10 ^ suc (length ds) ≤ 10 ^ 27 = pow-le-pow_right (lit< tt) longer in
    let less : digits_value 10 (b ∷ ds) < 10 ^ suc (length ds) = digits_value-lt 10 (b ∷ ds) all in
    let most : v ≤ digits_value 10 (b ∷ ds) = value-most v ds in
    let front : decimal v ≡ b ∷ [] = decimal_digit v (omega (arith, digit, low.1)) ∙ ap (λ x. x ∷ []) (omega (arith, digit)) in
    let text : decimal (digits_value 10 (b ∷ ds)) ≡ b ∷ ds =
    printable v ds (omega (arith, digit, low.0)) h.0 (omega (arith, bound, digit, low.1)) ∙ ap (λ all. all ++ ds) front in
    (omega (arith, most, digit, low.0), record { few = omega (arith, less, more); bytes_are = sym text })

-- ---- and the text of a number is such digits
abbrev Leads : ℕ → List ℕ → Type 0
Leads n ds = (0 < length ds) × (0 < n → 48 < get_or ds 0 0)

led_more : (n : ℕ) (ds : List ℕ) (d : ℕ) → 10 ≤ n → Leads (n / 10) ds → Leads n (ds ++ d ∷ [])
led_more n [] d many h = absurd (omega (arith, h.0))
led_more n (x ∷ xs) d many h = (omega arith, λ some. h.1 (omega (arith, many)))

first_is : (x : ℕ) (xs : List ℕ) (n : ℕ) → IsAbove (x ∷ xs) n → 48 < x
first_is x xs n h =
    let led = decimal_by_steps_wide Leads (λ n low. (omega arith, λ some. omega (arith, some))) (λ n ds many h. led_more n ds (48 + n % 10) many h) n (omega (arith, h.1.few)) in
    omega (arith, led.1 h.0, ap (λ all. get_or all 0 0) h.1.bytes_are)

above : IsForm (Number 26) IsAbove (avoids 48 9)
above = retold IsAbove (both (byte_from 49 8) (run 0 26 (λ ds. ds))) (λ v. digits_value 10 (v.0 ∷ v.1))
    (λ bytes v h.
    let is = spells v.0 v.1 h.first.0 (subst (IsCount 0 26) (sym h.second.1) h.second.0) in
    (is.0, record { few = is.1.few; bytes_are = put h.bytes_are h.first.1 (sym h.second.1) ∙ is.1.bytes_are }))
    here
  where
    IsRaw : List ℕ → ℕ × List ℕ → Type 0
    IsRaw = IsThen (IsByteFrom 49 8) (IsRun 0 26 (λ ds. ds))

    here : (bytes : List ℕ) (n : ℕ) → IsAbove bytes n → (v : ℕ × List ℕ) × IsRaw bytes v × (digits_value 10 (v.0 ∷ v.1) ≡ n)
    here [] n h = let numeral = decimal_is_IsNumeral_wide n (omega (arith, h.1.few)) in absurd (omega (arith, numeral.0.0, ap length h.1.bytes_are))
    here (x ∷ xs) n h =
        let numeral = decimal_is_IsNumeral_wide n (omega (arith, h.1.few)) in
        let led = first_is x xs n h in
        let all : AllDigits 10 (x ∷ xs) = subst (AllDigits 10) (sym h.1.bytes_are) numeral.0.1 in
        let short = length-decimal-le_wide 27 n (omega arith) h.1.few (omega (arith, h.1.few)) in (
          (x, xs),
          record {
            front = x ∷ [];
            back = xs;
            first = ((omega (arith, led), omega (arith, (is_digit x all.0).1)), refl);
            second = ((all.1, omega arith, omega (arith, short, ap length h.1.bytes_are)), refl);
            bytes_are = refl;
          },
          ap (digits_value 10) h.1.bytes_are ∙ numeral.1,
        )

-- ---- a number from 0 on, and any number
negative : (bytes rest : List ℕ) (n : ℕ) → bytes ≡ 45 ∷ rest → IsAbove rest n → IsNumber bytes (neg_ℤ (pos n))
negative bytes rest zero e h = absurd (omega (arith, h.0))
negative bytes rest (suc k) e h = record { few = h.1.few; bytes_are = e ∙ ap (λ r. 45 ∷ r) h.1.bytes_are }

pub none : (bytes rest : List ℕ) → bytes ≡ 48 ∷ rest → rest ≡ [] → IsNumber bytes (pos 0)
none bytes rest e end = record { few = lit< tt; bytes_are = e ∙ ap (λ r. 48 ∷ r) end ∙ sym zero_text }

pub whole_shape : IsShapeOf IsNumber number_shape
whole_shape = whole (retold IsNumber (either 45 0 (led 45 above) (either 48 0 (led 48 nothing) above)) into there here) refl
  where
    Raw : Type 0
    Raw = ℕ ⊎ Unit {0} ⊎ ℕ

    IsRaw : List ℕ → Raw → Type 0
    IsRaw = IsEither (IsLed 45 IsAbove) (IsEither (IsLed 48 IsNothing) IsAbove)

    into : Raw → ℤ
    into (inl n) = neg_ℤ (pos n)
    into (inr (inl u)) = pos 0
    into (inr (inr n)) = pos n

    there : (bytes : List ℕ) (v : Raw) → IsRaw bytes v → IsNumber bytes (into v)
    there bytes (inl n) h = negative bytes h.0 n h.2 h.1
    there bytes (inr (inl u)) h = none bytes h.0 h.2 h.1
    there bytes (inr (inr n)) h = h.1

    here : (bytes : List ℕ) (z : ℤ) → IsNumber bytes z → (v : Raw) × IsRaw bytes v × (into v ≡ z)
    here bytes (negsuc k) n = (inl (suc k), (decimal (suc k), (omega arith, record { few = n.few; bytes_are = refl }), n.bytes_are), refl)
    here bytes (pos zero) n = (inr (inl tt), ([], refl, n.bytes_are ∙ zero_text), refl)
    here bytes (pos (suc k)) n = (inr (inr (suc k)), (omega arith, n), refl)

-- ---- what a scanner read
pub put_number : (d n : ℕ) (old mid new : List ℕ) → (1 ≤ d) × (d < 10) × (old ≡ (48 + d) ∷ mid) → ParsesMoreDigits mid new 26 d n → new ≡ [] → IsAbove old n
put_number d n old mid new digit h end =
    let is = spells (48 + d) h.digits (omega (arith, digit.0), omega (arith, digit.1)) (h.all, omega arith, h.few) in
    let value : digits_value 10 ((48 + d) ∷ h.digits) ≡ n = ap (λ v. digits_value_after 10 v h.digits) (omega (arith, value-of d digit.1)) ∙ h.value in
    let text : old ≡ (48 + d) ∷ h.digits = digit.2 ∙ ap (λ r. (48 + d) ∷ r) (at_end mid h.digits new h.bytes_are end) in
    subst (IsAbove old) value (is.0, record { few = is.1.few; bytes_are = text ∙ is.1.bytes_are })

pub number_stop : (text rest : List ℕ) → unmatched_bytes number_shape text ≡ suc (length rest) → Stopped IsNumber text rest
number_stop text rest scans = stopped IsNumber number_shape whole_shape text rest scans
