-- The shapes of an offset from UTC, and what a scanner read of one.
use Rattle.std.proofs.Common.{Bool, true, false, ◌≡◌, ℕ, ◌⊎◌, inl, inr, ◌&&◌, List, [], ◌∷◌, ◌++◌, refl, sym, ap, ◌∙◌, lit≤}
use Rattle.cal_time.specs.DateText.{digits_at_least}
use Rattle.cal_text.specs.declared.offset.numbers.OffsetNumbers.{OffsetNumbers}
use Rattle.cal_text.specs.OffsetForm.{utc, IsAfterMinutes, HasSignedForm, HasOffsetForm}
use Rattle.cal_text.specs.Rfc3339Form.{sign_byte}
use Rattle.cal_text.specs.Shape.{Shape, Branch, Byte, Digits, Sign, offset, ParsesDigits}
use Rattle.cal_text.proofs.DigitForms.{IsNumber, two}
use Rattle.cal_text.proofs.Forms.{IsForm, IsNothing, IsLed, IsThen, IsEither, always, avoids, nothing, led, both, either, retold, whole, put}
use Rattle.cal_text.proofs.Parts.{at_end}
use Rattle.cal_text.proofs.Positions.{IsShapeOf}
use Rattle.cal_text.proofs.ReadDigits.{printed}

-- ---- a sign
abbrev pub IsSign : List ℕ → Bool → Type 0
IsSign bytes b = bytes ≡ sign_byte b ∷ []

pub sign : IsForm Sign IsSign always
sign = retold IsSign (either 43 0 (led 43 nothing) (led 45 nothing)) into there here
  where
    into : Unit {0} ⊎ Unit {0} → Bool
    into (inl u) = false
    into (inr u) = true

    there : (bytes : List ℕ) (v : Unit {0} ⊎ Unit {0}) → IsEither (IsLed 43 IsNothing) (IsLed 45 IsNothing) bytes v → IsSign bytes (into v)
    there bytes (inl u) h = h.2 ∙ ap (λ r. 43 ∷ r) h.1
    there bytes (inr u) h = h.2 ∙ ap (λ r. 45 ∷ r) h.1

    here : (bytes : List ℕ) (b : Bool) → IsSign bytes b → (v : Unit {0} ⊎ Unit {0}) × IsEither (IsLed 43 IsNothing) (IsLed 45 IsNothing) bytes v × (into v ≡ b)
    here bytes false h = (inl tt, ([], refl, h), refl)
    here bytes true h = (inr tt, ([], refl, h), refl)

-- ---- Z or z, or a sign and numbers
abbrev pub Zoned : (Shape → Shape) → Shape → Shape
Zoned part f = Branch 90 0 f (Branch 122 0 f (Sign (part f)))

abbrev pub IsZoned : {V : Type 0} → (List ℕ → V → Type 0) → List ℕ → Unit {0} ⊎ Unit {0} ⊎ (Bool × V) → Type 0
IsZoned Has = IsEither (IsLed 90 IsNothing) (IsEither (IsLed 122 IsNothing) (IsThen IsSign Has))

pub zoned : {V : Type 0} {part : Shape → Shape} {Has : List ℕ → V → Type 0} {follows : Shape → Bool} → IsForm part Has follows → IsForm (Zoned part) (IsZoned Has) (λ f. (follows f && true) && true)
zoned p = either 90 0 (led 90 nothing) (either 122 0 (led 122 nothing) (both sign p))

-- ---- the numbers
abbrev AfterMinutes : Shape → Shape
AfterMinutes f = Branch 58 0 (Digits 2 f) f

after_minutes : IsForm AfterMinutes IsAfterMinutes (avoids 58 0)
after_minutes = retold IsAfterMinutes (either 58 0 (led 58 two) nothing) into there here
  where
    into : ℕ ⊎ Unit {0} → ℕ
    into (inl s) = s
    into (inr u) = 0

    there : (bytes : List ℕ) (v : ℕ ⊎ Unit {0}) → IsEither (IsLed 58 (IsNumber 2)) IsNothing bytes v → IsAfterMinutes bytes (into v)
    there bytes (inl s) h = inr (h.1.0, h.2 ∙ ap (λ r. 58 ∷ r) h.1.1)
    there bytes (inr u) h = inl (h, refl)

    here : (bytes : List ℕ) (s : ℕ) → IsAfterMinutes bytes s → (v : ℕ ⊎ Unit {0}) × IsEither (IsLed 58 (IsNumber 2)) IsNothing bytes v × (into v ≡ s)
    here bytes s (inl none) = (inr tt, none.0, sym none.1)
    here bytes s (inr is) = (inl s, (digits_at_least 2 s, (is.0, refl), is.1), refl)

abbrev Numbers : Type 0
Numbers = ℕ × (ℕ × ℕ)

abbrev HasNumbers : List ℕ → Numbers → Type 0
HasNumbers = IsThen (IsNumber 2) (IsLed 58 (IsThen (IsNumber 2) IsAfterMinutes))

pub offset_form : IsForm (Zoned (λ f. Digits 2 (Byte 58 (Digits 2 (AfterMinutes f))))) HasOffsetForm (λ f. (avoids 58 0 f && true) && true)
offset_form = retold HasOffsetForm (zoned (both two (led 58 (both two after_minutes)))) into there here
  where
    Raw : Type 0
    Raw = Unit {0} ⊎ Unit {0} ⊎ (Bool × Numbers)

    into : Raw → OffsetNumbers
    into (inl u) = utc
    into (inr (inl u)) = utc
    into (inr (inr v)) = record { is_negative = v.0; hours = v.1.0; minutes = v.1.1.0; seconds = v.1.1.1 }

    there : (bytes : List ℕ) (v : Raw) → IsZoned HasNumbers bytes v → HasOffsetForm bytes (into v)
    there bytes (inl u) h = inl (refl, inl (h.2 ∙ ap (λ r. 90 ∷ r) h.1))
    there bytes (inr (inl u)) h = inl (refl, inr (h.2 ∙ ap (λ r. 122 ∷ r) h.1))
    there bytes (inr (inr v)) h =
        let hours = h.second in
        let minutes = hours.second.1 in
        inr (record {
          hours = hours.first.0;
          minutes = minutes.first.0;
          rest = minutes.back;
          is_rest = minutes.second;
          bytes_are = put h.bytes_are h.first (put hours.bytes_are hours.first.1 (hours.second.2 ∙ ap (λ r. 58 ∷ r) (put minutes.bytes_are minutes.first.1 refl)));
        })

    Found : List ℕ → OffsetNumbers → Type 0
    Found bytes o = (v : Raw) × IsZoned HasNumbers bytes v × (into v ≡ o)

    here : (bytes : List ℕ) (o : OffsetNumbers) → HasOffsetForm bytes o → Found bytes o
    here bytes o (inl zone) = elim zone.1 as (λ _. Found bytes o) [ inl upper ↦ (inl tt, ([], refl, upper), sym zone.0) | inr lower ↦ (inr (inl tt), ([], refl, lower), sym zone.0) ]
    here bytes o (inr h) =
        let two = digits_at_least 2 o.minutes in
        let numbers : HasNumbers (digits_at_least 2 o.hours ++ 58 ∷ (two ++ h.rest)) (o.hours, (o.minutes, o.seconds)) = record {
          front = digits_at_least 2 o.hours;
          back = 58 ∷ (two ++ h.rest);
          first = (h.hours, refl);
          second = (two ++ h.rest, record { front = two; back = h.rest; first = (h.minutes, refl); second = h.is_rest; bytes_are = refl }, refl);
          bytes_are = refl;
        } in
        (inr (inr (o.is_negative, (o.hours, (o.minutes, o.seconds)))), record { front = sign_byte o.is_negative ∷ []; back = _; first = refl; second = numbers; bytes_are = h.bytes_are }, refl)

pub offset_shape : IsShapeOf HasOffsetForm offset
offset_shape = whole offset_form refl

-- ---- what a scanner read
pub put_seconds : (s : ℕ) (old mid new : List ℕ) → old ≡ 58 ∷ mid → ParsesDigits mid new 2 s → new ≡ [] → IsAfterMinutes old s
put_seconds s old mid new colon digits end =
    let x = printed mid new 2 s (lit≤ tt) (lit≤ tt) digits in
    inr (x.0, colon ∙ ap (λ r. 58 ∷ r) (at_end mid (digits_at_least 2 s) new x.1 end))

pub put_signed : (b : Bool) (h m s : ℕ) (old hours mid minutes rest : List ℕ) → old ≡ sign_byte b ∷ hours → ParsesDigits hours mid 2 h → mid ≡ 58 ∷ minutes
    → ParsesDigits minutes rest 2 m → IsAfterMinutes rest s → HasSignedForm old (record { is_negative = b; hours = h; minutes = m; seconds = s })
put_signed b h m s old hours mid minutes rest sign first colon second others =
    let x = printed hours mid 2 h (lit≤ tt) (lit≤ tt) first in
    let y = printed minutes rest 2 m (lit≤ tt) (lit≤ tt) second in
    record {
      hours = x.0;
      minutes = y.0;
      rest = rest;
      is_rest = others;
      bytes_are = sign ∙ ap (λ r. sign_byte b ∷ r) (x.1 ∙ ap (λ r. digits_at_least 2 h ++ r) (colon ∙ ap (λ r. 58 ∷ r) y.1));
    }
