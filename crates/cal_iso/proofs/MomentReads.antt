-- What the scanners of times of day, offsets and date-times went past.
use Rattle.std.proofs.Common.{◌≡◌, ℕ, ◌+◌, ◌<◌, ◌⊎◌, inl, inr, Bool, false, List, [], ◌∷◌, ◌++◌, Option, Some, None, refl, sym, ap, subst, ◌∙◌, arith}
use Rattle.std.specs.Prelude.{IfSome}
use Rattle.std.proofs.lemmas.List.{append_assoc}
use Rattle.cal_text.specs.declared.date_numbers.DateNumbers.{DateNumbers}
use Rattle.cal_text.specs.declared.plain.numbers.PlainNumbers.{PlainNumbers}
use Rattle.cal_text.specs.declared.time.numbers.TimeNumbers.{TimeNumbers}
use Rattle.cal_text.specs.DateForms.{DigitsFit}
use Rattle.cal_text.specs.Rfc3339Form.{IsSeparator, sign_byte}
use Rattle.cal_text.specs.Shape.{End, GoesPast, ParsesDigits, Shape, unmatched_bytes}
use Rattle.cal_text.proofs.Decimals.{fraction-below}
use Rattle.cal_text.proofs.Parts.{at_end}
use Rattle.cal_iso.specs.ClockForm.{HasTail, IsAfterHour, IsIsoFraction, IsSecondsOrNone}
use Rattle.cal_iso.specs.DateForm.{HasIsoDate}
use Rattle.cal_iso.specs.IsoShape.{ScansWholeLong, any_length}
use Rattle.cal_iso.specs.MomentForm.{HasIsoDateTime, HasIsoPlain, IsTimeOrMidnight}
use Rattle.cal_iso.specs.OffsetForm.{IsShift}
use Rattle.cal_iso.specs.TimeForm.{HasIsoClock, HasIsoTime}
use Rattle.cal_iso.proofs.ClockShapes.{no_tail}
use Rattle.cal_iso.proofs.DateReads.{fits, number}

-- ---- to the end of a text
pub to_end : {V : Type 0} (part part' : ℕ → Shape → Shape) (r : Option V) (old mid new : List ℕ)
    → ((k : ℕ) → unmatched_bytes (part (k + any_length) End) old ≡ unmatched_bytes (part' (k + any_length) End) mid) → ScansWholeLong part' mid new r → ScansWholeLong part old new r
to_end part part' (Some v) old mid new e h = λ k. e k ∙ h k
to_end part part' None old mid new e h = λ k. e k ∙ h k

-- ---- times of day
pub put_clock : (h m s n : ℕ) (old mid new : List ℕ) → ParsesDigits old mid 2 h → GoesPast (λ bytes. IsAfterHour IsIsoFraction bytes m s n) mid new
    → GoesPast (λ bytes. HasIsoClock bytes (record { hour = h; minute = m; second = s; nanosecond = n })) old new
put_clock h m s n old mid new hour rest = record {
  front = hour.digits ++ rest.front;
  is = record { hour = hour.digits; rest = rest.front; is_hour = number 2 h old mid hour; is_rest = rest.is; bytes_are = refl };
  bytes_are = hour.bytes_are ∙ ap (λ r. hour.digits ++ r) rest.bytes_are ∙ sym (append_assoc hour.digits rest.front new);
}

pub put_whole : {V : Type 0} (Has : List ℕ → V → Type 0) (v : V) (old new : List ℕ) → GoesPast (λ bytes. Has bytes v) old new → new ≡ [] → Has old v
put_whole Has v old new h end = subst (λ all. Has all v) (sym (at_end old h.front new h.bytes_are end)) h.is

pub after_letter : (letter : ℕ) (r : Option TimeNumbers) (old mid : List ℕ) → (letter ≡ 84) ⊎ (letter ≡ 116) → old ≡ letter ∷ mid → IfSome r (HasIsoClock mid) → IfSome r (HasIsoTime old)
after_letter letter None old mid is byte h = tt
after_letter letter (Some t) old mid (inl is) byte h = inr (mid, h, inl (byte ∙ ap (λ l. l ∷ mid) is))
after_letter letter (Some t) old mid (inr is) byte h = inr (mid, h, inr (byte ∙ ap (λ l. l ∷ mid) is))

pub without_letter : (r : Option TimeNumbers) (old mid : List ℕ) → mid ≡ old → IfSome r (HasIsoClock mid) → IfSome r (HasIsoTime old)
without_letter None old mid kept h = tt
without_letter (Some t) old mid kept h = inl (subst (λ all. HasIsoClock all t) kept h)

seconds_below : (mark bytes : List ℕ) (s n : ℕ) → IsSecondsOrNone IsIsoFraction mark bytes s n → n < 1000000000
seconds_below mark bytes s n (inl none) = omega (arith, none.2)
seconds_below mark bytes s n (inr h) = elim h.is_tail as (λ _. n < 1000000000) [
  | inl none ↦ omega (arith, none.1)
  | inr is ↦ fraction-below (46 ∷ is.0) n (inr (is.0, record { some = is.1.some; all = is.1.all; bytes_are = refl; value = is.1.value }))
]

pub clock_below : (bytes : List ℕ) (t : TimeNumbers) → HasIsoClock bytes t → t.nanosecond < 1000000000
clock_below bytes t h = elim h.is_rest as (λ _. t.nanosecond < 1000000000) [
  | inl none ↦ omega (arith, none.3)
  | inr (inl m) ↦ seconds_below (58 ∷ []) m.rest t.second t.nanosecond m.is_rest
  | inr (inr m) ↦ seconds_below [] m.rest t.second t.nanosecond m.is_rest
]

pub time_below : (bytes : List ℕ) (t : TimeNumbers) → HasIsoTime bytes t → t.nanosecond < 1000000000
time_below bytes t (inl h) = clock_below bytes t h
time_below bytes t (inr h) = clock_below h.0 t h.1

-- ---- offsets
pub put_shift : (b : Bool) (h m s n : ℕ) (old hours mid new : List ℕ) → old ≡ sign_byte b ∷ hours → ParsesDigits hours mid 2 h → GoesPast (λ bytes. IsAfterHour (HasTail false) bytes m s n) mid new → new ≡ []
    → IsShift old (record { is_negative = b; hours = h; minutes = m; seconds = s })
put_shift b h m s n old hours mid new sign digits rest end = record {
  hours = digits.digits;
  rest = rest.front;
  is_hours = number 2 h hours mid digits;
  is_rest = subst (λ k. IsAfterHour (HasTail false) rest.front m s k) (no_tail rest.front m s n rest.is) rest.is;
  bytes_are = sign ∙ ap (λ r. sign_byte b ∷ r) (digits.bytes_are ∙ ap (λ r. digits.digits ++ r) (at_end mid rest.front new rest.bytes_are end));
}

-- ---- date-times
pub put_date_time : (f : DateNumbers) (t : TimeNumbers) (s : ℕ) (old mid rest new : List ℕ) → GoesPast (λ bytes. HasIsoDate bytes f) old mid → IsSeparator s → mid ≡ s ∷ rest
    → GoesPast (λ bytes. HasIsoClock bytes t) rest new → GoesPast (λ bytes. HasIsoDateTime bytes (record { date = f; time = t })) old new
put_date_time f t s old mid rest new date separator byte time = record {
  front = date.front ++ s ∷ time.front;
  is = record {
    date = date.front;
    separator = s;
    time = time.front;
    has_date = date.is;
    is_separator = separator;
    has_time = time.is;
    bytes_are = refl;
  };
  bytes_are = date.bytes_are ∙ ap (λ r. date.front ++ r) (byte ∙ ap (λ r. s ∷ r) time.bytes_are) ∙ sym (append_assoc date.front (s ∷ time.front) new);
}

pub time_after : (s : ℕ) (r : Option TimeNumbers) (old start mid : List ℕ) → start ≡ old → IsSeparator s → start ≡ s ∷ mid → IfSome r (HasIsoClock mid) → IfSome r (IsTimeOrMidnight old)
time_after s None old start mid kept is byte h = tt
time_after s (Some t) old start mid kept is byte h = inr (s, mid, is, h, sym kept ∙ byte)

pub put_plain : (f : DateNumbers) (t : TimeNumbers) (old mid : List ℕ) → GoesPast (λ bytes. HasIsoDate bytes f) old mid → IsTimeOrMidnight mid t → HasIsoPlain old (record { date = f; time = t })
put_plain f t old mid date (inl none) = inr (subst (λ all. HasIsoDate all f) (sym (at_end old date.front mid date.bytes_are none.0)) date.is, none.1)
put_plain f t old mid date (inr (s, rest, is, time, e)) = inl (record {
  date = date.front;
  separator = s;
  time = rest;
  has_date = date.is;
  is_separator = is;
  has_time = time;
  bytes_are = date.bytes_are ∙ ap (λ r. date.front ++ r) e;
})

pub plain_below : (bytes : List ℕ) (p : PlainNumbers) → HasIsoPlain bytes p → p.time.nanosecond < 1000000000
plain_below bytes p (inl h) = clock_below h.time p.time h.has_time
plain_below bytes p (inr h) = omega (arith, ap (λ (t : TimeNumbers). t.nanosecond) h.1)

pub plain_fits : (bytes : List ℕ) (p : PlainNumbers) → HasIsoPlain bytes p → DigitsFit p.date
plain_fits bytes p (inl h) = fits h.date p.date h.has_date
plain_fits bytes p (inr h) = fits bytes p.date h.0
