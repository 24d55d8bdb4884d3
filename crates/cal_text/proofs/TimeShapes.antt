-- The shape of a time of day, and what a scanner read of one.
use Rattle.std.proofs.Common.{◌≡◌, ℕ, ◌+◌, ◌*◌, ◌<◌, ◌≤◌, ◌⊎◌, inl, inr, Bool, ◌&&◌, List, [], ◌∷◌, ◌++◌, refl, sym, ap, ◌∙◌, arith, lit≤}
use Rattle.std.proofs.lemmas.List.{append_assoc}
use Rattle.std.specs.Str.Parse.{digits_value}
use Rattle.cal_time.specs.DateText.{digits_at_least}
use Rattle.cal_text.specs.declared.time.numbers.TimeNumbers.{TimeNumbers}
use Rattle.cal_text.specs.Rfc3339Form.{HasFractionBefore}
use Rattle.cal_text.specs.TimeForm.{IsHour, IsAfterMinute, HasTimeForm}
use Rattle.cal_text.specs.Shape.{Shape, Hour, AfterMinute, Time, time, GoesPast, ParsesDigits}
use Rattle.cal_text.proofs.Decimals.{fraction-below}
use Rattle.cal_text.proofs.DigitForms.{IsNumber, two, run}
use Rattle.cal_text.proofs.Forms.{IsForm, IsNothing, IsLed, IsThen, IsEither, avoids, nothing, led, both, either, retold, whole, put}
use Rattle.cal_text.proofs.Parts.{same_pair}
use Rattle.cal_text.proofs.Positions.{IsShapeOf}
use Rattle.cal_text.proofs.ReadDigits.{one_digit, one_more, printed}
use Rattle.cal_text.proofs.UnixShapes.{IsFractionUpTo, ends_fraction, fraction}

hour : IsForm Hour IsHour (avoids 48 9)
hour =
    retold IsHour (run 1 1 (digits_value 10)) (λ n. n) (λ bytes n h. record { all = h.0.0; some = h.0.1; few = h.0.2; value = h.1 })
    (λ bytes n h. (n, ((h.all, h.some, h.few), h.value), refl))

-- ---- the bytes after the minute
abbrev IsAfter : List ℕ → ℕ × ℕ → Type 0
IsAfter bytes v = IsAfterMinute bytes v.0 v.1

-- What follows begins with no point, digit or colon.
abbrev pub ends_time : Shape → Bool
ends_time f = ends_fraction f && avoids 58 0 f

after_minute : IsForm AfterMinute IsAfter ends_time
after_minute = retold IsAfter (either 58 0 (led 58 (both two (fraction 8))) nothing) into there here
  where
    Raw : Type 0
    Raw = (ℕ × ℕ) ⊎ Unit {0}

    IsRaw : List ℕ → Raw → Type 0
    IsRaw = IsEither (IsLed 58 (IsThen (IsNumber 2) (IsFractionUpTo 8))) IsNothing

    into : Raw → ℕ × ℕ
    into (inl v) = v
    into (inr u) = (0, 0)

    there : (bytes : List ℕ) (v : Raw) → IsRaw bytes v → IsAfter bytes (into v)
    there bytes (inl v) h =
        let s = h.1 in
        inr (record { second = s.first.0; fraction = s.back; is_fraction = s.second.0; short = s.second.1; bytes_are = h.2 ∙ ap (λ r. 58 ∷ r) (put s.bytes_are s.first.1 refl) })
    there bytes (inr u) h = inl (h, refl, refl)

    here : (bytes : List ℕ) (v : ℕ × ℕ) → IsAfter bytes v → (u : Raw) × IsRaw bytes u × (into u ≡ v)
    here bytes v (inl none) = (inr tt, none.0, same_pair ℕ ℕ (0, 0) v (sym none.1) (sym none.2))
    here bytes v (inr is) =
        let two = digits_at_least 2 v.0 in
        (inl v, (two ++ is.fraction, record { front = two; back = is.fraction; first = (is.second, refl); second = (is.is_fraction, is.short); bytes_are = refl }, is.bytes_are), refl)

-- ---- the whole
pub time_form : IsForm Time HasTimeForm ends_time
time_form =
    retold HasTimeForm (both hour (led 58 (both two after_minute))) (λ v. record { hour = v.0; minute = v.1.0; second = v.1.1.0; nanosecond = v.1.1.1 })
    (λ bytes v h.
    let m = h.second.1 in
    record {
      hour = h.front;
      rest = m.back;
      is_hour = h.first;
      minute = m.first.0;
      is_rest = m.second;
      bytes_are = put h.bytes_are refl (h.second.2 ∙ ap (λ r. 58 ∷ r) (put m.bytes_are m.first.1 refl));
    })
    (λ bytes t h.
    let two = digits_at_least 2 t.minute in (
      (t.hour, (t.minute, (t.second, t.nanosecond))),
      record {
        front = h.hour;
        back = 58 ∷ (two ++ h.rest);
        first = h.is_hour;
        second = (two ++ h.rest, record { front = two; back = h.rest; first = (h.minute, refl); second = h.is_rest; bytes_are = refl }, refl);
        bytes_are = h.bytes_are;
      },
      refl,
    ))

pub time_shape : IsShapeOf HasTimeForm time
time_shape = whole time_form refl

pub nanosecond-below : (bytes : List ℕ) (t : TimeNumbers) → HasTimeForm bytes t → t.nanosecond < 1000000000
nanosecond-below bytes t h = elim h.is_rest as (λ _. t.nanosecond < 1000000000) [
  | inl none ↦ omega (arith, none.2)
  | inr is ↦ fraction-below is.fraction t.nanosecond is.is_fraction
]

-- ---- what a scanner read
as_hour : (k n : ℕ) (old new : List ℕ) → 1 ≤ k → k ≤ 2 → ParsesDigits old new k n → GoesPast (λ bytes. IsHour bytes n) old new
as_hour k n old new some few h = record {
  front = h.digits;
  is = record { all = h.all; some = omega (arith, some, h.count_is); few = omega (arith, few, h.count_is); value = sym h.value };
  bytes_are = h.bytes_are;
}

pub put_digit : (d : ℕ) (old mid new : List ℕ) → (d < 10) × (old ≡ (48 + d) ∷ mid) → new ≡ mid → GoesPast (λ bytes. IsHour bytes d) old new
put_digit d old mid new h kept = as_hour 1 d old new (lit≤ tt) (lit≤ tt) (one_digit d old new h.0 (h.1 ∙ ap (λ r. (48 + d) ∷ r) (sym kept)))

pub put_digits : (d e : ℕ) (old mid new : List ℕ) → (d < 10) × (old ≡ (48 + d) ∷ mid) → (e < 10) × (mid ≡ (48 + e) ∷ new) → GoesPast (λ bytes. IsHour bytes (d * 10 + e)) old new
put_digits d e old mid new h k = as_hour 2 (d * 10 + e) old new (lit≤ tt) (lit≤ tt) (one_more d e 1 old mid new (one_digit d old mid h.0 h.1) k.0 k.1)

pub no_second : (old new : List ℕ) → new ≡ old → GoesPast (λ bytes. IsAfterMinute bytes 0 0) old new
no_second old new kept = record { front = []; is = inl (refl, refl, refl); bytes_are = sym kept }

pub put_second : (s n : ℕ) (old mid rest new : List ℕ) → old ≡ 58 ∷ mid → ParsesDigits mid rest 2 s → HasFractionBefore new 8 rest n
    → GoesPast (λ bytes. IsAfterMinute bytes s n) old new
put_second s n old mid rest new colon digits f =
    let x = printed mid rest 2 s (lit≤ tt) (lit≤ tt) digits in
    let two = digits_at_least 2 s in
    record {
      front = 58 ∷ (two ++ f.fraction);
      is = inr (record { second = x.0; fraction = f.fraction; is_fraction = f.is_fraction; short = f.short; bytes_are = refl });
      bytes_are = colon ∙ ap (λ r. 58 ∷ r) (x.1 ∙ ap (λ r. two ++ r) f.bytes_are ∙ sym (append_assoc two f.fraction new));
    }

grouped : (hs ms front rest : List ℕ) → hs ++ 58 ∷ (ms ++ (front ++ rest)) ≡ (hs ++ 58 ∷ (ms ++ front)) ++ rest
grouped hs ms front rest = simp append_assoc

pub put_time : (h m s n : ℕ) (old mid digits rest new : List ℕ) → GoesPast (λ bytes. IsHour bytes h) old mid → mid ≡ 58 ∷ digits → ParsesDigits digits rest 2 m
    → GoesPast (λ bytes. IsAfterMinute bytes s n) rest new → GoesPast (λ bytes. HasTimeForm bytes (record { hour = h; minute = m; second = s; nanosecond = n })) old new
put_time h m s n old mid digits rest new hour colon minute last =
    let x = printed digits rest 2 m (lit≤ tt) (lit≤ tt) minute in
    let two = digits_at_least 2 m in
    record {
      front = hour.front ++ 58 ∷ (two ++ last.front);
      is = record { hour = hour.front; rest = last.front; is_hour = hour.is; minute = x.0; is_rest = last.is; bytes_are = refl };
      bytes_are = hour.bytes_are ∙ ap (λ r. hour.front ++ r) (colon ∙ ap (λ r. 58 ∷ r) (x.1 ∙ ap (λ r. two ++ r) last.bytes_are))
          ∙ grouped hour.front two last.front new;
    }
