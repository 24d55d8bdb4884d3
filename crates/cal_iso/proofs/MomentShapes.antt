-- The shapes of times of day, offsets and date-times.
use Rattle.std.proofs.Common.{◌≡◌, ℕ, ◌+◌, ◌≤◌, ◌⊎◌, inl, inr, false, List, [], ◌∷◌, ◌++◌, length, refl, sym, ap, subst, ◌∙◌, arith}
use Rattle.std.proofs.lemmas.List.{append-nil, length-append}
use Rattle.cal_text.specs.declared.date_numbers.DateNumbers.{DateNumbers}
use Rattle.cal_text.specs.declared.offset.numbers.OffsetNumbers.{OffsetNumbers}
use Rattle.cal_text.specs.declared.plain.numbers.PlainNumbers.{PlainNumbers}
use Rattle.cal_text.specs.declared.time.numbers.TimeNumbers.{TimeNumbers}
use Rattle.cal_text.specs.OffsetForm.{utc}
use Rattle.cal_text.specs.Rfc3339Form.{IsSeparator, sign_byte}
use Rattle.cal_text.specs.Shape.{Shape, End}
use Rattle.cal_text.proofs.Forms.{IsForm, IsNothing, IsLed, IsThen, IsEither, nothing, led, both, either, retold, whole, put}
use Rattle.cal_text.proofs.MomentShapes.{HasSeparator, separator}
use Rattle.cal_text.proofs.OffsetShapes.{sign}
use Rattle.cal_text.proofs.Positions.{AreShapesOf, IsShapeOf}
use Rattle.cal_iso.specs.ClockForm.{HasTail}
use Rattle.cal_iso.specs.DateForm.{HasIsoDate, IsNumber}
use Rattle.cal_iso.specs.TimeForm.{HasIsoClock, HasIsoTime}
use Rattle.cal_iso.specs.OffsetForm.{HasIsoOffset, IsShift, IsSpacedOffset}
use Rattle.cal_iso.specs.MomentForm.{HasIsoDateTime, HasIsoMoment, HasIsoPlain, midnight}
use Rattle.cal_iso.specs.IsoShape.{Clock, Moment, Plain, Shift, Time, any_length}
use Rattle.cal_iso.proofs.ClockShapes.{FractionUpTo, IsAfter, after_hour, after_hour_with, ends_clock, fraction, no_fraction, no_tail}
use Rattle.cal_iso.proofs.DateShapes.{date_form, digits}

-- ---- a whole text, whatever number of zeros is allowed
shapes : {V W : Type 0} {f : ℕ → Shape} {HasUpTo : ℕ → List ℕ → V → Type 0} (Has : List ℕ → W → Type 0) → ((m : ℕ) → IsShapeOf (HasUpTo m) (f m)) → (into : V → W)
    → ((m : ℕ) (bytes : List ℕ) (v : V) → HasUpTo m bytes v → Has bytes (into v))
    → ((m : ℕ) (bytes : List ℕ) (w : W) → length bytes ≤ m → Has bytes w → (v : V) × HasUpTo m bytes v × (into v ≡ w)) → AreShapesOf Has (λ k. f (k + any_length))
shapes {f} {HasUpTo} Has shape into there here = record {
  each = λ k bytes few (w, h). let v = here (k + any_length) bytes w (omega (arith, few)) h in (shape (k + any_length)).each bytes (v.0, v.1);
  only = λ k bytes e. let a = (shape (k + any_length)).only bytes e in (into a.0, there (k + any_length) bytes a.0 a.1);
  one = λ bytes v w a b.
      let x = here (length bytes) bytes v (omega arith) a in
      let y = here (length bytes) bytes w (omega arith) b in
      sym x.2 ∙ ap into ((shape (length bytes)).one bytes x.0 y.0 x.1 y.1) ∙ y.2;
}

-- ---- times of day, of whose fraction at most m digits come after the ninth
abbrev ClockUpTo : ℕ → List ℕ → TimeNumbers → Type 0
ClockUpTo m bytes t = IsThen (IsNumber 2) (IsAfter (FractionUpTo m)) bytes (t.hour, (t.minute, (t.second, t.nanosecond)))

clock_form : (m : ℕ) → IsForm (Clock m) (ClockUpTo m) ends_clock
clock_form m =
    retold (ClockUpTo m) (both (digits 2) (after_hour (fraction m))) (λ v. record { hour = v.0; minute = v.1.0; second = v.1.1.0; nanosecond = v.1.1.1 }) (λ bytes v h. h)
    (λ bytes t h. ((t.hour, (t.minute, (t.second, t.nanosecond))), h, refl))

clock_there : (m : ℕ) (bytes : List ℕ) (t : TimeNumbers) → ClockUpTo m bytes t → HasIsoClock bytes t
clock_there m bytes t h = record {
  hour = h.front;
  rest = h.back;
  is_hour = h.first;
  is_rest = after_hour_with h.back t.minute t.second t.nanosecond (λ tail n few is. is.0) h.second;
  bytes_are = h.bytes_are;
}

clock_here : (m : ℕ) (bytes : List ℕ) (t : TimeNumbers) → length bytes ≤ m → HasIsoClock bytes t → ClockUpTo m bytes t
clock_here m bytes t few h =
    let short : length h.rest ≤ m = omega (arith, few, ap length h.bytes_are, length-append h.hour h.rest) in
    record {
      front = h.hour;
      back = h.rest;
      first = h.is_hour;
      second = after_hour_with h.rest t.minute t.second t.nanosecond (λ tail n less is. (is, omega (arith, short, less))) h.is_rest;
      bytes_are = h.bytes_are;
    }

pub time_shapes : AreShapesOf HasIsoTime (λ k. Time (k + any_length) End)
time_shapes = shapes HasIsoTime (λ m. whole (either 84 0 (led 84 (clock_form m)) (either 116 0 (led 116 (clock_form m)) (clock_form m))) refl) into there here
  where
    Raw : Type 0
    Raw = TimeNumbers ⊎ (TimeNumbers ⊎ TimeNumbers)

    IsRaw : ℕ → List ℕ → Raw → Type 0
    IsRaw m = IsEither (IsLed 84 (ClockUpTo m)) (IsEither (IsLed 116 (ClockUpTo m)) (ClockUpTo m))

    into : Raw → TimeNumbers
    into (inl t) = t
    into (inr (inl t)) = t
    into (inr (inr t)) = t

    there : (m : ℕ) (bytes : List ℕ) (v : Raw) → IsRaw m bytes v → HasIsoTime bytes (into v)
    there m bytes (inl t) h = inr (h.0, clock_there m h.0 t h.1, inl h.2)
    there m bytes (inr (inl t)) h = inr (h.0, clock_there m h.0 t h.1, inr h.2)
    there m bytes (inr (inr t)) h = inl (clock_there m bytes t h)

    here : (m : ℕ) (bytes : List ℕ) (t : TimeNumbers) → length bytes ≤ m → HasIsoTime bytes t → (v : Raw) × IsRaw m bytes v × (into v ≡ t)
    here m bytes t few (inl h) = (inr (inr t), clock_here m bytes t few h, refl)
    here m bytes t few (inr (rest, h, inl e)) = (inl t, (rest, clock_here m rest t (omega (arith, few, ap length e)) h, e), refl)
    here m bytes t few (inr (rest, h, inr e)) = (inr (inl t), (rest, clock_here m rest t (omega (arith, few, ap length e)) h, e), refl)

-- ---- offsets
shift_form : IsForm Shift (λ bytes o. IsShift bytes o) ends_clock
shift_form =
    retold IsShift (both sign (both (digits 2) (retold (λ bytes v. IsAfter (HasTail false) bytes (v.0, (v.1, 0))) (after_hour no_fraction) (λ v. (v.0, v.1.0)) there here)))
    (λ v. record { is_negative = v.0; hours = v.1.0; minutes = v.1.1.0; seconds = v.1.1.1 })
    (λ bytes v h.
    let k = h.second in
    record { hours = k.front; rest = k.back; is_hours = k.first; is_rest = k.second; bytes_are = put h.bytes_are h.first k.bytes_are })
    (λ bytes o h. (
      (o.is_negative, (o.hours, (o.minutes, o.seconds))),
      record {
        front = sign_byte o.is_negative ∷ [];
        back = h.hours ++ h.rest;
        first = refl;
        second = record { front = h.hours; back = h.rest; first = h.is_hours; second = h.is_rest; bytes_are = refl };
        bytes_are = h.bytes_are;
      },
      refl,
    ))
  where
    there : (bytes : List ℕ) (v : ℕ × (ℕ × ℕ)) → IsAfter (HasTail false) bytes v → IsAfter (HasTail false) bytes (v.0, (v.1.0, 0))
    there bytes v h = subst (λ n. IsAfter (HasTail false) bytes (v.0, (v.1.0, n))) (no_tail bytes v.0 v.1.0 v.1.1 h) h

    here : (bytes : List ℕ) (v : ℕ × ℕ) → IsAfter (HasTail false) bytes (v.0, (v.1, 0)) → (u : ℕ × (ℕ × ℕ)) × IsAfter (HasTail false) bytes u × ((u.0, u.1.0) ≡ v)
    here bytes v h = ((v.0, (v.1, 0)), h, refl)

abbrev RawOffset : Type 0
RawOffset = Unit {0} ⊎ (Unit {0} ⊎ OffsetNumbers)

abbrev IsRawOffset : List ℕ → RawOffset → Type 0
IsRawOffset = IsEither (IsLed 90 IsNothing) (IsEither (IsLed 122 IsNothing) IsShift)

offset_into : RawOffset → OffsetNumbers
offset_into (inl u) = utc
offset_into (inr (inl u)) = utc
offset_into (inr (inr o)) = o

offset_there : (bytes : List ℕ) (v : RawOffset) → IsRawOffset bytes v → HasIsoOffset bytes (offset_into v)
unfolding offset_into
offset_there bytes (inl u) h = inl (refl, inl (h.2 ∙ ap (λ r. 90 ∷ r) h.1))
offset_there bytes (inr (inl u)) h = inl (refl, inr (h.2 ∙ ap (λ r. 122 ∷ r) h.1))
offset_there bytes (inr (inr o)) h = inr h

offset_here : (bytes : List ℕ) (o : OffsetNumbers) → HasIsoOffset bytes o → (v : RawOffset) × IsRawOffset bytes v × (offset_into v ≡ o)
unfolding offset_into
offset_here bytes o (inl (zero, inl e)) = (inl tt, ([], refl, e), sym zero)
offset_here bytes o (inl (zero, inr e)) = (inr (inl tt), ([], refl, e), sym zero)
offset_here bytes o (inr h) = (inr (inr o), h, refl)

spaced_into : OffsetNumbers ⊎ OffsetNumbers → OffsetNumbers
spaced_into (inl o) = o
spaced_into (inr o) = o

spaced_there : (bytes : List ℕ) (v : OffsetNumbers ⊎ OffsetNumbers) → IsEither (IsLed 32 HasIsoOffset) HasIsoOffset bytes v → IsSpacedOffset bytes (spaced_into v)
unfolding spaced_into
spaced_there bytes (inl o) h = inr h
spaced_there bytes (inr o) h = inl h

spaced_here : (bytes : List ℕ) (o : OffsetNumbers) → IsSpacedOffset bytes o → (v : OffsetNumbers ⊎ OffsetNumbers) × IsEither (IsLed 32 HasIsoOffset) HasIsoOffset bytes v × (spaced_into v ≡ o)
unfolding spaced_into
spaced_here bytes o (inl h) = (inr o, h, refl)
spaced_here bytes o (inr h) = (inl o, h, refl)

-- ---- date-times
abbrev DateTimeUpTo : ℕ → List ℕ → DateNumbers × (ℕ × TimeNumbers) → Type 0
DateTimeUpTo m = IsThen HasIsoDate (IsThen HasSeparator (ClockUpTo m))

date_time_there : (m : ℕ) (bytes : List ℕ) (v : DateNumbers × (ℕ × TimeNumbers)) → DateTimeUpTo m bytes v → HasIsoDateTime bytes (record { date = v.0; time = v.1.1 })
date_time_there m bytes v h =
    let t = h.second in
    record {
      date = h.front;
      separator = v.1.0;
      time = t.back;
      has_date = h.first;
      is_separator = t.first.0;
      has_time = clock_there m t.back v.1.1 t.second;
      bytes_are = put h.bytes_are refl (put t.bytes_are t.first.1 refl);
    }

date_time_here : (m : ℕ) (bytes : List ℕ) (p : PlainNumbers) → length bytes ≤ m → (h : HasIsoDateTime bytes p) → DateTimeUpTo m bytes (p.date, (h.separator, p.time))
date_time_here m bytes p few h =
    let short : length h.time ≤ m = omega (arith, few, ap length h.bytes_are, length-append h.date (h.separator ∷ h.time)) in
    record {
      front = h.date;
      back = h.separator ∷ h.time;
      first = h.has_date;
      second = record { front = h.separator ∷ []; back = h.time; first = (h.is_separator, refl); second = clock_here m h.time p.time short h.has_time; bytes_are = refl };
      bytes_are = h.bytes_are;
    }

pub moment_shapes : AreShapesOf HasIsoMoment (λ k. Moment (k + any_length) End)
moment_shapes =
    let offset = retold HasIsoOffset (either 90 0 (led 90 nothing) (either 122 0 (led 122 nothing) shift_form)) offset_into offset_there offset_here in
    let spaced = retold IsSpacedOffset (either 32 0 (led 32 offset) offset) spaced_into spaced_there spaced_here in
    shapes HasIsoMoment (λ m. whole (both (both date_form (both separator (clock_form m))) spaced) refl)
    (λ v. record { local = record { date = v.0.0; time = v.0.1.1 }; offset = v.1 })
    (λ m bytes v h. record { local = h.front; offset = h.back; has_local = date_time_there m h.front v.0 h.first; has_offset = h.second; bytes_are = h.bytes_are })
    (λ m bytes w few h.
    let short : length h.local ≤ m = omega (arith, few, ap length h.bytes_are, length-append h.local h.offset) in (
      ((w.local.date, (h.has_local.separator, w.local.time)), w.offset),
      record { front = h.local; back = h.offset; first = date_time_here m h.local w.local short h.has_local; second = h.has_offset; bytes_are = h.bytes_are },
      refl,
    ))

-- ---- a date, and perhaps a time of day
abbrev RawTime : Type 0
RawTime = TimeNumbers ⊎ (TimeNumbers ⊎ (TimeNumbers ⊎ Unit {0}))

abbrev IsRawTime : ℕ → List ℕ → RawTime → Type 0
IsRawTime m = IsEither (IsLed 84 (ClockUpTo m)) (IsEither (IsLed 116 (ClockUpTo m)) (IsEither (IsLed 32 (ClockUpTo m)) IsNothing))

time_of : RawTime → TimeNumbers
time_of (inl t) = t
time_of (inr (inl t)) = t
time_of (inr (inr (inl t))) = t
time_of (inr (inr (inr u))) = midnight

pub plain_into : DateNumbers × RawTime → PlainNumbers
plain_into v = record { date = v.0; time = time_of v.1 }

led_there : (m s : ℕ) (bytes : List ℕ) (f : DateNumbers) (t : TimeNumbers) (front back : List ℕ) → IsSeparator s → HasIsoDate front f → IsLed s (ClockUpTo m) back t
    → bytes ≡ front ++ back → HasIsoDateTime bytes (record { date = f; time = t })
led_there m s bytes f t front back is date time e = record {
  date = front;
  separator = s;
  time = time.0;
  has_date = date;
  is_separator = is;
  has_time = clock_there m time.0 t time.1;
  bytes_are = e ∙ ap (λ r. front ++ r) time.2;
}

plain_there : (m : ℕ) (bytes : List ℕ) (v : DateNumbers × RawTime) → IsThen HasIsoDate (IsRawTime m) bytes v → HasIsoPlain bytes (plain_into v)
unfolding plain_into time_of
plain_there m bytes (f, inl t) h = inl (led_there m 84 bytes f t h.front h.back (inl refl) h.first h.second h.bytes_are)
plain_there m bytes (f, inr (inl t)) h = inl (led_there m 116 bytes f t h.front h.back (inr (inl refl)) h.first h.second h.bytes_are)
plain_there m bytes (f, inr (inr (inl t))) h = inl (led_there m 32 bytes f t h.front h.back (inr (inr refl)) h.first h.second h.bytes_are)
plain_there m bytes (f, inr (inr (inr u))) h = inr (subst (λ all. HasIsoDate all f) (sym (h.bytes_are ∙ ap (λ r. h.front ++ r) h.second ∙ append-nil h.front)) h.first, refl)

abbrev RawPlain : ℕ → List ℕ → PlainNumbers → Type 0
RawPlain m bytes p = (v : DateNumbers × RawTime) × IsThen HasIsoDate (IsRawTime m) bytes v × (plain_into v ≡ p)

plain_here : (m : ℕ) (bytes : List ℕ) (p : PlainNumbers) → length bytes ≤ m → HasIsoPlain bytes p → RawPlain m bytes p
unfolding plain_into time_of date_time_here
plain_here m bytes p few (inr h) = (
  (p.date, inr (inr (inr tt))),
  record { front = bytes; back = []; first = h.0; second = refl; bytes_are = sym (append-nil bytes) },
  λ i. record { date = p.date; time = sym h.1 i },
)
plain_here m bytes p few (inl h) =
    let clock = (date_time_here m bytes p few h).second.second in
    elim h.is_separator as (λ _. RawPlain m bytes p) [
      | inl e ↦ ((p.date, inl p.time), record { front = h.date; back = h.separator ∷ h.time; first = h.has_date; second = (h.time, clock, ap (λ s. s ∷ h.time) e); bytes_are = h.bytes_are }, refl)
      | inr (inl e) ↦ (
        (p.date, inr (inl p.time)),
        record { front = h.date; back = h.separator ∷ h.time; first = h.has_date; second = (h.time, clock, ap (λ s. s ∷ h.time) e); bytes_are = h.bytes_are },
        refl,
      )
      | inr (inr e) ↦ (
        (p.date, inr (inr (inl p.time))),
        record { front = h.date; back = h.separator ∷ h.time; first = h.has_date; second = (h.time, clock, ap (λ s. s ∷ h.time) e); bytes_are = h.bytes_are },
        refl,
      )
    ]

pub plain_shapes : AreShapesOf HasIsoPlain (λ k. Plain (k + any_length) End)
plain_shapes =
    shapes HasIsoPlain
    (λ m. whole (both date_form (either 84 0 (led 84 (clock_form m)) (either 116 0 (led 116 (clock_form m)) (either 32 0 (led 32 (clock_form m)) nothing)))) refl) plain_into plain_there plain_here
