-- The forms of durations have their shapes.
use Rattle.std.proofs.Common.{◌≡◌, ℕ, ◌+◌, ◌<◌, ◌≤◌, ◌⊎◌, inl, inr, Bool, true, false, List, [], ◌∷◌, ◌++◌, length, refl, sym, ap, ◌∙◌, arith}
use Rattle.std.proofs.lemmas.List.{length-append, append-nil}
use Rattle.cal_text.specs.Rfc3339Form.{nanoseconds_of}
use Rattle.cal_text.specs.Shape.{Shape, End, Byte}
use Rattle.cal_text.proofs.DigitForms.{IsRun, run}
use Rattle.cal_text.proofs.Forms.{IsForm, IsNothing, IsLed, IsThen, IsEither, always, nothing, led, both, either, retold, whole}
use Rattle.cal_text.proofs.Positions.{IsShapeOf, AreShapesOf}
use Rattle.cal_duration.specs.declared.numbers.DateNumbers.{DateNumbers}
use Rattle.cal_duration.specs.declared.numbers.TimeNumbers.{TimeNumbers}
use Rattle.cal_duration.specs.declared.numbers.Numbers.{Numbers}
use Rattle.cal_duration.specs.Form.{IsNumber, IsPart, IsDecimals, AreSeconds, HasDate, HasClock, HasTime, HasTimeOrNone, no_time, no_date, sign_text, HasBody, HasPeriodForm, HasDurationForm, IsSecondsEnd}
use Rattle.cal_duration.specs.DurationShape.{SecondsEnd, Period, Duration}
use Rattle.cal_duration.proofs.Levels.{IsShort, IsShortPart, IsChoice, Level, IsSome, some, step}

-- ---- a part, with a number of any length and with a short one
pub long_part : (more letter : ℕ) (bytes : List ℕ) (n : ℕ) → IsShortPart more letter bytes n → IsPart letter bytes n
long_part more letter bytes n (inl none) = inl none
long_part more letter bytes n (inr (digits, is, e)) = inr (digits, record { all = is.0.0; some = omega (arith, is.0.1); value = is.1 }, e)

short_number : (more : ℕ) (digits : List ℕ) (n : ℕ) → length digits ≤ more → IsNumber digits n → IsShort more digits n
short_number more digits n few is = ((is.all, omega (arith, is.some), omega (arith, few)), is.value)

short_part : (more letter : ℕ) (bytes : List ℕ) (n : ℕ) → length bytes ≤ more → IsPart letter bytes n → IsShortPart more letter bytes n
short_part more letter bytes n few (inl none) = inl none
short_part more letter bytes n few (inr (digits, is, e)) =
    inr (digits, short_number more digits n (omega (arith, few, ap length e, length-append digits (letter ∷ []))) is, e)

-- ---- the bytes after the digits of the seconds
seconds_end : IsForm SecondsEnd IsSecondsEnd always
seconds_end =
    let marked = both (run 1 8 nanoseconds_of) (led 83 nothing) in
    retold IsSecondsEnd (either 46 0 (led 46 marked) (either 44 0 (led 44 marked) (led 83 nothing))) into there here
  where
    Marked : List ℕ → ℕ × Unit {0} → Type 0
    Marked = IsThen (IsRun 1 8 nanoseconds_of) (IsLed 83 IsNothing)

    Raw : Type 0
    Raw = (ℕ × Unit {0}) ⊎ (ℕ × Unit {0}) ⊎ Unit {0}

    IsRaw : List ℕ → Raw → Type 0
    IsRaw = IsEither (IsLed 46 Marked) (IsEither (IsLed 44 Marked) (IsLed 83 IsNothing))

    into : Raw → ℕ
    into (inl v) = v.0
    into (inr (inl v)) = v.0
    into (inr (inr u)) = 0

    marked_is : (bytes : List ℕ) (mark : ℕ) (v : ℕ × Unit {0}) → (mark ≡ 46) ⊎ (mark ≡ 44) → IsLed mark Marked bytes v → IsSecondsEnd bytes v.0
    marked_is bytes mark v is h =
        let run = h.1.first in (
          mark ∷ h.1.front,
          inr (record { mark = mark; digits = h.1.front; is_mark = is; all = run.0.0; some = omega (arith, run.0.1); few = omega (arith, run.0.2); value = run.1; bytes_are = refl }),
          h.2 ∙ ap (λ r. mark ∷ r) (h.1.bytes_are ∙ ap (λ r. h.1.front ++ r) (h.1.second.2 ∙ ap (λ r. 83 ∷ r) h.1.second.1)),
        )

    there : (bytes : List ℕ) (v : Raw) → IsRaw bytes v → IsSecondsEnd bytes (into v)
    there bytes (inl v) h = marked_is bytes 46 v (inl refl) h
    there bytes (inr (inl v)) h = marked_is bytes 44 v (inr refl) h
    there bytes (inr (inr u)) h = ([], inl (refl, refl), h.2 ∙ ap (λ r. 83 ∷ r) h.1)

    as_marked : (bytes fraction : List ℕ) (n mark : ℕ) (d : IsDecimals fraction n) → d.mark ≡ mark → bytes ≡ fraction ++ 83 ∷ [] → IsLed mark Marked bytes (n, tt)
    as_marked bytes fraction n mark d is e = (
      d.digits ++ 83 ∷ [],
      record { front = d.digits; back = 83 ∷ []; first = ((d.all, omega (arith, d.some), omega (arith, d.few)), d.value); second = ([], refl, refl); bytes_are = refl },
      e ∙ ap (λ r. r ++ 83 ∷ []) (d.bytes_are ∙ ap (λ m. m ∷ d.digits) is),
    )

    here : (bytes : List ℕ) (n : ℕ) → IsSecondsEnd bytes n → (v : Raw) × IsRaw bytes v × (into v ≡ n)
    here bytes n (fraction, inl none, e) = (inr (inr tt), ([], refl, e ∙ ap (λ r. r ++ 83 ∷ []) none.0), sym none.1)
    here bytes n (fraction, inr d, e) = elim d.is_mark as (λ _. (v : Raw) × IsRaw bytes v × (into v ≡ n)) [
      | inl is ↦ (inl (n, tt), as_marked bytes fraction n 46 d is e, refl)
      | inr is ↦ (inr (inl (n, tt)), as_marked bytes fraction n 44 d is e, refl)
    ]

-- ---- the last parts: seconds, and days
abbrev pub IsShortSeconds : ℕ → List ℕ → ℕ × ℕ → Type 0
IsShortSeconds more bytes v = ((bytes ≡ []) × (v ≡ (0, 0))) ⊎ IsThen (IsShort more) IsSecondsEnd bytes v

pub seconds_level : (more : ℕ) → Level more SecondsEnd IsSecondsEnd (IsShortSeconds more) always
seconds_level more = record { form = seconds_end; into = into; there = there; here = here }
  where
    Choice : Type 0
    Choice = (ℕ × ℕ) ⊎ Unit {0}

    into : Choice → ℕ × ℕ
    into (inl v) = v
    into (inr u) = (0, 0)

    there : (bytes : List ℕ) (c : Choice) → IsChoice more IsSecondsEnd bytes c → IsShortSeconds more bytes (into c)
    there bytes (inl v) h = inr h
    there bytes (inr u) h = inl (h, refl)

    here : (bytes : List ℕ) (v : ℕ × ℕ) → IsShortSeconds more bytes v → (c : Choice) × IsChoice more IsSecondsEnd bytes c × (into c ≡ v)
    here bytes v (inl none) = (inr tt, none.0, sym none.1)
    here bytes v (inr h) = (inl v, h, refl)

pub days_level : (more : ℕ) → Level more (Byte 68) (IsLed 68 IsNothing) (IsShortPart more 68) always
days_level more = record { form = led 68 nothing; into = into; there = there; here = here }
  where
    Choice : Type 0
    Choice = (ℕ × Unit {0}) ⊎ Unit {0}

    into : Choice → ℕ
    into (inl v) = v.0
    into (inr u) = 0

    there : (bytes : List ℕ) (c : Choice) → IsChoice more (IsLed 68 IsNothing) bytes c → IsShortPart more 68 bytes (into c)
    there bytes (inl v) h = inr (h.front, h.first, h.bytes_are ∙ ap (λ r. h.front ++ r) (h.second.2 ∙ ap (λ r. 68 ∷ r) h.second.1))
    there bytes (inr u) h = inl (h, refl)

    here : (bytes : List ℕ) (n : ℕ) → IsShortPart more 68 bytes n → (c : Choice) × IsChoice more (IsLed 68 IsNothing) bytes c × (into c ≡ n)
    here bytes n (inl none) = (inr tt, none.0, sym none.1)
    here bytes n (inr (digits, is, e)) = (inl (n, tt), record { front = digits; back = 68 ∷ []; first = is; second = ([], refl, refl); bytes_are = e }, refl)

-- ---- dates and times
abbrev pub IsShortClock : ℕ → List ℕ → ℕ × (ℕ × (ℕ × ℕ)) → Type 0
IsShortClock more = IsThen (IsShortPart more 72) (IsThen (IsShortPart more 77) (IsShortSeconds more))

abbrev pub IsShortDate : ℕ → List ℕ → ℕ × (ℕ × (ℕ × ℕ)) → Type 0
IsShortDate more = IsThen (IsShortPart more 89) (IsThen (IsShortPart more 77) (IsThen (IsShortPart more 87) (IsShortPart more 68)))

abbrev pub Four : Type 0
Four = ℕ × (ℕ × (ℕ × ℕ))

abbrev clock_of : Four → TimeNumbers
clock_of v = record { hours = v.0; minutes = v.1.0; seconds = v.1.1.0; nanoseconds = v.1.1.1 }

abbrev date_of : Four → DateNumbers
date_of v = record { years = v.0; months = v.1.0; weeks = v.1.1.0; days = v.1.1.1 }

long_seconds : (more : ℕ) (bytes : List ℕ) (v : ℕ × ℕ) → IsShortSeconds more bytes v → AreSeconds bytes v.0 v.1
long_seconds more bytes v (inl none) = inl (none.0, ap (λ w. w.0) none.1, ap (λ w. w.1) none.1)
long_seconds more bytes v (inr h) = inr (record {
  digits = h.front;
  fraction = h.second.0;
  is_number = record { all = h.first.0.0; some = omega (arith, h.first.0.1); value = h.first.1 };
  is_fraction = h.second.1;
  bytes_are = h.bytes_are ∙ ap (λ r. h.front ++ r) h.second.2;
})

long_clock : (more : ℕ) (bytes : List ℕ) (v : Four) → IsShortClock more bytes v → HasClock bytes (clock_of v)
long_clock more bytes v h = record {
  hours = h.front;
  minutes = h.second.front;
  seconds = h.second.back;
  are_hours = long_part more 72 h.front v.0 h.first;
  are_minutes = long_part more 77 h.second.front v.1.0 h.second.first;
  are_seconds = long_seconds more h.second.back v.1.1 h.second.second;
  bytes_are = h.bytes_are ∙ ap (λ r. h.front ++ r) h.second.bytes_are;
}

long_date : (more : ℕ) (bytes : List ℕ) (v : Four) → IsShortDate more bytes v → HasDate bytes (date_of v)
long_date more bytes v h = record {
  years = h.front;
  months = h.second.front;
  weeks = h.second.second.front;
  days = h.second.second.back;
  are_years = long_part more 89 h.front v.0 h.first;
  are_months = long_part more 77 h.second.front v.1.0 h.second.first;
  are_weeks = long_part more 87 h.second.second.front v.1.1.0 h.second.second.first;
  are_days = long_part more 68 h.second.second.back v.1.1.1 h.second.second.second;
  bytes_are = h.bytes_are ∙ ap (λ r. h.front ++ r) (h.second.bytes_are ∙ ap (λ r. h.second.front ++ r) h.second.second.bytes_are);
}

short_seconds : (more : ℕ) (bytes : List ℕ) (s n : ℕ) → length bytes ≤ more → AreSeconds bytes s n → IsShortSeconds more bytes (s, n)
short_seconds more bytes s n few (inl (none, zero_seconds, zero_nanos)) =
    inl (none, ap (λ x. let p : ℕ × ℕ = (x, n) in p) zero_seconds ∙ ap (λ x. let p : ℕ × ℕ = (0, x) in p) zero_nanos)
short_seconds more bytes s n few (inr h) = inr (record {
  front = h.digits;
  back = h.fraction ++ 83 ∷ [];
  first = short_number more h.digits s (omega (arith, few, ap length h.bytes_are, length-append h.digits (h.fraction ++ 83 ∷ []))) h.is_number;
  second = (h.fraction, h.is_fraction, refl);
  bytes_are = h.bytes_are;
})

-- the parts of three are no longer than the whole
record AreFew (more : ℕ) (a b c : List ℕ) : Type 0 where
  first : length a ≤ more
  second : length b ≤ more
  third : length c ≤ more

few_of : (more : ℕ) (bytes a b c : List ℕ) → length bytes ≤ more → bytes ≡ a ++ (b ++ c) → AreFew more a b c
few_of more bytes a b c few e =
    let sum : length bytes ≡ length a + (length b + length c) = ap length e ∙ length-append a (b ++ c) ∙ ap (λ n. length a + n) (length-append b c) in
    record { first = omega (arith, few, sum); second = omega (arith, few, sum); third = omega (arith, few, sum) }

short_clock : (more : ℕ) (bytes : List ℕ) (m : TimeNumbers) → length bytes ≤ more → HasClock bytes m → IsShortClock more bytes (m.hours, (m.minutes, (m.seconds, m.nanoseconds)))
short_clock more bytes m few h =
    let parts = few_of more bytes h.hours h.minutes h.seconds few h.bytes_are in
    record {
      front = h.hours;
      back = h.minutes ++ h.seconds;
      first = short_part more 72 h.hours m.hours parts.first h.are_hours;
      second = record {
        front = h.minutes;
        back = h.seconds;
        first = short_part more 77 h.minutes m.minutes parts.second h.are_minutes;
        second = short_seconds more h.seconds m.seconds m.nanoseconds parts.third h.are_seconds;
        bytes_are = refl;
      };
      bytes_are = h.bytes_are;
    }

short_date : (more : ℕ) (bytes : List ℕ) (m : DateNumbers) → length bytes ≤ more → HasDate bytes m → IsShortDate more bytes (m.years, (m.months, (m.weeks, m.days)))
short_date more bytes m few h =
    let parts = few_of more bytes h.years h.months (h.weeks ++ h.days) few h.bytes_are in
    let last = few_of more (h.weeks ++ h.days) h.weeks h.days [] parts.third (ap (λ r. h.weeks ++ r) (sym (append-nil h.days))) in
    record {
      front = h.years;
      back = h.months ++ (h.weeks ++ h.days);
      first = short_part more 89 h.years m.years parts.first h.are_years;
      second = record {
        front = h.months;
        back = h.weeks ++ h.days;
        first = short_part more 77 h.months m.months parts.second h.are_months;
        second = record {
          front = h.weeks;
          back = h.days;
          first = short_part more 87 h.weeks m.weeks last.first h.are_weeks;
          second = short_part more 68 h.days m.days last.second h.are_days;
          bytes_are = refl;
        };
        bytes_are = refl;
      };
      bytes_are = h.bytes_are;
    }

-- ---- the whole, with short numbers
abbrev pub SomeClock : ℕ → List ℕ → Four → Type 0
SomeClock more = IsSome (IsShortClock more)

abbrev pub IsShortBody : ℕ → List ℕ → Four ⊎ (Four × (Four ⊎ Unit {0})) → Type 0
IsShortBody more = IsEither (IsLed 84 (SomeClock more)) (IsThen (IsSome (IsShortDate more)) (IsEither (IsLed 84 (SomeClock more)) IsNothing))

abbrev pub RawBody : Type 0
RawBody = Four ⊎ (Four × (Four ⊎ Unit {0}))

abbrev Raw : Type 0 → Type 0
Raw B = B ⊎ B

abbrev IsSigned : {B : Type 0} → (List ℕ → B → Type 0) → List ℕ → Raw B → Type 0
IsSigned Is = IsEither (IsLed 45 (IsLed 80 Is)) (IsLed 80 Is)

abbrev IsRawPeriod : ℕ → List ℕ → Raw RawBody → Type 0
IsRawPeriod more = IsSigned (IsShortBody more)

abbrev IsRawDuration : ℕ → List ℕ → Raw Four → Type 0
IsRawDuration more = IsSigned (IsLed 84 (SomeClock more))

raw_period : (more : ℕ) → IsShapeOf (IsRawPeriod more) (Period more End)
raw_period more =
    let clock = some (step 72 (step 77 (seconds_level more))) in
    let date = some (step 89 (step 77 (step 87 (days_level more)))) in
    let body = either 84 0 (led 84 clock) (both date (either 84 0 (led 84 clock) nothing)) in
    whole (either 45 0 (led 45 (led 80 body)) (led 80 body)) refl

raw_duration : (more : ℕ) → IsShapeOf (IsRawDuration more) (Duration more End)
raw_duration more =
    let body = led 84 (some (step 72 (step 77 (seconds_level more)))) in
    whole (either 45 0 (led 45 (led 80 body)) (led 80 body)) refl

-- ---- and with numbers of any length
from_raw : {R V : Type 0} (IsRaw : ℕ → List ℕ → R → Type 0) (f : ℕ → Shape) (Has : List ℕ → V → Type 0) (into : R → V) → ((k : ℕ) → IsShapeOf (IsRaw k) (f k))
    → ((k : ℕ) (bytes : List ℕ) (r : R) → IsRaw k bytes r → Has bytes (into r))
    → ((k : ℕ) (bytes : List ℕ) (v : V) → length bytes ≤ k → Has bytes v → (r : R) × IsRaw k bytes r × (into r ≡ v)) → AreShapesOf Has f
from_raw IsRaw f Has into shapes there here = record {
  each = λ k bytes few (v, h). let r = here k bytes v few h in (shapes k).each bytes (r.0, r.1);
  only = λ k bytes e. let r = (shapes k).only bytes e in (into r.0, there k bytes r.0 r.1);
  one = λ bytes v w a b.
      let few : length bytes ≤ length bytes = omega arith in
      let r = here (length bytes) bytes v few a in
      let s = here (length bytes) bytes w few b in
      sym r.2 ∙ ap into ((shapes (length bytes)).one bytes r.0 s.0 r.1 s.1) ∙ s.2;
}

pub body_date : RawBody → DateNumbers
body_date (inl c) = no_date
body_date (inr b) = date_of b.0

pub or_no_time : Four ⊎ Unit {0} → TimeNumbers
or_no_time (inl c) = clock_of c
or_no_time (inr u) = no_time

pub body_time : RawBody → TimeNumbers
body_time (inl c) = clock_of c
body_time (inr b) = or_no_time b.1

numbers_of : Bool → DateNumbers → TimeNumbers → Numbers
numbers_of is_negative d t = record { is_negative = is_negative; date = d; time = t }

pub no_dates : HasDate [] no_date
no_dates = record { years = []; months = []; weeks = []; days = []; are_years = inl (refl, refl); are_months = inl (refl, refl); are_weeks = inl (refl, refl); are_days = inl (refl, refl); bytes_are = refl }

some_time : (more : ℕ) (bytes : List ℕ) (c : Four) → SomeClock more bytes c → HasTime bytes (clock_of c)
some_time more bytes c h = (long_clock more bytes c h.0, h.1)

time_or_none : (more : ℕ) (bytes : List ℕ) (c : Four ⊎ Unit {0}) → IsEither (IsLed 84 (SomeClock more)) IsNothing bytes c → HasTimeOrNone bytes (or_no_time c)
unfolding or_no_time
time_or_none more bytes (inl c) h = inr (h.0, some_time more h.0 c h.1, h.2)
time_or_none more bytes (inr u) h = inl (h, refl)

pub body_there : (more : ℕ) (bytes : List ℕ) (b : RawBody) → IsShortBody more bytes b → HasBody bytes (body_date b) (body_time b)
unfolding body_date body_time
body_there more bytes (inl c) h = record {
  date = [];
  time = bytes;
  has_date = no_dates;
  has_time = inr (h.0, some_time more h.0 c h.1, h.2);
  some = omega (arith, ap length h.2);
  bytes_are = refl;
}
body_there more bytes (inr b) h = record {
  date = h.front;
  time = h.back;
  has_date = long_date more h.front b.0 h.first.0;
  has_time = time_or_none more h.back b.1 h.second;
  some = omega (arith, h.first.1, ap length h.bytes_are, length-append h.front h.back);
  bytes_are = h.bytes_are;
}

abbrev pub RawBodyOf : ℕ → List ℕ → DateNumbers → TimeNumbers → Type 0
RawBodyOf more bytes d t = (b : RawBody) × IsShortBody more bytes b × (body_date b ≡ d) × (body_time b ≡ t)

part_none : (letter : ℕ) (bytes : List ℕ) (n : ℕ) → IsPart letter bytes n → length bytes ≤ 0 → n ≡ 0
part_none letter bytes n (inl none) few = none.1
part_none letter bytes n (inr (digits, is, e)) few = absurd (omega (arith, is.some, few, ap length e, length-append digits (letter ∷ [])))

pub date_none : (d : DateNumbers) → HasDate [] d → d ≡ no_date
date_none d h =
    let none : length {A = ℕ} [] ≤ 0 = omega arith in
    let parts = few_of 0 [] h.years h.months (h.weeks ++ h.days) none h.bytes_are in
    let last = few_of 0 (h.weeks ++ h.days) h.weeks h.days [] parts.third (ap (λ r. h.weeks ++ r) (sym (append-nil h.days))) in
    let years = part_none 89 h.years d.years h.are_years parts.first in
    let months = part_none 77 h.months d.months h.are_months parts.second in
    let weeks = part_none 87 h.weeks d.weeks h.are_weeks last.first in
    let days = part_none 68 h.days d.days h.are_days last.second in
    λ i. record { years = years i; months = months i; weeks = weeks i; days = days i }

short_time : (more : ℕ) (bytes : List ℕ) (t : TimeNumbers) → length bytes ≤ more → HasTime bytes t → (c : Four) × SomeClock more bytes c × (clock_of c ≡ t)
short_time more bytes t few h = ((t.hours, (t.minutes, (t.seconds, t.nanoseconds))), (short_clock more bytes t few h.0, h.1), refl)

abbrev RawTimeOf : ℕ → List ℕ → TimeNumbers → Type 0
RawTimeOf more bytes t = (c : Four ⊎ Unit {0}) × IsEither (IsLed 84 (SomeClock more)) IsNothing bytes c × (or_no_time c ≡ t)

short_time_or_none : (more : ℕ) (bytes : List ℕ) (t : TimeNumbers) → length bytes ≤ more → HasTimeOrNone bytes t → RawTimeOf more bytes t
unfolding or_no_time
short_time_or_none more bytes t few (inl none) = (inr tt, none.0, sym none.1)
short_time_or_none more bytes t few (inr (rest, h, e)) =
    let c = short_time more rest t (omega (arith, few, ap length e)) h in (inl c.0, (rest, c.1, e), c.2)

pub body_here : (more : ℕ) (bytes : List ℕ) (d : DateNumbers) (t : TimeNumbers) → length bytes ≤ more → HasBody bytes d t → RawBodyOf more bytes d t
unfolding body_date body_time
body_here more bytes d t few h = at h.date h.has_date h.bytes_are
  where
    alone : bytes ≡ h.time → d ≡ no_date → HasTimeOrNone h.time t → RawBodyOf more bytes d t
    alone e none (inl without) = absurd (omega (arith, h.some, ap length (e ∙ without.0)))
    alone e none (inr (rest, has, f)) =
        let whole = e ∙ f in
        let c = short_time more rest t (omega (arith, few, ap length whole)) has in (inl c.0, (rest, c.1, whole), sym none, c.2)

    at : (date : List ℕ) → HasDate date d → bytes ≡ date ++ h.time → RawBodyOf more bytes d t
    at [] has e = alone e (date_none d has) h.has_time
    at (x ∷ xs) has e =
        let sum = ap length e ∙ length-append (x ∷ xs) h.time in
        let few_date : length (x ∷ xs) ≤ more = omega (arith, few, sum) in
        let few_time : length h.time ≤ more = omega (arith, few, sum) in
        let long : 0 < length (x ∷ xs) = omega arith in
        let c = short_time_or_none more h.time t few_time h.has_time in (
          inr ((d.years, (d.months, (d.weeks, d.days))), c.0),
          record { front = x ∷ xs; back = h.time; first = (short_date more (x ∷ xs) d few_date has, long); second = c.1; bytes_are = e },
          refl,
          c.2,
        )

period_numbers : Raw RawBody → Numbers
period_numbers (inl b) = numbers_of true (body_date b) (body_time b)
period_numbers (inr b) = numbers_of false (body_date b) (body_time b)

period_there : (more : ℕ) (bytes : List ℕ) (r : Raw RawBody) → IsRawPeriod more bytes r → HasPeriodForm bytes (period_numbers r)
unfolding period_numbers numbers_of
period_there more bytes (inl b) h = record { rest = h.1.0; has_body = body_there more h.1.0 b h.1.1; bytes_are = h.2 ∙ ap (λ r. 45 ∷ r) h.1.2 }
period_there more bytes (inr b) h = record { rest = h.0; has_body = body_there more h.0 b h.1; bytes_are = h.2 }

abbrev RawPeriodOf : ℕ → List ℕ → Numbers → Type 0
RawPeriodOf more bytes m = (r : Raw RawBody) × IsRawPeriod more bytes r × (period_numbers r ≡ m)

period_here : (more : ℕ) (bytes : List ℕ) (m : Numbers) → length bytes ≤ more → HasPeriodForm bytes m → RawPeriodOf more bytes m
unfolding period_numbers numbers_of
period_here more bytes m few h = at m.is_negative refl
  where
    at : (is_negative : Bool) → m.is_negative ≡ is_negative → RawPeriodOf more bytes m
    at true sign =
        let e : bytes ≡ 45 ∷ 80 ∷ h.rest = h.bytes_are ∙ ap (λ b. sign_text b ++ 80 ∷ h.rest) sign in
        let b = body_here more h.rest m.date m.time (omega (arith, few, ap length e)) h.has_body in
        (inl b.0, (80 ∷ h.rest, (h.rest, b.1, refl), e), λ i. record { is_negative = sym sign i; date = b.2 i; time = b.3 i })
    at false sign =
        let e : bytes ≡ 80 ∷ h.rest = h.bytes_are ∙ ap (λ b. sign_text b ++ 80 ∷ h.rest) sign in
        let b = body_here more h.rest m.date m.time (omega (arith, few, ap length e)) h.has_body in
        (inr b.0, (h.rest, b.1, e), λ i. record { is_negative = sym sign i; date = b.2 i; time = b.3 i })

pub period_shape : AreShapesOf HasPeriodForm (λ more. Period more End)
period_shape = from_raw IsRawPeriod (λ more. Period more End) HasPeriodForm period_numbers raw_period period_there period_here

-- ---- an exact duration
duration_numbers : Raw Four → Numbers
duration_numbers (inl c) = numbers_of true no_date (clock_of c)
duration_numbers (inr c) = numbers_of false no_date (clock_of c)

duration_there : (more : ℕ) (bytes : List ℕ) (r : Raw Four) → IsRawDuration more bytes r → HasDurationForm bytes (duration_numbers r)
unfolding duration_numbers numbers_of
duration_there more bytes (inl c) h = record {
  exact = refl;
  rest = h.1.1.0;
  has_time = some_time more h.1.1.0 c h.1.1.1;
  bytes_are = h.2 ∙ ap (λ r. 45 ∷ r) (h.1.2 ∙ ap (λ r. 80 ∷ r) h.1.1.2);
}
duration_there more bytes (inr c) h = record { exact = refl; rest = h.1.0; has_time = some_time more h.1.0 c h.1.1; bytes_are = h.2 ∙ ap (λ r. 80 ∷ r) h.1.2 }

abbrev RawDurationOf : ℕ → List ℕ → Numbers → Type 0
RawDurationOf more bytes m = (r : Raw Four) × IsRawDuration more bytes r × (duration_numbers r ≡ m)

duration_here : (more : ℕ) (bytes : List ℕ) (m : Numbers) → length bytes ≤ more → HasDurationForm bytes m → RawDurationOf more bytes m
unfolding duration_numbers numbers_of
duration_here more bytes m few h = at m.is_negative refl
  where
    at : (is_negative : Bool) → m.is_negative ≡ is_negative → RawDurationOf more bytes m
    at true sign =
        let e : bytes ≡ 45 ∷ 80 ∷ 84 ∷ h.rest = h.bytes_are ∙ ap (λ b. sign_text b ++ 80 ∷ 84 ∷ h.rest) sign in
        let c = short_time more h.rest m.time (omega (arith, few, ap length e)) h.has_time in
        (inl c.0, (80 ∷ 84 ∷ h.rest, (84 ∷ h.rest, (h.rest, c.1, refl), refl), e), λ i. record { is_negative = sym sign i; date = sym h.exact i; time = c.2 i })
    at false sign =
        let e : bytes ≡ 80 ∷ 84 ∷ h.rest = h.bytes_are ∙ ap (λ b. sign_text b ++ 80 ∷ 84 ∷ h.rest) sign in
        let c = short_time more h.rest m.time (omega (arith, few, ap length e)) h.has_time in
        (inr c.0, (84 ∷ h.rest, (h.rest, c.1, refl), e), λ i. record { is_negative = sym sign i; date = sym h.exact i; time = c.2 i })

pub duration_shape : AreShapesOf HasDurationForm (λ more. Duration more End)
duration_shape = from_raw IsRawDuration (λ more. Duration more End) HasDurationForm duration_numbers raw_duration duration_there duration_here
