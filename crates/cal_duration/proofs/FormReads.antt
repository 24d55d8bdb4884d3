-- Dates and times, from what the parsers went past.
use Rattle.std.proofs.Common.{◌≡◌, ◌≤◌, ℕ, List, [], ◌∷◌, ◌++◌, length, refl, sym, ap, subst, ◌∙◌, arith, inl, inr, Some, None}
use Rattle.std.proofs.lemmas.List.{append_assoc, append-nil, length-append}
use Rattle.std.specs.Prelude.{Option}
use Rattle.cal_text.specs.Shape.{Branch, GoesPast, Shape, unmatched_bytes}
use Rattle.cal_duration.specs.DurationShape.{Body, Date, OrTime, ScansPart}
use Rattle.cal_duration.specs.declared.numbers.DateNumbers.{DateNumbers}
use Rattle.cal_duration.specs.declared.numbers.TimeNumbers.{TimeNumbers}
use Rattle.cal_duration.specs.PartsRead.{AreParts, PartsRead}
use Rattle.cal_duration.specs.Form.{IsNumber, IsPart, IsSecondsEnd, HasSeconds, AreSeconds, HasClock, HasTime, HasDate, HasTimeOrNone, HasBody, no_date}
use Rattle.cal_duration.proofs.Shapes.{no_dates}

-- ---- hours, minutes and seconds
-- Parts of hours and minutes, and seconds after them.
clock_of : (bytes parts last : List ℕ) (t : TimeNumbers) → AreParts (72 ∷ 77 ∷ []) parts (t.hours ∷ t.minutes ∷ []) → AreSeconds last t.seconds t.nanoseconds → bytes ≡ parts ++ last → HasClock bytes t
clock_of bytes parts last t (hours, rest, are_hours, (minutes, none, are_minutes, nothing, f), e) seconds g =
    let tail : rest ≡ minutes = f ∙ ap (λ r. minutes ++ r) nothing.0 ∙ append-nil minutes in
    record {
      hours = hours;
      minutes = minutes;
      seconds = last;
      are_hours = are_hours;
      are_minutes = are_minutes;
      are_seconds = seconds;
      bytes_are = g ∙ ap (λ r. r ++ last) (e ∙ ap (λ r. hours ++ r) tail) ∙ append_assoc hours minutes last;
    }

pub time_with_seconds : (t : TimeNumbers) (numbers : List ℕ) (first s n : ℕ) (old mid rest new : List ℕ) → GoesPast (λ digits. IsNumber digits first) old mid
    → ((digits : List ℕ) → IsNumber digits first → PartsRead (72 ∷ 77 ∷ []) numbers (Some s) (digits ++ mid) rest) → GoesPast (λ bytes. IsSecondsEnd bytes n) rest new
    → numbers ≡ t.hours ∷ t.minutes ∷ [] → t.seconds ≡ s → t.nanoseconds ≡ n → GoesPast (λ bytes. HasTime bytes t) old new
time_with_seconds t numbers first s n old mid rest new number parts end are seconds nanoseconds =
    let read = parts number.front number.is in
    let last = read.digits ++ end.front in
    let some : IsNumber read.digits t.seconds = subst (IsNumber read.digits) (sym seconds) read.number in
    let ends : IsSecondsEnd end.front t.nanoseconds = subst (IsSecondsEnd end.front) (sym nanoseconds) end.is in
    let whole : old ≡ (read.parts ++ last) ++ new = number.bytes_are ∙ read.bytes_are ∙ ap (λ r. read.parts ++ (read.digits ++ r)) end.bytes_are
    ∙ ap (λ r. read.parts ++ r) (sym (append_assoc read.digits end.front new)) ∙ sym (append_assoc read.parts last new) in
    let is : HasSeconds last t.seconds t.nanoseconds = record { digits = read.digits; fraction = ends.0; is_number = some; is_fraction = ends.1; bytes_are = ap (λ r. read.digits ++ r) ends.2 } in
    record {
      front = read.parts ++ last;
      is = (
        clock_of (read.parts ++ last) read.parts last t (subst (AreParts (72 ∷ 77 ∷ []) read.parts) are read.are) (inr is) refl,
        omega (arith, length-append read.parts last, ap length ends.2, length-append read.digits end.front, length-append ends.0 (83 ∷ [])),
      );
      bytes_are = whole;
    }

pub time_without_seconds : (t : TimeNumbers) (numbers : List ℕ) (first : ℕ) (old mid rest : List ℕ) → GoesPast (λ digits. IsNumber digits first) old mid
    → ((digits : List ℕ) → IsNumber digits first → PartsRead (72 ∷ 77 ∷ []) numbers None (digits ++ mid) rest)
    → length rest ≤ length mid → numbers ≡ t.hours ∷ t.minutes ∷ [] → t.seconds ≡ 0 → t.nanoseconds ≡ 0 → GoesPast (λ bytes. HasTime bytes t) old rest
time_without_seconds t numbers first old mid rest number parts shorter are seconds nanoseconds =
    let read = parts number.front number.is in
    let whole : old ≡ read.parts ++ rest = number.bytes_are ∙ read.bytes_are ∙ ap (λ r. read.parts ++ (r ++ rest)) read.number in
    record {
      front = read.parts;
      is = (
        clock_of read.parts read.parts [] t (subst (AreParts (72 ∷ 77 ∷ []) read.parts) are read.are) (inl (refl, seconds, nanoseconds)) (sym (append-nil read.parts)),
        omega (arith, number.is.some, ap length number.bytes_are, length-append number.front mid, ap length whole, length-append read.parts rest, shorter),
      );
      bytes_are = whole;
    }

-- ---- years, months, weeks and days
date_of : (bytes parts last : List ℕ) (d : DateNumbers) → AreParts (89 ∷ 77 ∷ 87 ∷ []) parts (d.years ∷ d.months ∷ d.weeks ∷ []) → IsPart 68 last d.days → bytes ≡ parts ++ last → HasDate bytes d
date_of bytes parts last d (years, rest, are_years, (months, more, are_months, (weeks, none, are_weeks, nothing, g), f), e) days h =
    let tail : more ≡ weeks = g ∙ ap (λ r. weeks ++ r) nothing.0 ∙ append-nil weeks in
    record {
      years = years;
      months = months;
      weeks = weeks;
      days = last;
      are_years = are_years;
      are_months = are_months;
      are_weeks = are_weeks;
      are_days = days;
      bytes_are = h ∙ ap (λ r. r ++ last) (e ∙ ap (λ r. years ++ r) (f ∙ ap (λ r. months ++ r) tail)) ∙ append_assoc years (months ++ weeks) last
          ∙ ap (λ r. years ++ r) (append_assoc months weeks last);
    }

pub body_with_days : (d : DateNumbers) (t : TimeNumbers) (numbers : List ℕ) (first n : ℕ) (old mid rest further new : List ℕ) → GoesPast (λ digits. IsNumber digits first) old mid
    → ((digits : List ℕ) → IsNumber digits first → PartsRead (89 ∷ 77 ∷ 87 ∷ []) numbers (Some n) (digits ++ mid) rest) → rest ≡ 68 ∷ further → GoesPast (λ bytes. HasTimeOrNone bytes t) further new
    → numbers ≡ d.years ∷ d.months ∷ d.weeks ∷ [] → d.days ≡ n → GoesPast (λ bytes. HasBody bytes d t) old new
body_with_days d t numbers first n old mid rest further new number parts byte time are days =
    let read = parts number.front number.is in
    let last = read.digits ++ 68 ∷ [] in
    let part : IsPart 68 last d.days = inr (read.digits, subst (IsNumber read.digits) (sym days) read.number, refl) in
    record {
      front = (read.parts ++ last) ++ time.front;
      is = record {
        date = read.parts ++ last;
        time = time.front;
        has_date = date_of (read.parts ++ last) read.parts last d (subst (AreParts (89 ∷ 77 ∷ 87 ∷ []) read.parts) are read.are) part refl;
        has_time = time.is;
        some = omega (arith, length-append (read.parts ++ last) time.front, length-append read.parts last, length-append read.digits (68 ∷ []));
        bytes_are = refl;
      };
      bytes_are = number.bytes_are ∙ read.bytes_are ∙ ap (λ r. read.parts ++ (read.digits ++ r)) (byte ∙ ap (λ r. 68 ∷ r) time.bytes_are)
          ∙ ap (λ r. read.parts ++ r) (sym (append_assoc read.digits (68 ∷ []) (time.front ++ new))) ∙ sym (append_assoc read.parts last (time.front ++ new))
          ∙ sym (append_assoc (read.parts ++ last) time.front new);
    }

pub body_without_days : (d : DateNumbers) (t : TimeNumbers) (numbers : List ℕ) (first : ℕ) (old mid rest new : List ℕ) → GoesPast (λ digits. IsNumber digits first) old mid
    → ((digits : List ℕ) → IsNumber digits first → PartsRead (89 ∷ 77 ∷ 87 ∷ []) numbers None (digits ++ mid) rest) → length rest ≤ length mid
    → GoesPast (λ bytes. HasTimeOrNone bytes t) rest new → numbers ≡ d.years ∷ d.months ∷ d.weeks ∷ [] → d.days ≡ 0 → GoesPast (λ bytes. HasBody bytes d t) old new
body_without_days d t numbers first old mid rest new number parts shorter time are days =
    let read = parts number.front number.is in
    let whole : old ≡ read.parts ++ rest = number.bytes_are ∙ read.bytes_are ∙ ap (λ r. read.parts ++ (r ++ rest)) read.number in
    record {
      front = read.parts ++ time.front;
      is = record {
        date = read.parts;
        time = time.front;
        has_date = date_of read.parts read.parts [] d (subst (AreParts (89 ∷ 77 ∷ 87 ∷ []) read.parts) are read.are) (inl (refl, days)) (sym (append-nil read.parts));
        has_time = time.is;
        some = omega (
          arith,
          number.is.some,
          ap length number.bytes_are,
          length-append number.front mid,
          ap length whole,
          length-append read.parts rest,
          shorter,
          length-append read.parts time.front,
        );
        bytes_are = refl;
      };
      bytes_are = whole ∙ ap (λ r. read.parts ++ r) time.bytes_are ∙ sym (append_assoc read.parts time.front new);
    }

-- ---- a time alone, and the letter T before one
pub body_of_time : (t : TimeNumbers) (old mid new : List ℕ) → old ≡ 84 ∷ mid → GoesPast (λ bytes. HasTime bytes t) mid new → GoesPast (λ bytes. HasBody bytes no_date t) old new
body_of_time t old mid new byte time = record {
  front = 84 ∷ time.front;
  is = record {
    date = [];
    time = 84 ∷ time.front;
    has_date = no_dates;
    has_time = inr (time.front, time.is, refl);
    some = omega arith;
    bytes_are = refl;
  };
  bytes_are = byte ∙ ap (λ r. 84 ∷ r) time.bytes_are;
}

pub time_after : (t : TimeNumbers) (old mid new : List ℕ) → old ≡ 84 ∷ mid → GoesPast (λ bytes. HasTime bytes t) mid new → GoesPast (λ bytes. HasTimeOrNone bytes t) old new
time_after t old mid new byte time = record { front = 84 ∷ time.front; is = inr (time.front, time.is, refl); bytes_are = byte ∙ ap (λ r. 84 ∷ r) time.bytes_are }

-- nothing
pub time_left_out : (t : TimeNumbers) (old new : List ℕ) → new ≡ old → 0 ∷ 0 ∷ [] ≡ t.hours ∷ t.minutes ∷ [] → t.seconds ≡ 0 → t.nanoseconds ≡ 0
    → GoesPast (λ bytes. HasTimeOrNone bytes t) old new
time_left_out t old new kept are seconds nanoseconds =
    let hours : 0 ≡ t.hours = cc in
    let minutes : 0 ≡ t.minutes = cc in
    record {
      front = [];
      is = inl (refl, λ i. record { hours = sym hours i; minutes = sym minutes i; seconds = seconds i; nanoseconds = nanoseconds i });
      bytes_are = sym kept;
    }

-- no time alone, but a date
pub body_of_date : {V : Type 0} (r : Option V) (old mid new : List ℕ) → ((f g : Shape) → unmatched_bytes (Branch 84 0 f g) old ≡ unmatched_bytes g mid) → mid ≡ old
    → ScansPart (λ more f. Date more (OrTime more f)) mid new r → ScansPart Body old new r
body_of_date (Some v) old mid new byte kept h = λ more few f. byte _ _ ∙ h more (omega (arith, few, ap length kept)) f
body_of_date None old mid new byte kept h = λ more few f. byte _ _ ∙ h more (omega (arith, few, ap length kept)) f
