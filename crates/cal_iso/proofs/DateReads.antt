-- What the scanners of a date went past.
use Rattle.std.proofs.Common.{◌≡◌, ℕ, ◌+◌, ◌-◌, ◌*◌, ◌<◌, ◌≤◌, ◌^◌, inl, inr, Bool, true, false, ℤ, pos, List, [], ◌∷◌, ◌++◌, length, Option, Some, None, refl, sym, ap, subst, ◌∙◌, arith, lit<}
use Rattle.std.specs.Prelude.{IfSome}
use Rattle.std.specs.Str.Parse.{digits_value, digits_value_after}
use Rattle.std.proofs.Math.Nat.{pow-le-pow_right}
use Rattle.std.proofs.lemmas.Int.{ints}
use Rattle.std.proofs.lemmas.Int.Digits.{digits_value-lt}
use Rattle.std.proofs.lemmas.List.{append_assoc, length-append}
use Rattle.cal_text.specs.declared.date_numbers.DateNumbers.{DateNumbers}
use Rattle.cal_text.specs.declared.date_numbers.DateNumbers.TheVariants.{Calendar, Ordinal, Week}
use Rattle.cal_text.specs.DateForms.{DigitsFit, IsPrintableYear, form_year}
use Rattle.cal_text.specs.Rfc3339Form.{sign_byte}
use Rattle.cal_text.specs.Shape.{GoesPast, ParsesDigits, ParsesMoreDigits, Scans, Shape, unmatched_bytes}
use Rattle.cal_text.proofs.ReadDigits.{all-append, more_after, one_digit, one_more, value-append}
use Rattle.cal_iso.specs.DateForm.{IsNumber, IsWeekday, IsAfterYear, HasIsoDate, signed}

pub number : (k n : ℕ) (old new : List ℕ) (h : ParsesDigits old new k n) → IsNumber k h.digits n
number k n old new h = record { all = h.all; count = h.count_is; value = sym h.value }

-- ---- a weekday
pub put_weekday : (mark : List ℕ) (b : ℕ) (old mid new : List ℕ) → old ≡ mark ++ mid → (49 ≤ b) × (b ≤ 55) × (mid ≡ b ∷ new) → GoesPast (λ bytes. IsWeekday mark bytes (b - 48)) old new
put_weekday mark b old mid new e h =
    let same : b ≡ 48 + (b - 48) = omega (arith, h.0) in
    record {
      front = mark ++ b ∷ [];
      is = inr (omega (arith, h.0), omega (arith, h.1), ap (λ x. mark ++ x ∷ []) same);
      bytes_are = e ∙ ap (λ r. mark ++ r) h.2 ∙ sym (append_assoc mark (b ∷ []) new);
    }

pub no_weekday : (mark old new : List ℕ) → new ≡ old → GoesPast (λ bytes. IsWeekday mark bytes 1) old new
no_weekday mark old new kept = record { front = []; is = inl (refl, refl); bytes_are = sym kept }

-- ---- what follows a year
pub put_week : (mark : List ℕ) (y : ℤ) (w d : ℕ) (old a b new : List ℕ) → old ≡ 87 ∷ a → ParsesDigits a b 2 w → GoesPast (λ bytes. IsWeekday mark bytes d) b new
    → GoesPast (λ bytes. IsAfterYear mark bytes (Week y w d)) old new
put_week mark y w d old a b new e h k = record {
  front = 87 ∷ (h.digits ++ k.front);
  is = record { week = h.digits; weekday = k.front; is_week = number 2 w a b h; is_weekday = k.is; bytes_are = refl };
  bytes_are = e ∙ ap (λ r. 87 ∷ r) (h.bytes_are ∙ ap (λ r. h.digits ++ r) k.bytes_are ∙ sym (append_assoc h.digits k.front new));
}

pub put_calendar : (y : ℤ) (m d : ℕ) (old start a c new : List ℕ) → start ≡ old → ParsesDigits start a 2 m → a ≡ 45 ∷ c → ParsesDigits c new 2 d
    → GoesPast (λ bytes. IsAfterYear (45 ∷ []) bytes (Calendar y m d)) old new
put_calendar y m d old start a c new kept h hyphen k = record {
  front = h.digits ++ 45 ∷ k.digits;
  is = record { month = h.digits; day = k.digits; is_month = number 2 m start a h; is_day = number 2 d c new k; bytes_are = refl };
  bytes_are = sym kept ∙ h.bytes_are ∙ ap (λ r. h.digits ++ r) (hyphen ∙ ap (λ r. 45 ∷ r) k.bytes_are) ∙ sym (append_assoc h.digits (45 ∷ k.digits) new);
}

pub put_ordinal : (mark : List ℕ) (y : ℤ) (m d : ℕ) (old start a b new : List ℕ) → start ≡ old → ParsesDigits start a 2 m → (d < 10) × (a ≡ (48 + d) ∷ b) → new ≡ b
    → GoesPast (λ bytes. IsAfterYear mark bytes (Ordinal y (m * 10 + d))) old new
put_ordinal mark y m d old start a b new kept h last end =
    let all = one_more m d 2 start a b h last.0 last.1 in
    record { front = all.digits; is = number 3 (m * 10 + d) start b all; bytes_are = sym kept ∙ all.bytes_are ∙ ap (λ r. all.digits ++ r) (sym end) }

pub put_basic : (y : ℤ) (m t l : ℕ) (old start a b new : List ℕ) → start ≡ old → ParsesDigits start a 2 m → (t < 10) × (a ≡ (48 + t) ∷ b) → (l < 10) × (b ≡ (48 + l) ∷ new)
    → GoesPast (λ bytes. IsAfterYear [] bytes (Calendar y m (t * 10 + l))) old new
put_basic y m t l old start a b new kept h third last =
    let k = one_more t l 1 a b new (one_digit t a b third.0 third.1) last.0 last.1 in
    record {
      front = h.digits ++ k.digits;
      is = record { month = h.digits; day = k.digits; is_month = number 2 m start a h; is_day = number 2 (t * 10 + l) a new k; bytes_are = refl };
      bytes_are = sym kept ∙ h.bytes_are ∙ ap (λ r. h.digits ++ r) k.bytes_are ∙ sym (append_assoc h.digits k.digits new);
    }

-- ---- up to two digits more
pub none_more : (most n : ℕ) (old new : List ℕ) → new ≡ old → ParsesMoreDigits old new most n n
none_more most n old new kept = record { digits = []; all = tt; few = omega arith; value = refl; bytes_are = sym kept }

pub one_left : (n d : ℕ) (old mid new : List ℕ) → (d < 10) × (old ≡ (48 + d) ∷ mid) → new ≡ mid → ParsesMoreDigits old new 2 n (n * 10 + d)
one_left n d old mid new first kept = more_after 2 d (n * 10 + d) n old mid new (λ e. absurd cc) first (none_more 1 (n * 10 + d) mid new kept)

pub two_left : (n d e : ℕ) (old mid new : List ℕ) → (d < 10) × (old ≡ (48 + d) ∷ mid) → (e < 10) × (mid ≡ (48 + e) ∷ new) → ParsesMoreDigits old new 2 n ((n * 10 + d) * 10 + e)
two_left n d e old mid new first second =
    more_after 2 d ((n * 10 + d) * 10 + e) n old mid new (λ e. absurd cc) first
    (more_after 1 e ((n * 10 + d) * 10 + e) (n * 10 + d) mid new new (λ e. absurd cc) second (none_more 0 ((n * 10 + d) * 10 + e) new new refl))

-- ---- a year and the rest
pub extended_past : (r : Option DateNumbers) (n : ℕ) (y : ℤ) (old a b new : List ℕ) → ParsesDigits old a 4 n → y ≡ pos n → a ≡ 45 ∷ b
    → IfSome r (λ f. GoesPast (λ bytes. IsAfterYear (45 ∷ []) bytes f) b new) → IfSome r (λ f. form_year f ≡ y) → IfSome r (λ f. GoesPast (λ bytes. HasIsoDate bytes f) old new)
extended_past None n y old a b new h same hyphen rest year = tt
extended_past (Some f) n y old a b new h same hyphen rest year = record {
  front = h.digits ++ 45 ∷ rest.front;
  is = inl (record { year = h.digits; rest = rest.front; is_year = inl (n, number 4 n old a h, year ∙ same); is_rest = rest.is; bytes_are = refl });
  bytes_are = h.bytes_are ∙ ap (λ r. h.digits ++ r) (hyphen ∙ ap (λ r. 45 ∷ r) rest.bytes_are) ∙ sym (append_assoc h.digits (45 ∷ rest.front) new);
}

pub basic_past : (r : Option DateNumbers) (n : ℕ) (y : ℤ) (old a b new : List ℕ) → ParsesDigits old a 4 n → y ≡ pos n → b ≡ a
    → IfSome r (λ f. GoesPast (λ bytes. IsAfterYear [] bytes f) b new) → IfSome r (λ f. form_year f ≡ y) → IfSome r (λ f. GoesPast (λ bytes. HasIsoDate bytes f) old new)
basic_past None n y old a b new h same kept rest year = tt
basic_past (Some f) n y old a b new h same kept rest year = record {
  front = h.digits ++ rest.front;
  is = inr (record { year = h.digits; rest = rest.front; is_year = (n, number 4 n old a h, year ∙ same); is_rest = rest.is; bytes_are = refl });
  bytes_are = h.bytes_are ∙ ap (λ r. h.digits ++ r) (sym kept ∙ rest.bytes_are) ∙ sym (append_assoc h.digits rest.front new);
}

pub expanded_past : (is_negative : Bool) (r : Option DateNumbers) (n m : ℕ) (y : ℤ) (old a b c new : List ℕ) → ParsesDigits old a 4 n → ParsesMoreDigits a b 2 n m → y ≡ signed is_negative m → b ≡ 45 ∷ c
    → IfSome r (λ f. GoesPast (λ bytes. IsAfterYear (45 ∷ []) bytes f) c new) → IfSome r (λ f. form_year f ≡ y)
    → IfSome r (λ f. GoesPast (λ bytes. HasIsoDate (sign_byte is_negative ∷ bytes) f) old new)
expanded_past s None n m y old a b c new h k same hyphen rest year = tt
expanded_past s (Some f) n m y old a b c new h k same hyphen rest year =
    let all = h.digits ++ k.digits in
    let value : digits_value 10 all ≡ m = value-append 0 h.digits k.digits ∙ ap (λ v. digits_value_after 10 v k.digits) h.value ∙ k.value in
    record {
      front = all ++ 45 ∷ rest.front;
      is = inl (record {
        year = sign_byte s ∷ all;
        rest = rest.front;
        is_year = inr (record {
          is_negative = s;
          digits = all;
          all = all-append h.digits k.digits h.all k.all;
          least = omega (arith, length-append h.digits k.digits, h.count_is);
          most = omega (arith, length-append h.digits k.digits, h.count_is, k.few);
          bytes_are = refl;
          value = year ∙ same ∙ ap (signed s) (sym value);
        });
        is_rest = rest.is;
        bytes_are = refl;
      });
      bytes_are = h.bytes_are ∙ ap (λ r. h.digits ++ r) (k.bytes_are ∙ ap (λ r. k.digits ++ r) (hyphen ∙ ap (λ r. 45 ∷ r) rest.bytes_are))
          ∙ sym (append_assoc h.digits k.digits (45 ∷ (rest.front ++ new))) ∙ sym (append_assoc all (45 ∷ rest.front) new);
    }

-- ---- where a scanner stops
pub through : {V : Type 0} (part part' : Shape → Shape) (r : Option V) (old mid new : List ℕ) → ((f : Shape) → unmatched_bytes (part f) old ≡ unmatched_bytes (part' f) mid)
    → Scans part' mid new r → Scans part old new r
through part part' (Some v) old mid new e h = λ f. e f ∙ h f
through part part' None old mid new e h = λ f. e f ∙ h f

-- ---- numbers fit
below : (k n : ℕ) (bytes : List ℕ) → IsNumber k bytes n → n < 10 ^ k
below k n bytes h = omega (arith, digits_value-lt 10 bytes h.all, ap (λ k. 10 ^ k) h.count, h.value)

pub expanded_fits : (s : Bool) (n : ℕ) → n < 1000000 → IsPrintableYear (signed s n)
expanded_fits true n h = omega (arith, ints)
expanded_fits false n h = omega (arith, ints)

year_fits : (bytes : List ℕ) (f : DateNumbers) → HasIsoDate bytes f → IsPrintableYear (form_year f)
year_fits bytes f (inl h) = elim h.is_year as (λ _. IsPrintableYear (form_year f)) [
  | inl year ↦ subst IsPrintableYear (sym year.2) (omega (arith, below 4 year.0 h.year year.1))
  | inr year ↦
      let few : 10 ^ length year.digits ≤ 10 ^ 6 = pow-le-pow_right (lit< tt) year.most in
      let small : digits_value 10 year.digits < 1000000 = omega (arith, digits_value-lt 10 year.digits year.all, few) in
      subst IsPrintableYear (sym year.value) (expanded_fits year.is_negative (digits_value 10 year.digits) small)
]
year_fits bytes f (inr h) = subst IsPrintableYear (sym h.is_year.2) (omega (arith, below 4 h.is_year.0 h.year h.is_year.1))

weekday_fits : (mark bytes : List ℕ) (d : ℕ) → IsWeekday mark bytes d → (1 ≤ d) × (d ≤ 7)
weekday_fits mark bytes d (inl none) = (omega (arith, none.1), omega (arith, none.1))
weekday_fits mark bytes d (inr is) = (is.0, is.1)

rest_fits : (mark bytes : List ℕ) (f : DateNumbers) → IsPrintableYear (form_year f) → IsAfterYear mark bytes f → DigitsFit f
rest_fits mark bytes (Calendar y m d) year h = (year, omega (arith, below 2 m h.month h.is_month), omega (arith, below 2 d h.day h.is_day))
rest_fits mark bytes (Ordinal y o) year h = (year, omega (arith, below 3 o bytes h))
rest_fits mark bytes (Week y w d) year h = let range = weekday_fits mark h.weekday d h.is_weekday in (year, omega (arith, below 2 w h.week h.is_week), range.0, range.1)

pub fits : (bytes : List ℕ) (f : DateNumbers) → HasIsoDate bytes f → DigitsFit f
fits bytes f (inl h) = rest_fits (45 ∷ []) h.rest f (year_fits bytes f (inl h)) h.is_rest
fits bytes f (inr h) = rest_fits [] h.rest f (year_fits bytes f (inr h)) h.is_rest
