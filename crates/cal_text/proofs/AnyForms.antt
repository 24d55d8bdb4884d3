-- The value and the error of a text of one shape: only the form of this shape is left.
use Rattle.std.proofs.Common.{◌≡◌, ◌⊎◌, ◌↔◌, ℕ, ℤ, List, get_or, ap, inl, inr, arith}
use Rattle.cal_time.specs.Date.{IsDate}
use Rattle.cal_time.specs.declared.error.ComponentRange.{ComponentRange}
use Rattle.cal_datetime.specs.OffsetDateTime.{LocalAndOffset}
use Rattle.cal_text.specs.declared.any.DateOrMoment.{DateOrMoment}
use Rattle.cal_text.specs.declared.any.DateOrMoment.TheVariants.{Date, Moment}
use Rattle.cal_text.specs.declared.any.DateForm.TheVariants.{Calendar, Ordinal, Week, JulianDay}
use Rattle.cal_text.specs.declared.any.MomentForm.TheVariants.{Rfc3339, Unix}
use Rattle.cal_text.specs.declared.date_numbers.DateNumbers.{DateNumbers}
use Rattle.cal_text.specs.declared.rfc3339.numbers.Numbers.{Numbers}
use Rattle.cal_text.specs.AnyForm.{IsTextOf, date_form_of, HasAnyForm, IsDateOrMomentError}
use Rattle.cal_text.specs.DateForms.{HasForm}
use Rattle.cal_text.specs.Parsing.{HasError, IsDateError}
use Rattle.cal_text.specs.JulianForm.{IsJulianForm, julian_text, IsJulianDayError}
use Rattle.cal_text.specs.Rfc3339Form.{IsSeparator, IsMomentText, HasMomentForm, IsMomentError}
use Rattle.cal_text.specs.UnixText.{IsUnixText, HasUnixForm, IsUnixTimeError}
use Rattle.cal_text.proofs.DayForms.{HasOnDay, calendar-of, ordinal-of, week-of}
use Rattle.cal_text.proofs.Shapes.{IsNoOther, date-shape, day-shape, moment-shape, julian-first, unix-first}

-- one of four
pub of_four : {R A B C D : Type 0} → A ⊎ B ⊎ C ⊎ D → (A → R) → (B → R) → (C → R) → (D → R) → R
of_four (inl h) a b c d = a h
of_four (inr (inl h)) a b c d = b h
of_four (inr (inr (inl h))) a b c d = c h
of_four (inr (inr (inr h))) a b c d = d h

-- What is said of one form is said of any, if the text has no other.
pub no_any : {F Any N : Type 0} {Has : F → Type 0} → N ↔ ((f : F) → ¬ Has f) → (Any → (f : F) × Has f) → ((f : F) × Has f → Any) → N ↔ ¬ Any
no_any is to from = (λ n any. let h = to any in is.0 n h.0 h.1, λ none. is.1 (λ f h. none (from (f, h))))

pub same_error : {P A B : Type 0} → P ↔ A → (B → A) → (A → B) → P ↔ B
same_error is to from = (λ p. from (is.0 p), λ b. is.1 (to b))

-- ---- the forms
abbrev SomeForm : List ℕ → Type 0
SomeForm bytes = (f : DateNumbers) × HasForm bytes f

abbrev SomeMoment : List ℕ → Type 0
SomeMoment bytes = (m : Numbers) × HasMomentForm bytes m

abbrev SomeJulian : List ℕ → Type 0
SomeJulian bytes = (j : ℤ) × IsJulianForm bytes j

abbrev SomeUnix : List ℕ → Type 0
SomeUnix bytes = (v : ℤ) × HasUnixForm bytes v

-- ---- a letter J at the front
julian-date : {R : Type 0} (bytes : List ℕ) → get_or bytes 0 0 ≡ 74 → SomeForm bytes → R
julian-date bytes first h = absurd ((date-shape bytes h.0 h.1).first.0 first)

julian-moment : {R : Type 0} (bytes : List ℕ) → get_or bytes 0 0 ≡ 74 → SomeMoment bytes → R
julian-moment bytes first h = absurd ((moment-shape bytes h.0 h.1).first.0 first)

julian-unix : {R : Type 0} (bytes : List ℕ) (v : ℤ) → get_or bytes 0 0 ≡ 74 → HasUnixForm bytes v → R
julian-unix bytes v first h = absurd (omega (arith, first, unix-first bytes v h))

pub julian-found : (bytes : List ℕ) (P : DateOrMoment → Type 0) → get_or bytes 0 0 ≡ 74 → ((n : ℕ) → IsDate n → bytes ≡ julian_text n → P (Date JulianDay n))
    → (found : DateOrMoment) → IsTextOf bytes found → P found
julian-found bytes P first at (Date Calendar n) is = absurd ((day-shape bytes n is.0 (inl is.1)).first.0 first)
julian-found bytes P first at (Date Ordinal n) is = absurd ((day-shape bytes n is.0 (inr (inl is.1))).first.0 first)
julian-found bytes P first at (Date Week n) is = absurd ((day-shape bytes n is.0 (inr (inr is.1))).first.0 first)
julian-found bytes P first at (Date JulianDay n) is = at n is.0 is.1
julian-found bytes P first at (Moment Rfc3339 m) is = julian-moment bytes first (is.0, is.1)
julian-found bytes P first at (Moment Unix m) is = julian-unix bytes _ first is.form

pub julian-any : (bytes : List ℕ) → get_or bytes 0 0 ≡ 74 → HasAnyForm bytes → SomeJulian bytes
julian-any bytes first is = of_four is (julian-date bytes first) (λ h. h) (julian-moment bytes first) (λ h. julian-unix bytes h.0 first h.1)

pub julian-error : (bytes : List ℕ) (why : ComponentRange) → get_or bytes 0 0 ≡ 74 → IsDateOrMomentError bytes why → HasError IsJulianForm IsJulianDayError bytes why
julian-error bytes why first is = of_four is (λ h. julian-date bytes first (h.0, h.1)) (λ h. h) (λ h. julian-moment bytes first (h.0, h.1)) (λ h. julian-unix bytes h.0 first h.1)

-- ---- an @ at the front
unix-date : {R : Type 0} (bytes : List ℕ) → get_or bytes 0 0 ≡ 64 → SomeForm bytes → R
unix-date bytes first h = absurd ((date-shape bytes h.0 h.1).first.1 first)

unix-moment : {R : Type 0} (bytes : List ℕ) → get_or bytes 0 0 ≡ 64 → SomeMoment bytes → R
unix-moment bytes first h = absurd ((moment-shape bytes h.0 h.1).first.1 first)

unix-julian : {R : Type 0} (bytes : List ℕ) (j : ℤ) → get_or bytes 0 0 ≡ 64 → IsJulianForm bytes j → R
unix-julian bytes j first h = absurd (omega (arith, first, julian-first bytes j h))

unix-day : {R : Type 0} (bytes : List ℕ) (n : ℕ) → get_or bytes 0 0 ≡ 64 → bytes ≡ julian_text n → R
unix-day bytes n first e = absurd (omega (arith, first, ap (λ all. get_or all 0 0) e))

pub unix-found : (bytes : List ℕ) (P : DateOrMoment → Type 0) → get_or bytes 0 0 ≡ 64 → ((m : LocalAndOffset) → IsUnixText bytes m → P (Moment Unix m))
    → (found : DateOrMoment) → IsTextOf bytes found → P found
unix-found bytes P first at (Date Calendar n) is = absurd ((day-shape bytes n is.0 (inl is.1)).first.1 first)
unix-found bytes P first at (Date Ordinal n) is = absurd ((day-shape bytes n is.0 (inr (inl is.1))).first.1 first)
unix-found bytes P first at (Date Week n) is = absurd ((day-shape bytes n is.0 (inr (inr is.1))).first.1 first)
unix-found bytes P first at (Date JulianDay n) is = unix-day bytes n first is.1
unix-found bytes P first at (Moment Rfc3339 m) is = unix-moment bytes first (is.0, is.1)
unix-found bytes P first at (Moment Unix m) is = at m is

pub unix-any : (bytes : List ℕ) → get_or bytes 0 0 ≡ 64 → HasAnyForm bytes → SomeUnix bytes
unix-any bytes first is = of_four is (unix-date bytes first) (λ h. unix-julian bytes h.0 first h.1) (unix-moment bytes first) (λ h. h)

pub unix-error : (bytes : List ℕ) (why : ComponentRange) → get_or bytes 0 0 ≡ 64 → IsDateOrMomentError bytes why → HasError HasUnixForm IsUnixTimeError bytes why
unix-error bytes why first is = of_four is (λ h. unix-date bytes first (h.0, h.1)) (λ h. unix-julian bytes h.0 first h.1) (λ h. unix-moment bytes first (h.0, h.1)) (λ h. h)

-- ---- a separator at 10
moment-date : {R : Type 0} (bytes : List ℕ) → IsSeparator (get_or bytes 10 0) → SomeForm bytes → R
moment-date bytes sep h = absurd ((date-shape bytes h.0 h.1).separator sep)

other-julian : {R : Type 0} (bytes : List ℕ) (j : ℤ) → IsNoOther bytes → IsJulianForm bytes j → R
other-julian bytes j first h = absurd (first.0 (julian-first bytes j h))

other-day : {R : Type 0} (bytes : List ℕ) (n : ℕ) → IsNoOther bytes → bytes ≡ julian_text n → R
other-day bytes n first e = absurd (first.0 (ap (λ all. get_or all 0 0) e))

other-unix : {R : Type 0} (bytes : List ℕ) (v : ℤ) → IsNoOther bytes → HasUnixForm bytes v → R
other-unix bytes v first h = absurd (first.1 (unix-first bytes v h))

pub moment-found : (bytes : List ℕ) (P : DateOrMoment → Type 0) → IsNoOther bytes → IsSeparator (get_or bytes 10 0)
    → ((m : LocalAndOffset) → IsMomentText bytes m → P (Moment Rfc3339 m)) → (found : DateOrMoment) → IsTextOf bytes found → P found
moment-found bytes P first sep at (Date Calendar n) is = absurd ((day-shape bytes n is.0 (inl is.1)).separator sep)
moment-found bytes P first sep at (Date Ordinal n) is = absurd ((day-shape bytes n is.0 (inr (inl is.1))).separator sep)
moment-found bytes P first sep at (Date Week n) is = absurd ((day-shape bytes n is.0 (inr (inr is.1))).separator sep)
moment-found bytes P first sep at (Date JulianDay n) is = other-day bytes n first is.1
moment-found bytes P first sep at (Moment Rfc3339 m) is = at m is
moment-found bytes P first sep at (Moment Unix m) is = other-unix bytes _ first is.form

pub moment-any : (bytes : List ℕ) → IsNoOther bytes → IsSeparator (get_or bytes 10 0) → HasAnyForm bytes → SomeMoment bytes
moment-any bytes first sep is = of_four is (moment-date bytes sep) (λ h. other-julian bytes h.0 first h.1) (λ h. h) (λ h. other-unix bytes h.0 first h.1)

pub moment-error : (bytes : List ℕ) (why : ComponentRange) → IsNoOther bytes → IsSeparator (get_or bytes 10 0) → IsDateOrMomentError bytes why → HasError HasMomentForm IsMomentError bytes why
moment-error bytes why first sep is = of_four is (λ h. moment-date bytes sep (h.0, h.1)) (λ h. other-julian bytes h.0 first h.1) (λ h. h) (λ h. other-unix bytes h.0 first h.1)

-- ---- none of these
date-moment : {R : Type 0} (bytes : List ℕ) → ¬ IsSeparator (get_or bytes 10 0) → SomeMoment bytes → R
date-moment bytes none h = absurd (none (moment-shape bytes h.0 h.1).separator)

pub date-found : (bytes : List ℕ) (P : DateOrMoment → Type 0) → IsNoOther bytes → ¬ IsSeparator (get_or bytes 10 0)
    → ((f : DateNumbers) (n : ℕ) → IsDate n → HasOnDay bytes f n → P (Date (date_form_of f) n)) → (found : DateOrMoment) → IsTextOf bytes found → P found
date-found bytes P first none at (Date Calendar n) is = at _ n is.0 (calendar-of bytes n is.0 is.1)
date-found bytes P first none at (Date Ordinal n) is = at _ n is.0 (ordinal-of bytes n is.0 is.1)
date-found bytes P first none at (Date Week n) is = at _ n is.0 (week-of bytes n is.0 is.1)
date-found bytes P first none at (Date JulianDay n) is = other-day bytes n first is.1
date-found bytes P first none at (Moment Rfc3339 m) is = date-moment bytes none (is.0, is.1)
date-found bytes P first none at (Moment Unix m) is = other-unix bytes _ first is.form

pub date-any : (bytes : List ℕ) → IsNoOther bytes → ¬ IsSeparator (get_or bytes 10 0) → HasAnyForm bytes → SomeForm bytes
date-any bytes first none is = of_four is (λ h. h) (λ h. other-julian bytes h.0 first h.1) (date-moment bytes none) (λ h. other-unix bytes h.0 first h.1)

pub date-error : (bytes : List ℕ) (why : ComponentRange) → IsNoOther bytes → ¬ IsSeparator (get_or bytes 10 0) → IsDateOrMomentError bytes why → HasError HasForm IsDateError bytes why
date-error bytes why first none is = of_four is (λ h. h) (λ h. other-julian bytes h.0 first h.1) (λ h. date-moment bytes none (h.0, h.1)) (λ h. other-unix bytes h.0 first h.1)
