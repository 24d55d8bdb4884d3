-- The first byte and the byte at 10 decide between the forms of a text.
use Rattle.std.proofs.Common.{◌≡◌, ◌≢◌, ◌⊎◌, ℕ, zero, suc, ◌<◌, ◌≤◌, ◌^◌, ℤ, pos, negsuc, List, [], ◌∷◌, ◌++◌, length, get_or, refl, sym, ap, subst, ◌∙◌, arith, lit<, inl, inr}
use Rattle.std.specs.Str.Parse.{AllDigits}
use Rattle.std.proofs.lemmas.Bool.{cases_lt}
use Rattle.std.proofs.lemmas.List.{append_assoc, length-append, get_or_append_left, get_or_at}
use Rattle.std.proofs.lemmas.Str.Parse.{digit_at}
use Rattle.cal_time.specs.Date.{IsDate}
use Rattle.cal_time.specs.DateText.{digits_at_least, date_digits}
use Rattle.cal_time.proofs.DistinctTexts.{digits_at_least-digits, year-plain, year-plus}
use Rattle.cal_text.specs.declared.date_numbers.DateNumbers.{DateNumbers}
use Rattle.cal_text.specs.declared.date_numbers.DateNumbers.TheVariants.{Calendar, Ordinal, Week}
use Rattle.cal_text.specs.declared.rfc3339.numbers.Numbers.{Numbers}
use Rattle.cal_text.specs.DateForms.{year_text, form_text, form_rest, form_year, IsPrintableYear, DigitsFit, HasForm, IsDateText}
use Rattle.cal_text.specs.JulianForm.{IsJulianForm}
use Rattle.cal_text.specs.Rfc3339Form.{IsSeparator, HasMomentForm, clock_digits}
use Rattle.cal_text.specs.UnixText.{HasUnixForm}
use Rattle.cal_text.proofs.DayForms.{form-of-day}
use Rattle.cal_text.proofs.DigitTexts.{digits_at_least-length}

-- ---- the bytes of a date, and 0 past their end
abbrev IsDateByte : ℕ → Type 0
IsDateByte b = (b ≡ 0) ⊎ ((43 ≤ b) × (b ≤ 57)) ⊎ (b ≡ 87)

abbrev AreDateBytes : List ℕ → Type 0
AreDateBytes bytes = (i : ℕ) → IsDateByte (get_or bytes i 0)

none-date : AreDateBytes []
none-date zero = inl refl
none-date (suc i) = inl refl

more-date : (b : ℕ) (bytes : List ℕ) → IsDateByte b → AreDateBytes bytes → AreDateBytes (b ∷ bytes)
more-date b bytes first rest zero = first
more-date b bytes first rest (suc i) = rest i

both-date : (xs ys : List ℕ) → AreDateBytes xs → AreDateBytes ys → AreDateBytes (xs ++ ys)
both-date [] ys a b = b
both-date (x ∷ xs) ys a b = more-date x (xs ++ ys) (a 0) (both-date xs ys (λ i. a (suc i)) b)

digits-date : (ds : List ℕ) → AllDigits 10 ds → AreDateBytes ds
digits-date [] h = none-date
digits-date (d ∷ ds) h =
    let range = digit_at (d ∷ ds) 0 h (omega arith) in
    more-date d ds (inr (inl (omega (arith, range.0), omega (arith, range.1)))) (digits-date ds h.1)

number-date : (width n : ℕ) → n < 10 ^ 9 → AreDateBytes (digits_at_least width n)
number-date width n small = digits-date (digits_at_least width n) (digits_at_least-digits width n small)

hyphen-date : AreDateBytes (45 ∷ [])
hyphen-date = more-date 45 [] (inr (inl (omega arith, omega arith))) none-date

year-date : (y : ℤ) → IsPrintableYear y → AreDateBytes (year_text y)
year-date (pos n) small =
    elim (cases_lt 9999 n) as (λ _. AreDateBytes (year_text (pos n))) [
      | inl many ↦ subst AreDateBytes (sym (year-plus n many)) (more-date 43 _ (inr (inl (omega arith, omega arith))) (number-date 4 n small))
      | inr few ↦ subst AreDateBytes (sym (year-plain n few)) (number-date 4 n small)
    ]
year-date (negsuc k) small = more-date 45 _ (inr (inl (omega arith, omega arith))) (number-date 4 (suc k) small)

written : (f : DateNumbers) → DigitsFit f → IsPrintableYear (form_year f)
written (Calendar y m d) h = h.0
written (Ordinal y o) h = h.0
written (Week y w d) h = h.0

rest-date : (f : DateNumbers) → DigitsFit f → AreDateBytes (form_rest f)
rest-date (Calendar y m d) h =
    both-date (digits_at_least 2 m ++ 45 ∷ []) (digits_at_least 2 d)
    (both-date (digits_at_least 2 m) (45 ∷ []) (number-date 2 m (omega (arith, h.1))) hyphen-date)
    (number-date 2 d (omega (arith, h.2)))
rest-date (Ordinal y o) h = number-date 3 o (omega (arith, h.1))
rest-date (Week y w d) h =
    both-date ((87 ∷ []) ++ digits_at_least 2 w ++ 45 ∷ []) (digits_at_least 1 d)
    (both-date ((87 ∷ []) ++ digits_at_least 2 w) (45 ∷ [])
    (both-date (87 ∷ []) (digits_at_least 2 w) (more-date 87 [] (inr (inr refl)) none-date) (number-date 2 w (omega (arith, h.1))))
    hyphen-date)
    (number-date 1 d (omega (arith, h.3)))

form-date : (f : DateNumbers) → DigitsFit f → AreDateBytes (form_text f)
form-date f h =
    both-date (year_text (form_year f) ++ 45 ∷ []) (form_rest f) (both-date (year_text (form_year f)) (45 ∷ []) (year-date (form_year f) (written f h)) hyphen-date) (rest-date f h)

-- ---- what they are not
abbrev pub IsNoOther : List ℕ → Type 0
IsNoOther bytes = (get_or bytes 0 0 ≢ 74) × (get_or bytes 0 0 ≢ 64)

not-at : (b k : ℕ) → 57 < k → k ≢ 87 → IsDateByte b → b ≢ k
not-at b k above other is e = elim is [
  | inl zero_there ↦ absurd (omega (arith, e, zero_there, above))
  | inr some ↦ elim some [ inl range ↦ absurd (omega (arith, e, range.1, above)) | inr w ↦ absurd (other (sym e ∙ w)) ]
]

not-space : (b : ℕ) → IsDateByte b → b ≢ 32
not-space b is e = elim is [
  | inl zero_there ↦ absurd (omega (arith, e, zero_there))
  | inr some ↦ elim some [ inl range ↦ absurd (omega (arith, e, range.0)) | inr w ↦ absurd (omega (arith, e, w)) ]
]

not-separator : (b : ℕ) → IsDateByte b → ¬ IsSeparator b
not-separator b is sep = elim sep [
  | inl upper ↦ absurd (not-at b 84 (lit< tt) (λ e. omega (arith, e)) is upper)
  | inr other ↦ elim other [ inl lower ↦ absurd (not-at b 116 (lit< tt) (λ e. omega (arith, e)) is lower) | inr space ↦ absurd (not-space b is space) ]
]

no-other : (bytes : List ℕ) → IsDateByte (get_or bytes 0 0) → IsNoOther bytes
no-other bytes is = (not-at (get_or bytes 0 0) 74 (lit< tt) (λ e. omega (arith, e)) is, not-at (get_or bytes 0 0) 64 (lit< tt) (λ e. omega (arith, e)) is)

pub record IsDateShape (bytes : List ℕ) : Type 0 where
  pub first : IsNoOther bytes
  pub separator : ¬ IsSeparator (get_or bytes 10 0)

pub date-shape : (bytes : List ℕ) (f : DateNumbers) → HasForm bytes f → IsDateShape bytes
date-shape bytes f h =
    let all : AreDateBytes bytes = subst AreDateBytes (sym h.bytes_are) (form-date f h.form) in
    record { first = no-other bytes (all 0); separator = not-separator (get_or bytes 10 0) (all 10) }

pub day-shape : (bytes : List ℕ) (n : ℕ) → IsDate n → IsDateText bytes n → IsDateShape bytes
day-shape bytes n date is = let f = form-of-day bytes n date is in date-shape bytes f.form f.has

-- ---- the others
pub record IsMomentShape (bytes : List ℕ) : Type 0 where
  pub first : IsNoOther bytes
  pub separator : IsSeparator (get_or bytes 10 0)

year-first : (ys ms ds rest : List ℕ) → (ys ++ 45 ∷ [] ++ ms ++ 45 ∷ [] ++ ds) ++ rest ≡ ys ++ (45 ∷ (ms ++ (45 ∷ (ds ++ rest))))
year-first ys ms ds rest = simp append_assoc

date-long : (ys ms ds : List ℕ) → length ys ≡ 4 → length ms ≡ 2 → length ds ≡ 2 → length (ys ++ 45 ∷ [] ++ ms ++ 45 ∷ [] ++ ds) ≡ 10
date-long ys ms ds a b c = simp length-append (omega (arith, a, b, c))

pub date_digits-long : (bytes : List ℕ) (m : Numbers) → HasMomentForm bytes m → length (date_digits m.year m.month m.day) ≡ 10
date_digits-long bytes m h =
    date-long (digits_at_least 4 m.year) (digits_at_least 2 m.month) (digits_at_least 2 m.day)
    (digits_at_least-length 4 m.year (lit< tt) h.numbers.year (omega (arith, h.numbers.year)))
    (digits_at_least-length 2 m.month (lit< tt) h.numbers.month (omega (arith, h.numbers.month)))
    (digits_at_least-length 2 m.day (lit< tt) h.numbers.day (omega (arith, h.numbers.day)))

pub moment-shape : (bytes : List ℕ) (m : Numbers) → HasMomentForm bytes m → IsMomentShape bytes
moment-shape bytes m h =
    let ys = digits_at_least 4 m.year in
    let small : m.year < 10 ^ 9 = omega (arith, h.numbers.year) in
    let long : length ys ≡ 4 = digits_at_least-length 4 m.year (lit< tt) h.numbers.year small in
    let rest = h.separator ∷ (clock_digits m.hour m.minute m.second ++ (h.fraction ++ h.offset)) in
    let first : get_or bytes 0 0 ≡ get_or ys 0 0 =
    ap (λ all. get_or all 0 0) (h.bytes_are ∙ year-first ys (digits_at_least 2 m.month) (digits_at_least 2 m.day) rest) ∙ get_or_append_left ys _ 0 0 (omega (arith, long)) in
    record {
      first = no-other bytes (subst IsDateByte (sym first) (number-date 4 m.year small 0));
      separator = subst IsSeparator (sym (ap (λ all. get_or all 10 0) h.bytes_are ∙ get_or_at (date_digits m.year m.month m.day) h.separator _ 0 10 (date_digits-long bytes m h))) h.is_separator;
    }

pub julian-first : (bytes : List ℕ) (j : ℤ) → IsJulianForm bytes j → get_or bytes 0 0 ≡ 74
julian-first bytes j h = ap (λ all. get_or all 0 0) h.bytes_are

pub unix-first : (bytes : List ℕ) (v : ℤ) → HasUnixForm bytes v → get_or bytes 0 0 ≡ 64
unix-first bytes (pos k) h = ap (λ all. get_or all 0 0) h.bytes_are
unix-first bytes (negsuc k) h = ap (λ all. get_or all 0 0) h.bytes_are
