-- A string without its year, by what the format says of it with a year.
use Rattle.std.proofs.Common.{◌≡◌, ◌∙◌, ap, subst, sym, refl, inl, inr, arith, ℕ, ◌≤◌, List, length, Result, Ok, Err, ℤ, pos, ◌≤ℤ◌}
use Rattle.std.proofs.lemmas.Int.{ints}
use Rattle.cal_time.specs.Date.{year_at}
use Rattle.cal_time.specs.DateText.{year_text}
use Rattle.cal_time.specs.declared.error.ComponentRange.{ComponentRange}
use Rattle.cal_text.specs.declared.any.DateOrMoment.{DateOrMoment}
use Rattle.caldate_answers.specs.FormatErrors.{IsFormatError, IsReadBy, IsReasonBy}
use Rattle.caldate_answers.specs.Found.{day_of}
use Rattle.caldate_answers.specs.Readers.{IsErrorInYear, IsFormatText, IsTextInYears, IsTextOfYear, IsYearlessError, IsYearlessText, with_year, year_of}
use Rattle.caldate_answers.specs.declared.reading.reader.Assumptions.{Assumptions}
use Rattle.caldate_answers.specs.declared.reading.value_format.ValueFormat.{ValueFormat}
use Rattle.caldate_answers.specs.declared.reading.yearless.AssumedYear.{AssumedYear}
use Rattle.caldate_answers.proofs.Nearest.{is_in_year, one_year, text_in_year}
use Rattle.caldate_answers.proofs.Rejected.{map_read, map_reason, read}
use Rattle.caldate_lines.specs.declared.no_answer.NoAnswer.{NoAnswer}
use Rattle.caldate_lines.specs.declared.no_answer.NoAnswer.TheVariants as why

-- What is read with the year, and in the year.
abbrev pub Reads : ℤ → ValueFormat → List ℕ → Result DateOrMoment NoAnswer → Type 0
Reads o f full r = IsReadBy (IsFormatText o f full) (IsFormatError f full) r

abbrev pub ReadsIn : ℤ → ValueFormat → List ℕ → ℤ → Result DateOrMoment NoAnswer → Type 0
ReadsIn o f t y r = IsReadBy (IsTextInYears o f t y y) (IsErrorInYear f t y) r

abbrev pub Reading : Type 0
Reading = Result DateOrMoment NoAnswer

pub same_ok : (a b : DateOrMoment) → ◌≡◌ {A = Reading} (Ok a) (Ok b) → a ≡ b
same_ok a b e = cc

pub same_err : (a b : NoAnswer) → ◌≡◌ {A = Reading} (Err a) (Err b) → a ≡ b
same_err a b e = cc

pub not_ok : (any : NoAnswer) (x : DateOrMoment) → ◌≡◌ {A = Reading} (Err any) (Ok x) → ⊥
not_ok any x e = cc

pub no_reason : (IsError : ComponentRange → Type 0) (any : NoAnswer) → ((c : ComponentRange) → ¬ IsError c) → IsReasonBy IsError any → why.NoForm ≡ any
no_reason IsError any none (inl h) = absurd (none h.0 h.1)
no_reason IsError any none (inr h) = sym h.1

-- No date or moment and no error.
pub no_form : (IsText : DateOrMoment → Type 0) (IsError : ComponentRange → Type 0) → ((x : DateOrMoment) → ¬ IsText x) → ((c : ComponentRange) → ¬ IsError c) → IsReadBy IsText IsError (Err why.NoForm)
no_form IsText IsError lacks none = record {
  every = λ x h. absurd (lacks x h);
  value = tt;
  every_error = λ any _ h. ap (λ w. Err w) (no_reason IsError any none h);
  error = inr (none, refl);
}

-- ---- one year
pub with_error : (f : ValueFormat) (t full : List ℕ) (y : ℤ) (c : ComponentRange) → full ≡ with_year (year_text y) t → IsErrorInYear f t y c → IsFormatError f full c
with_error f t full y c e h = subst (λ l. IsFormatError f l c) (sym e) h.error

error_in : (f : ValueFormat) (t full : List ℕ) (y : ℤ) (c : ComponentRange) → full ≡ with_year (year_text y) t → pos 0 ≤ℤ y → y ≤ℤ pos 9_999 → IsFormatError f full c → IsErrorInYear f t y c
error_in f t full y c e low high h = record { four_digits = (low, high); error = subst (λ l. IsFormatError f l c) e h }

pub found_in_year : (o : ℤ) (f : ValueFormat) (t full : List ℕ) (y : ℤ) (x : DateOrMoment) → full ≡ with_year (year_text y) t → year_at (day_of x) ≡ y → pos 0 ≤ℤ y → y ≤ℤ pos 9_999
    → Reads o f full (Ok x) → ReadsIn o f t y (Ok x)
found_in_year o f t full y x e year low high h =
    read (IsTextInYears o f t y y) (IsErrorInYear f t y) x (is_in_year o f t full y x e year low high h.value)
    (λ other is. same_ok x other (h.every other (text_in_year o f t full y other e is)))

pub found_elsewhere : (o : ℤ) (f : ValueFormat) (t full : List ℕ) (y : ℤ) (x : DateOrMoment) → full ≡ with_year (year_text y) t → ¬ (year_at (day_of x) ≡ y)
    → Reads o f full (Ok x) → ((c : ComponentRange) → ¬ IsFormatError f full c) → ReadsIn o f t y (Err why.NoForm)
found_elsewhere o f t full y x e year h none =
    no_form (IsTextInYears o f t y y) (IsErrorInYear f t y)
    (λ other is. year (ap (λ x. year_at (day_of x)) (same_ok x other (h.every other (text_in_year o f t full y other e is))) ∙ one_year o f t y other is))
    (λ c is. none c (with_error f t full y c e is))

pub unread_in_year : (o : ℤ) (f : ValueFormat) (t full : List ℕ) (y : ℤ) (any : NoAnswer) → full ≡ with_year (year_text y) t → pos 0 ≤ℤ y → y ≤ℤ pos 9_999 → Reads o f full (Err any) → ReadsIn o f t y (Err any)
unread_in_year o f t full y any e low high h = record {
  every = λ x is. absurd (not_ok any x (h.every x (text_in_year o f t full y x e is)));
  value = tt;
  every_error = λ other _ is. h.every_error other (λ x is. not_ok any x (h.every x is))
      (map_reason (IsErrorInYear f t y) (IsFormatError f full) other (λ c. with_error f t full y c e) (λ c. error_in f t full y c e low high) is);
  error = map_reason (IsFormatError f full) (IsErrorInYear f t y) any (λ c. error_in f t full y c e low high) (λ c. with_error f t full y c e) h.error;
}

pub no_such_year : (o : ℤ) (f : ValueFormat) (t : List ℕ) (y : ℤ) → (pos 0 ≤ℤ y → y ≤ℤ pos 9_999 → ⊥) → ReadsIn o f t y (Err why.NoForm)
no_such_year o f t y out =
    no_form (IsTextInYears o f t y y) (IsErrorInYear f t y)
    (λ x is. let year = one_year o f t y x is in out (omega (arith, ints, year, is.four_digits.0)) (omega (arith, ints, year, is.four_digits.1)))
    (λ c is. out is.four_digits.0 is.four_digits.1)

pub only_reason : (IsText : DateOrMoment → Type 0) (IsError : ComponentRange → Type 0) (any other : NoAnswer) → IsReadBy IsText IsError (Err any) → IsReasonBy IsError other → any ≡ other
only_reason IsText IsError any other h is = same_err any other (h.every_error other (λ x is. not_ok any x (h.every x is)) is)

-- ---- the assumed year
pub yearless_by : (a : Assumptions) (f : ValueFormat) (t : List ℕ) (year : AssumedYear) (r : Reading) → a.year ≡ year → length t ≤ 60
    → IsReadBy (IsTextOfYear year a.offset f t) (IsErrorInYear f t (year_of year)) r → IsReadBy (IsYearlessText a f t) (IsYearlessError a f t) r
yearless_by a f t year r e short =
    map_read (IsTextOfYear year a.offset f t) (IsYearlessText a f t) (IsErrorInYear f t (year_of year)) (IsYearlessError a f t) r
    (λ x h. record { short = short; text_is = subst (λ y. IsTextOfYear y a.offset f t x) (sym e) h })
    (λ x h. subst (λ y. IsTextOfYear y a.offset f t x) e h.text_is)
    (λ c h. record { short = short; error = subst (λ y. IsErrorInYear f t (year_of y) c) (sym e) h })
    (λ c h. subst (λ y. IsErrorInYear f t (year_of y) c) e h.error)
