-- A text is a text of a day exactly if the day has the numbers of its form.
use Rattle.std.proofs.Common.{◌≡◌, ℕ, ◌+◌, Some, refl, sym, ap, ◌∙◌, arith, inl, inr, List}
use Rattle.std.proofs.lemmas.List.{append_assoc}
use Rattle.cal_time.specs.CalendarDay.{CalendarDay}
use Rattle.cal_time.specs.Date.{IsDate, year_at, month_at, day_of_month_at, ordinal_at, weekday_at}
use Rattle.cal_time.specs.DateText.{text}
use Rattle.cal_time.specs.IsoWeekDate.{iso_year_at, iso_week_at}
use Rattle.cal_text.specs.declared.date_numbers.DateNumbers.{DateNumbers}
use Rattle.cal_text.specs.declared.date_numbers.DateNumbers.TheVariants.{Calendar, Ordinal, Week}
use Rattle.cal_text.specs.AnyForm.{date_text, date_form_of}
use Rattle.cal_text.specs.DateForms.{IsDateText, HasForm, form_text, ordinal_text, week_text}
use Rattle.cal_text.specs.Parsing.{IsOnDay}
use Rattle.cal_text.proofs.Ranges.{year_at-written, iso_year_at-written, month_at-below, day_of_month_at-below, ordinal_at-below, iso_week_at-below, weekday_at-below}

-- the text of a date as a form
text-is : (n : ℕ) → text n ≡ form_text (Calendar (year_at n) (month_at n) (day_of_month_at n))
text-is n = simp append_assoc

-- the form that each text of a day has
abbrev pub HasOnDay : List ℕ → DateNumbers → ℕ → Type 0
HasOnDay bytes form n = HasForm bytes form × IsOnDay form n

pub calendar-of : (bytes : List ℕ) (n : ℕ) → IsDate n → bytes ≡ text n → HasOnDay bytes (Calendar (year_at n) (month_at n) (day_of_month_at n)) n
calendar-of bytes n date e =
    (record { form = (year_at-written n (omega arith), month_at-below n, day_of_month_at-below n); bytes_are = e ∙ text-is n }, refl)

pub ordinal-of : (bytes : List ℕ) (n : ℕ) → IsDate n → bytes ≡ ordinal_text n → HasOnDay bytes (Ordinal (year_at n) (ordinal_at n)) n
ordinal-of bytes n date e = (record { form = (year_at-written n (omega arith), ordinal_at-below n); bytes_are = e }, (refl, refl))

pub week-of : (bytes : List ℕ) (n : ℕ) → IsDate n → bytes ≡ week_text n → HasOnDay bytes (Week (iso_year_at n) (iso_week_at n) (weekday_at n + 1)) n
week-of bytes n date e = (
  record { form = (iso_year_at-written n date, iso_week_at-below n, omega arith, (let below = weekday_at-below n in omega arith)); bytes_are = e },
  (refl, refl, omega arith),
)

pub record FormOfDay (bytes : List ℕ) (n : ℕ) : Type 0 where
  pub form : DateNumbers
  pub has : HasForm bytes form
  pub on_day : IsOnDay form n

pub form-of-day : (bytes : List ℕ) (n : ℕ) → IsDate n → IsDateText bytes n → FormOfDay bytes n
form-of-day bytes n date t = elim t as (λ _. FormOfDay bytes n) [
  | inl e ↦ let is = calendar-of bytes n date e in record { form = _; has = is.0; on_day = is.1 }
  | inr rest ↦ elim rest as (λ _. FormOfDay bytes n) [
    | inl e ↦ let is = ordinal-of bytes n date e in record { form = _; has = is.0; on_day = is.1 }
    | inr e ↦ let is = week-of bytes n date e in record { form = _; has = is.0; on_day = is.1 }
  ]
]

pub text-of-form : (bytes : List ℕ) (f : DateNumbers) (n : ℕ) → HasForm bytes f → IsOnDay f n → bytes ≡ date_text (date_form_of f) n
text-of-form bytes (Calendar y m d) n h e =
    h.bytes_are ∙ sym (text-is n ∙ ap (λ (c : CalendarDay). form_text (Calendar c.year c.month c.day)) e)
text-of-form bytes (Ordinal y o) n h e =
    h.bytes_are ∙ sym (ap (λ x. form_text (Ordinal x (ordinal_at n))) e.0 ∙ ap (λ k. form_text (Ordinal y k)) e.1)
text-of-form bytes (Week y w d) n h e =
    let weekday : weekday_at n + 1 ≡ d = omega (arith, e.2, h.form.2) in
    h.bytes_are ∙ sym (ap (λ x. form_text (Week x (iso_week_at n) (weekday_at n + 1))) e.0 ∙ ap (λ k. form_text (Week y k (weekday_at n + 1))) e.1 ∙ ap (λ k. form_text (Week y w k)) weekday)

-- one text, one form
pub same_form : (a b : DateNumbers) → Some a ≡ Some b → a ≡ b
same_form a b e = cc
