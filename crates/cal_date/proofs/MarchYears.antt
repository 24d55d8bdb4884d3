-- Years that begin on 1 March. A quotient gives the days before each month.
use Rattle.std.proofs.Common.{◌≡◌, ℕ, zero, suc, ◌+◌, ◌-◌, ◌*◌, ◌<◌, ◌≤◌, ◌∙◌, sym, ap, subst, arith, inl, inr, ℤ, pos, ◌+ℤ◌, ◌≤ℤ◌, nat_le}
use mir.Val.{bool_byte}
use Rattle.std.proofs.lemmas.Bool.{cases_lt}
use Rattle.std.proofs.lemmas.Bool.Decides.{nat_tests}
use Rattle.std.proofs.lemmas.Int.{ints}
use Rattle.cal_units.specs.Lengths.{days_in_year, days_in_month}
use Rattle.cal_date.specs.ClosedForms.{days_before_month_in_part}
use Rattle.cal_date.specs.CountLaws.{days_of_months, days_of_years, years_before, days_of_years-suc}
use Rattle.cal_date.specs.Date.{first_year, IsDayOfMonth, HasCalendarDate}
use Rattle.cal_date.specs.PackedDate.{ordinal_number}
use Rattle.cal_date.proofs.Calendar.{ordinal_in, stands_at}
use Rattle.cal_date.proofs.Months.{IsMonth, before_late}

-- The number of the day with a calendar date.
abbrev pub number_with : ℤ → ℕ → ℕ → ℕ
number_with y m d = ordinal_number y (ordinal_in y (m - 1) d)

pub has_number : (y : ℤ) (m d : ℕ) → first_year ≤ℤ y → IsMonth m → IsDayOfMonth y m d → HasCalendarDate y m d (number_with y m d)
has_number y m d h month day =
    let same : m - 1 + 1 ≡ m = omega (arith, month.0) in
    let here = stands_at y (m - 1) d h (omega (arith, month.0, month.1)) (subst (λ k. IsDayOfMonth y k d) (sym same) day) in
    subst (λ k. HasCalendarDate y k d (number_with y m d)) same here.has

-- The mark is 1 for January and February, which end a year that begins on 1 March, else 0.
pub record IsMarked (m mark : ℕ) : Type 0 where
  pub early : m ≤ 2 → mark ≡ 1
  pub late : 2 < m → mark ≡ 0
  pub most : mark ≤ 1

pub marked : (m mark : ℕ) → mark ≡ bool_byte (nat_le m 2) → IsMarked m mark
marked m mark e = record { early = λ h. grind (arith, nat_tests); late = λ h. grind (arith, nat_tests); most = grind (arith, nat_tests) }

-- The days of such a year before January and February.
before_early : (y : ℤ) (m : ℕ) → IsMonth m → m ≤ 2 → days_before_month_in_part (m + 10) ≡ days_of_months y (m - 1) + 306
unfolding days_of_months days_in_month
before_early y zero month early = absurd (omega (arith, month.0))
before_early y (suc zero) month early = grind (arith, nat_tests)
before_early y (suc (suc zero)) month early = grind (arith, nat_tests)
before_early y (suc (suc (suc m))) month early = absurd (omega arith)

abbrev pub march_sum : ℕ → ℕ → ℕ → ℕ → ℕ
march_sum years m mark d = days_of_years years + (days_before_month_in_part (m + 12 * mark - 2) + d)

pub march_number : (y : ℤ) (m d mark years : ℕ) → first_year ≤ℤ y → IsMonth m → 1 ≤ d → IsMarked m mark → years + mark ≡ years_before y + 1
    → march_sum years m mark d ≡ number_with y m d + 307
march_number y m d mark years h month some marked e =
    elim (cases_lt 2 m) [
      | inl late ↦
          let none : mark ≡ 0 = marked.late late in
          let count : years ≡ suc (years_before y) = omega arith in
          let same : m + 12 * mark - 2 ≡ m - 1 - 1 = omega arith in
          let year : first_year +ℤ pos (years_before y) ≡ y = omega (arith, ints) in
          let next : days_of_years years ≡ days_of_years (years_before y) + days_in_year y = ap days_of_years count ∙ days_of_years-suc (years_before y) ∙ ap (λ z. days_of_years (years_before y) + days_in_year z) year in
          let months = before_late y (m - 1) (omega arith) (omega (arith, month.1)) in
          omega (arith, ap days_before_month_in_part same)
      | inr early ↦
          let one : mark ≡ 1 = marked.early early in
          let count : years ≡ years_before y = omega arith in
          let same : m + 12 * mark - 2 ≡ m + 10 = omega arith in
          let months = before_early y m month early in
          omega (arith, ap days_before_month_in_part same, ap days_of_years count)
    ]
