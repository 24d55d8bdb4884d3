-- The calendar date of a day by years that begin on 1 March, the converse of the count in
-- `MarchYears`.
use Rattle.std.proofs.Common.{◌≡◌, ℕ, ◌+◌, ◌-◌, ◌*◌, ◌/◌, ◌%◌, ◌<◌, ◌≤◌, ◌∙◌, ◌⊎◌, sym, ap, subst, arith, inl, inr, ℤ, pos, ◌+ℤ◌, ◌-ℤ◌, ◌≤ℤ◌, nat_lt}
use mir.Val.{bool_byte}
use Rattle.std.proofs.lemmas.Bool.{cases_lt}
use Rattle.std.proofs.lemmas.Int.{ints}
use Rattle.std.proofs.lemmas.Bool.Decides.{nat_tests}
use Rattle.cal_units.specs.Lengths.{days_in_year, days_in_month}
use Rattle.cal_date.specs.ClosedForms.{days_before_month_in_part}
use Rattle.cal_date.specs.CountLaws.{days_of_years, years_before, days_of_years-closed, leap_year-step}
use Rattle.cal_date.specs.Date.{first_year, last_day, IsDate, IsDayOfMonth, HasCalendarDate}
use Rattle.cal_date.specs.DateLimits.{years_in_range}
use Rattle.cal_date.proofs.MarchYears.{number_with, has_number, march_number, IsMarked}
use Rattle.cal_date.proofs.Months.{IsMonth, each_month, other_month}

-- A day by its century, and by its year if every fourth year is a leap year.
in_century : (n c t : ℕ) → 4 * n + 3 ≡ 146097 * c + t → 4 * (n + c - c / 4) + 3 ≡ 146100 * c + (t + c % 4)
in_century n c t e = omega arith

century_of_year : (c s z r : ℕ) → 146100 * c + s ≡ 1461 * z + r → r < 1461 → s < 146100 → (z / 100 ≡ c) × (1461 * (z % 100) + r ≡ s)
century_of_year c s z r e hr hs = (omega arith, omega arith)

past_in_year : (j z r : ℕ) → 4 * j + 3 ≡ 1461 * z + r → r < 1461 → (1461 * z / 4 ≤ j) × (j - 1461 * z / 4 ≡ r / 4) × (r / 4 ≤ 365) × (r / 4 ≡ 365 → z % 4 ≡ 3)
past_in_year j z r e hr = (omega arith, omega arith, omega arith, λ last. omega arith)

leap_ends : (z l : ℕ) → z % 4 ≡ 3 → (z % 100 < 99) ⊎ (z % 400 ≡ 399) → l + (z + 1) / 100 + z / 4 + z / 400 ≡ 365 + z / 100 + (z + 1) / 4 + (z + 1) / 400 → l ≡ 366
leap_ends z l four (inl h) e = omega arith
leap_ends z l four (inr h) e = omega arith

-- the year in which day n - 306 of the range lies, and the days of it that are past
record IsMarchYear (n z k : ℕ) : Type 0 where
  number : days_of_years z + k ≡ n
  past : k ≤ 365
  years : z ≤ years_in_range
  leap : k ≡ 365 → days_in_year (first_year +ℤ pos z) ≡ 366

march_year : (n c t z r : ℕ) → n ≤ last_day + 306 → 4 * n + 3 ≡ 146097 * c + t → t < 146097 → 4 * (n + c - c / 4) + 3 ≡ 1461 * z + r → r < 1461
    → IsMarchYear n z (n + c - c / 4 - 1461 * z / 4)
march_year n c t z r h century ht year hr =
    let j = n + c - c / 4 in
    let few : t + c % 4 < 146100 = omega arith in
    let of_century = century_of_year c (t + c % 4) z r (sym (in_century n c t century) ∙ year) hr few in
    let of_year = past_in_year j z r year hr in
    record {
      number = omega (arith, of_century.0, of_year.0, days_of_years-closed z);
      past = omega (arith, of_year.1, of_year.2);
      years = omega (arith, of_century.0);
      leap = λ last.
          let end : r / 4 ≡ 365 = sym of_year.1 ∙ last in
          let four : z % 4 ≡ 3 = of_year.3 end in
          let split : (z % 100 < 99) ⊎ (z % 400 ≡ 399) = elim (cases_lt (z % 100) 99) [
            | inl before ↦ inl before
            | inr after ↦ inr (omega (arith, of_century.0, of_century.1))
          ] in
          leap_ends z (days_in_year (first_year +ℤ pos z)) four split (leap_year-step z);
    }

-- the day of the month, less 1, by the months before the month of a March year
record IsInMonth (i k d : ℕ) : Type 0 where
  sum : days_before_month_in_part (i + 1) + d ≡ k
  other : i ≤ 9 → d < 30 + (i + 3 + (i + 3) / 8) % 2
  january : i ≡ 10 → d < 31
  february : i ≡ 11 → d ≤ 28
  last : i ≡ 11 → d ≡ 28 → k ≡ 365

in_month : (i : ℕ) → i < 12 → (k : ℕ) → k ≤ 365 → 65536 * (i + 3) ≤ 2141 * k + 197913 → 2141 * k + 197913 < 65536 * (i + 4)
    → IsInMonth i k ((2141 * k + 197913 - 65536 * (i + 3)) / 2141)
in_month = each_month (λ i. (k : ℕ) → k ≤ 365 → 65536 * (i + 3) ≤ 2141 * k + 197913 → 2141 * k + 197913 < 65536 * (i + 4) → IsInMonth i k ((2141 * k + 197913 - 65536 * (i + 3)) / 2141))
    (λ k most low high. record { sum = omega arith; other = λ h. omega arith; january = λ h. omega arith; february = λ h. omega arith; last = λ h e. omega arith })
    (λ k most low high. record { sum = omega arith; other = λ h. omega arith; january = λ h. omega arith; february = λ h. omega arith; last = λ h e. omega arith })
    (λ k most low high. record { sum = omega arith; other = λ h. omega arith; january = λ h. omega arith; february = λ h. omega arith; last = λ h e. omega arith })
    (λ k most low high. record { sum = omega arith; other = λ h. omega arith; january = λ h. omega arith; february = λ h. omega arith; last = λ h e. omega arith })
    (λ k most low high. record { sum = omega arith; other = λ h. omega arith; january = λ h. omega arith; february = λ h. omega arith; last = λ h e. omega arith })
    (λ k most low high. record { sum = omega arith; other = λ h. omega arith; january = λ h. omega arith; february = λ h. omega arith; last = λ h e. omega arith })
    (λ k most low high. record { sum = omega arith; other = λ h. omega arith; january = λ h. omega arith; february = λ h. omega arith; last = λ h e. omega arith })
    (λ k most low high. record { sum = omega arith; other = λ h. omega arith; january = λ h. omega arith; february = λ h. omega arith; last = λ h e. omega arith })
    (λ k most low high. record { sum = omega arith; other = λ h. omega arith; january = λ h. omega arith; february = λ h. omega arith; last = λ h e. omega arith })
    (λ k most low high. record { sum = omega arith; other = λ h. omega arith; january = λ h. omega arith; february = λ h. omega arith; last = λ h e. omega arith })
    (λ k most low high. record { sum = omega arith; other = λ h. omega arith; january = λ h. omega arith; february = λ h. omega arith; last = λ h e. omega arith })
    (λ k most low high. record { sum = omega arith; other = λ h. omega arith; january = λ h. omega arith; february = λ h. omega arith; last = λ h e. omega arith })

-- the length of February
february_length : (y : ℤ) → days_in_month y 2 + 337 ≡ days_in_year y
unfolding days_in_month
february_length y = grind (arith, nat_tests)

year_least : (y : ℤ) → 365 ≤ days_in_year y
year_least y = grind (arith, nat_tests)

-- the month of the calendar, its mark, and its day
day_of_march_month : (y : ℤ) (i k d m mark : ℕ) → i < 12 → IsInMonth i k d → m + 12 * mark ≡ i + 3 → IsMonth m → (k ≡ 365 → days_in_year y ≡ 366) → IsDayOfMonth y m (d + 1)
day_of_march_month y i k d m mark low in_month e month leap =
    elim (cases_lt i 10) [
      | inl early ↦
          let none : m ≡ i + 3 = omega (arith, month.1) in
          let length = other_month y m month (omega arith) in
          let most : d < 30 + (i + 3 + (i + 3) / 8) % 2 = in_month.other (omega arith) in
          (omega arith, omega (arith, length, ap (λ x. 30 + (x + x / 8) % 2) none))
      | inr late ↦ elim (cases_lt i 11) [
        | inl january ↦
            let one : m ≡ 1 = omega (arith, month.0, month.1) in
            let length = other_month y m month (omega arith) in
            let most : d < 31 = in_month.january (omega arith) in
            (omega arith, omega (arith, length, ap (λ x. 30 + (x + x / 8) % 2) one))
        | inr february ↦
            let two : m ≡ 2 = omega (arith, month.0, month.1) in
            let most : d ≤ 28 = in_month.february (omega arith) in
            let least : 28 ≤ days_in_month y 2 = omega (arith, february_length y, year_least y) in
            let fits : d + 1 ≤ days_in_month y 2 = elim (cases_lt d 28) [
              | inl before ↦ omega arith
              | inr last ↦ omega (arith, february_length y, leap (in_month.last (omega arith) (omega arith)))
            ] in
            (omega arith, subst (λ x. d + 1 ≤ days_in_month y x) (sym two) fits)
      ]
    ]

-- a month of a March year as a month of the calendar: the mark is 1 past December, and else 0
record IsMarchMonth (months mark : ℕ) : Type 0 where
  month : IsMonth (months - 12 * mark)
  same : months - 12 * mark + 12 * mark ≡ months
  marked : IsMarked (months - 12 * mark) mark
  past_december : 12 < months → mark ≡ 1
  first : mark ≡ 0 → months ≤ 12

march_month : (months mark : ℕ) → 3 ≤ months → months ≤ 14 → mark ≡ bool_byte (nat_lt 12 months) → IsMarchMonth months mark
march_month months mark least most e =
    let one : 12 < months → mark ≡ 1 = λ h. grind (arith, nat_tests) in
    let none : months ≤ 12 → mark ≡ 0 = λ h. grind (arith, nat_tests) in
    elim (cases_lt 12 months) [
      | inl after ↦
          let is : mark ≡ 1 = one after in
          record {
            month = (omega arith, omega arith);
            same = omega arith;
            marked = record { early = λ h. is; late = λ h. absurd (omega arith); most = omega arith };
            past_december = one;
            first = λ h. absurd (omega arith);
          }
      | inr before ↦
          let is : mark ≡ 0 = none (omega arith) in
          record {
            month = (omega arith, omega arith);
            same = omega arith;
            marked = record { early = λ h. absurd (omega arith); late = λ h. is; most = omega arith };
            past_december = one;
            first = λ h. omega arith;
          }
    ]

calendar_date_in : (n z k i d mark : ℕ) (y : ℤ) → IsDate n → IsMarchYear (n + 306) z k → i < 12 → IsInMonth i k d → IsMarchMonth (i + 3) mark → (k ≤ 305 → i ≤ 9) → (305 < k → 9 < i)
    → y ≡ first_year +ℤ pos (z + mark) -ℤ pos 1 → HasCalendarDate y (i + 3 - 12 * mark) (d + 1) n
calendar_date_in n z k i d mark y h year low of_month of_mark early late e =
    let m = i + 3 - 12 * mark in
    let few : mark ≤ 1 = of_mark.marked.most in
    let some : 1 ≤ z + mark = elim (cases_lt 305 k) [
      | inl after ↦ omega (arith, of_mark.past_december (omega (arith, late after)))
      | inr before ↦ omega (arith, year.number, before, days_of_years-closed z)
    ] in
    let first : first_year ≤ℤ y = omega (arith, ints, e, some) in
    let leap : k ≡ 365 → days_in_year y ≡ 366 = λ last.
    let one : mark ≡ 1 = of_mark.past_december (omega (arith, late (omega arith))) in
    let same : first_year +ℤ pos z ≡ y = omega (arith, ints, e, one) in
    subst (λ x. days_in_year x ≡ 366) same (year.leap last) in
    let day : IsDayOfMonth y m (d + 1) = day_of_march_month y i k d m mark low of_month of_mark.same of_mark.month leap in
    let count : z + mark ≡ years_before y + 1 = omega (arith, ints, e, some) in
    let number = march_number y m (d + 1) mark z first of_mark.month day.0 of_mark.marked count in
    let part : m + 12 * mark - 2 ≡ i + 1 = omega (arith, of_mark.same) in
    let past : days_before_month_in_part (m + 12 * mark - 2) + d ≡ k = ap (λ x. days_before_month_in_part x + d) part ∙ of_month.sum in
    let same : number_with y m (d + 1) ≡ n = omega (arith, number, past, year.number) in
    subst (HasCalendarDate y m (d + 1)) same (has_number y m (d + 1) first of_mark.month day)

pub calendar_date_is : (n c j z k s mark : ℕ) (y : ℤ) → IsDate n → c ≡ (4 * (n + 306) + 3) / 146097 → j ≡ n + 306 + c - c / 4 → z ≡ (4 * j + 3) / 1461 → k ≡ j - 1461 * z / 4
    → s ≡ 2141 * k + 197913 → mark ≡ bool_byte (nat_lt 12 (s / 65536)) → (z ≤ years_in_range → mark ≤ 1 → y ≡ first_year +ℤ pos (z + mark) -ℤ pos 1)
    → HasCalendarDate y (s / 65536 - 12 * mark) (s % 65536 / 2141 + 1) n × (s / 65536 - 12 * mark ≤ 12) × (s % 65536 / 2141 + 1 ≤ 31)
calendar_date_is n c j z k s mark y h century julian years past parts is_late e =
    let year : IsMarchYear (n + 306) z k = subst (IsMarchYear (n + 306) z) (sym (past ∙ ap (λ x. x - 1461 * z / 4) julian))
    (march_year (n + 306) c ((4 * (n + 306) + 3) % 146097) z ((4 * j + 3) % 1461) (omega arith) (omega arith) (omega arith) (omega arith) (omega arith)) in
    let most : k ≤ 365 = year.past in
    let i = s / 65536 - 3 in
    let same : i + 3 ≡ s / 65536 = omega arith in
    let low : i < 12 = omega arith in
    let rest : 2141 * k + 197913 - 65536 * (i + 3) ≡ s % 65536 = omega arith in
    let of_month : IsInMonth i k (s % 65536 / 2141) = subst (IsInMonth i k) (ap (λ x. x / 2141) rest) (in_month i low k most (omega arith) (omega arith)) in
    let of_mark : IsMarchMonth (i + 3) mark = subst (λ x. IsMarchMonth x mark) (sym same) (march_month (s / 65536) mark (omega arith) (omega arith) is_late) in
    let date = calendar_date_in n z k i (s % 65536 / 2141) mark y h year low of_month of_mark (λ few. omega arith) (λ many. omega arith) (e year.years of_mark.marked.most) in
    let month : i + 3 - 12 * mark ≤ 12 = of_mark.month.1 in
    (subst (λ x. HasCalendarDate y (x - 12 * mark) (s % 65536 / 2141 + 1) n) same date, subst (λ x. x - 12 * mark ≤ 12) same month, omega arith)
