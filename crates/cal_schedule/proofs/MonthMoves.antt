-- Days moved by months.
use Rattle.std.proofs.Common.{◌≡◌, ℕ, ◌+◌, min, sym, ap, ◌∙◌, arith, ℤ, pos, ◌+ℤ◌, ◌*ℤ◌}
use Rattle.std.proofs.lemmas.Int.{ints}
use Rattle.cal_time.specs.Lengths.{days_in_month}
use Rattle.cal_time.specs.Date.{first_year, year_at, month_at, day_of_month_at, IsDate, HasCalendarDate}
use Rattle.cal_time.specs.Days.{month_at-range, year_at-range}
pub use Rattle.cal_schedule.specs.MonthLaws.{month_numbers-rise, IsSameMonth, same_month, one_day, first_before, days_apart, number_from}
use Rattle.cal_schedule.specs.Months.{month_number_at, HasMonthIndex, IsMonthNumber, IsMonthsLater}

-- the same day of the month, or the last one, of two days of one month
same_day : (d r s : ℕ) → month_number_at r ≡ month_number_at s
    → day_of_month_at r ≡ min d (days_in_month (year_at r) (month_at r)) → day_of_month_at s ≡ min d (days_in_month (year_at s) (month_at s))
    → day_of_month_at r ≡ day_of_month_at s
same_day d r s e x y =
    let same = same_month r s e in
    x ∙ ap (λ z. min d (days_in_month z (month_at r))) same.year ∙ ap (λ z. min d (days_in_month (year_at s) z)) same.month ∙ sym y

-- one answer
pub one_later : (a r s : ℕ) (m : ℤ) → IsMonthsLater a m r → IsMonthsLater a m s → r ≡ s
one_later a r s m x y =
    let e : month_number_at r ≡ month_number_at s = x.month ∙ sym y.month in
    one_day r s (same_month r s e) (same_day (day_of_month_at a) r s e x.day y.day)

-- and its index among the months of the range
pub has_index : (n : ℕ) (y : ℤ) (m d p : ℕ) → HasCalendarDate y m d n → y *ℤ pos 12 +ℤ pos m ≡ pos (p + 1) +ℤ first_year *ℤ pos 12
    → HasMonthIndex p n
has_index n y m d p has e = omega (arith, ints, number_from n y m d has)

-- the month of a day of the range is one of the range
pub IsMonthNumber-date : (n : ℕ) → IsDate n → IsMonthNumber (month_number_at n)
IsMonthNumber-date n h =
    let year = year_at-range n h in
    let month = month_at-range n in
    record { not_before = omega (arith, ints, year.0, month.0); not_after = omega (arith, ints, year.1, month.1) }

-- Twelve months are a year: the month stays, and the year is in range if the month is.
pub years-kept : (n r : ℕ) (years : ℤ) → IsMonthsLater n (pos 12 *ℤ years) r → (year_at r ≡ year_at n +ℤ years) × (month_at r ≡ month_at n)
years-kept n r years h =
    let a = month_at-range n in
    let b = month_at-range r in
    (omega (arith, ints, a.0, a.1, b.0, b.1, h.month), omega (arith, ints, a.0, a.1, b.0, b.1, h.month))

-- A day of the month that is `years` years later has the day, or the last day of the month.
pub years_later : (n r : ℕ) (y years : ℤ) (i d : ℕ) → y ≡ year_at n +ℤ years → i + 1 ≡ month_at n → d ≡ day_of_month_at n
    → HasCalendarDate y (i + 1) (min d (days_in_month y (i + 1))) r → IsMonthsLater n (pos 12 *ℤ years) r
years_later n r y years i d year month day has =
    let length = ap (λ k. min (day_of_month_at n) (days_in_month k.year k.month)) has in
    record {
      month = omega (arith, ints, year, month, number_from r y (i + 1) _ has);
      day = ap (λ k. k.day) has ∙ ap (λ k. min k (days_in_month y (i + 1))) day ∙ sym length;
    }
