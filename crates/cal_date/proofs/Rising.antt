-- The components of a day rise from each day to the next.
use Rattle.std.proofs.Common.{◌≡◌, ℕ, suc, ◌+◌, ◌-◌, inl, inr, refl, sym, ap, ◌∙◌, subst, arith, ℤ, pos, ◌+ℤ◌, ◌≤ℤ◌, List, [], ◌∷◌, Bool, true, false, lit≤}
use Rattle.std.specs.Prelude.{if◌then◌else◌}
use Rattle.std.proofs.lemmas.Bool.{cases_lt}
use Rattle.std.proofs.lemmas.Int.{ints}
use Rattle.std.proofs.lemmas.Bool.Decides.{nat_tests}
use Rattle.cal_units.specs.Lengths.{days_in_year}
use Rattle.cal_date.specs.CalendarDay.{CalendarDay, calendar_day, day_after}
use Rattle.cal_date.specs.CountLaws.{days_before, day_at-suc, in_year, year_start-days_before}
use Rattle.cal_date.specs.Date.{first_year, day_at, year_at, ordinal_at, IsOrdinal, HasOrdinalDate}
use Rattle.cal_date.specs.Order.{IsBefore, ordinal_date_at, calendar_date_at}
use Rattle.cal_date.specs.PackedDate.{ordinal_number}
use Rattle.cal_date.proofs.Dates.{stands}
use Rattle.cal_date.proofs.Order.{Rises}
use Rattle.cal_date.proofs.Years.{days_before-next}

abbrev parts : CalendarDay → List ℤ
parts d = d.year ∷ pos d.month ∷ pos d.day ∷ []

-- Each of the three days that may come after a day.
later : (y : ℤ) (m d : ℕ) (in_month in_year : Bool) → IsBefore (parts (calendar_day y m d))
    (parts (if in_month then calendar_day y m (d + 1) else (if in_year then calendar_day y (m + 1) 1 else calendar_day (y +ℤ pos 1) 1 1)))
later y m d true in_year = inr (refl, inr (refl, inl (omega (arith, ints))))
later y m d false true = inr (refl, inl (omega (arith, ints)))
later y m d false false = inl (omega (arith, ints))

after : (d : CalendarDay) → IsBefore (parts d) (parts (day_after d))
unfolding day_after
after d = later d.year d.month d.day _ _

pub Rises-calendar_date : Rises calendar_date_at
Rises-calendar_date = record {
  step = λ n. subst (λ d. IsBefore (parts (day_at n)) (parts d)) (sym (day_at-suc n)) (after (day_at n));
}

-- Each ordinal date is in the count, also after the range.
pub has_ordinal_number : (y : ℤ) (o : ℕ) → first_year ≤ℤ y → IsOrdinal y o → HasOrdinalDate y o (ordinal_number y o)
has_ordinal_number y o late h =
    let here = in_year (days_before y) y (o - 1) (year_start-days_before y late) (omega (arith, h.0, h.1)) in
    (here.0, here.1 ∙ omega (arith, h.0))

ordinal_step : (n : ℕ) → IsBefore (ordinal_date_at n) (ordinal_date_at (suc n))
ordinal_step n =
    let at = stands n in
    let y = year_at n in
    let o = ordinal_at n in
    elim (cases_lt o (days_in_year y)) as (λ _. IsBefore (ordinal_date_at n) (ordinal_date_at (suc n))) [
      | inl less ↦
          let next = has_ordinal_number y (o + 1) at.year (omega arith, omega arith) in
          let number : ordinal_number y (o + 1) ≡ suc n = omega (arith, at.number_is, at.ordinal.0) in
          let year : y ≡ year_at (suc n) = sym next.0 ∙ ap year_at number in
          let ordinal : o + 1 ≡ ordinal_at (suc n) = sym next.1 ∙ ap ordinal_at number in
          inr (year, inl (omega (arith, ints)))
      | inr last ↦
          let next = has_ordinal_number (y +ℤ pos 1) 1 (omega (arith, ints, at.year)) (lit≤ tt, grind (arith, nat_tests)) in
          let number : ordinal_number (y +ℤ pos 1) 1 ≡ suc n = omega (arith, at.number_is, at.ordinal.0, at.ordinal.1, days_before-next y at.year) in
          let year : y +ℤ pos 1 ≡ year_at (suc n) = sym next.0 ∙ ap year_at number in
          inl (omega (arith, ints))
    ]

pub Rises-ordinal_date : Rises ordinal_date_at
Rises-ordinal_date = record { step = ordinal_step }
