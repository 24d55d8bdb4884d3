use Rattle.std.proofs.Common.{◌≡◌, ◌+◌, ◌≤◌, ◌-ℤ◌, ◌∙◌, ap, sym, subst, arith, to_z, of_z, w32}
use Rattle.std.proofs.lemmas.Int.{ints, to_z-of_z}
use Rattle.cal_date.specs.Date.{first_julian_day, IsDate, HasJulianDay, HasOrdinalDate}
use Rattle.cal_date.specs.Arithmetic.{IsDateNumber}
use Rattle.cal_date.specs.ClosedForms.{shifted_day, kernel_of_shifted_day, kernel_of, year_of_kernel, ordinal_of_kernel}
use Rattle.cal_date.specs.declared.kernel.JulianKernel.{JulianKernel}
use Rattle.cal_date.proofs.JulianDays.{number_at}
use Rattle.cal_date.proofs.Kernels.{HasJulianKernel, date_by_kernel, has_julian_kernel}
use Rattle.cal_date.proofs.kernel.date_of_julian_day.Goals as goal

-- After the test a day of the range has the Julian day and the kernel.
in_range : (c : goal.Else-kernel-gt-LAST_YEAR) → HasJulianKernel c.args.julian_day c.kernel_of_day-kernel.result (number_at c.args.julian_day)
unfolding kernel_of
in_range c =
    let j = c.args.julian_day in
    let same : to_z w32 (of_z w32 j) ≡ j = to_z-of_z w32 _ c.ranges.julian_day in
    let years = subst (λ (k : JulianKernel). k.years ≤ 3379599) c.kernel_of_day-kernel.ensures c.if-kernel-gt-LAST_YEAR.false in
    let h : IsDateNumber (j -ℤ first_julian_day) = record { not_before = omega (arith, ints, same); not_after = omega (arith, ints, same) } in
    let day : 503888919 + c.min-number.result ≡ shifted_day j = omega (arith, ints, same) in
    has_julian_kernel j c.kernel_of_day-kernel.result h (c.kernel_of_day-kernel.ensures ∙ ap kernel_of_shifted_day day)

pub date_of_kernel-requires : goal.date_of_kernel-requires
date_of_kernel-requires c = let at = in_range c in (number_at c.args.julian_day, at.date, at.has_kernel)

pub returns-clause-value : goal.returns-clause-value
returns-clause-value c =
    let at = in_range c.before in
    subst (λ n. IsDate n × HasJulianDay c.args.julian_day n) (sym (c.date_of_kernel.ensures (number_at c.args.julian_day) at.date at.has_kernel)) (at.date, at.has_day)

pub returns-clause-closed_form : goal.returns-clause-closed_form
returns-clause-closed_form c =
    let at = in_range c.before in
    let j = c.args.julian_day in
    subst (HasOrdinalDate (year_of_kernel (kernel_of j)) (ordinal_of_kernel (kernel_of j))) (sym (c.date_of_kernel.ensures (number_at j) at.date at.has_kernel))
    (date_by_kernel j (number_at j) at.date at.has_day)
