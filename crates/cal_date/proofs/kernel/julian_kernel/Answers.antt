use Rattle.std.proofs.Common.{◌≡◌, sym, subst, ap, arith, ◌∙◌, ◌-ℤ◌, unsigned_abs, to_z, of_z, w32}
use Rattle.std.proofs.lemmas.Int.{ints, to_z-of_z}
use Rattle.cal_date.specs.Date.{first_julian_day, IsDate, HasOrdinalDate, julian_day_at}
use Rattle.cal_date.specs.ClosedForms.{kernel_of_shifted_day, kernel_of, year_of_kernel, ordinal_of_kernel}
use Rattle.cal_date.proofs.Kernels.{HasOrdinalDate-kernel, leap_by_kernel-is}
use Rattle.cal_date.proofs.kernel.julian_kernel.Goals as goal

pub returns-clause-value : goal.returns-clause-value
unfolding kernel_of
returns-clause-value c =
    let same : to_z w32 (of_z w32 c.args.julian_day) ≡ c.args.julian_day = to_z-of_z w32 _ c.ranges.julian_day in
    c.kernel_of_day.ensures ∙ ap kernel_of_shifted_day (rw same at c.shifted_day.ensures)

pub returns-clause-date : goal.returns-clause-date
returns-clause-date c = λ n h has.
    let same = ap kernel_of has ∙ sym (returns-clause-value c) in
    subst (λ k. HasOrdinalDate (year_of_kernel k) (ordinal_of_kernel k) n) same (HasOrdinalDate-kernel n h)

pub returns-clause-leap : goal.returns-clause-leap
returns-clause-leap c =
    let n = unsigned_abs (c.args.julian_day -ℤ first_julian_day) in
    let low = c.requires.not_before in
    let high = c.requires.not_after in
    let day : IsDate n = omega (arith, ints) in
    let same = ap kernel_of (let e : julian_day_at n ≡ c.args.julian_day = omega (arith, ints) in e) ∙ sym (returns-clause-value c) in
    leap_by_kernel-is _ n day same
