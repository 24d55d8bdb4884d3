use Rattle.std.proofs.Common.{◌≡◌, ℕ, ℤ, ap, sym, ◌∙◌, arith}
use Rattle.std.proofs.lemmas.Int.{ints}
use Rattle.cal_date.specs.Date.{julian_day_at}
use Rattle.cal_date.specs.ClosedForms.{kernel_of, HasKernel}
use Rattle.cal_date.specs.declared.kernel.JulianKernel.{JulianKernel}
use Rattle.cal_date.proofs.date.Date.from_number.Goals as goal
use Rattle.cal_date.proofs.date.Date.from_number.Goals.{After-julian_kernel}

has_kernel : (k : JulianKernel) (j : ℤ) (n : ℕ) → k ≡ kernel_of j → j ≡ julian_day_at n → HasKernel k n
has_kernel k j n is day = ap kernel_of (sym day) ∙ sym is

-- The kernel is the kernel of the day with this number.
has : (c : After-julian_kernel) → HasKernel c.julian_kernel.result c.args.number
has c = has_kernel c.julian_kernel.result _ c.args.number c.julian_kernel.ensures.value (omega (arith, ints, c.requires))

pub julian_kernel-requires : goal.julian_kernel-requires
julian_kernel-requires c = record { not_before = omega (arith, ints, c.requires); not_after = omega (arith, ints, c.requires) }

pub date_of_kernel-requires : goal.date_of_kernel-requires
date_of_kernel-requires c = (c.args.number, c.requires, has c)

pub returns : goal.returns
returns c = c.date_of_kernel.ensures c.args.number c.requires (has c.before)
