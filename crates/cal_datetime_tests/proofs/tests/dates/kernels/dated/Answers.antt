use Rattle.std.proofs.Common.{◌∙◌, ap, w32}
use Rattle.std.proofs.lemmas.Int.{to_z-of_z}
use Rattle.cal_date.specs.ClosedForms.{kernel_of}
use Rattle.cal_date.proofs.JulianDays.{number_at}
use Rattle.cal_date.proofs.Kernels.{has_julian_kernel}
use Rattle.cal_datetime_tests.proofs.tests.dates.kernels.dated.Goals as goal

pub ordinal_date-requires : goal.ordinal_date-requires
ordinal_date-requires c =
    let j = c.args.julian_day in
    let at = has_julian_kernel j c.julian_kernel-kernel.result c.requires (c.julian_kernel-kernel.ensures.value ∙ ap kernel_of (to_z-of_z w32 _ c.ranges.julian_day)) in
    (number_at j, at.date, at.has_kernel)
