use Rattle.std.proofs.Common.{sym, ◌∙◌}
use Rattle.cal_date.specs.ClosedForms.{year_of_kernel}
use Rattle.cal_date.proofs.Dates.{IsYear-i32, in_range}
use Rattle.cal_date.proofs.Kernels.{in_range-kernel, leap_by_kernel-is}
use Rattle.cal_date.proofs.kernel.date_of_kernel.Goals as goal

pub year-requires : goal.year-requires
year-requires c = (in_range-kernel c.args.kernel c.requires.0 c.requires.1 c.requires.2).year

pub pack-requires : goal.pack-requires
pack-requires c =
    let at = in_range-kernel c.args.kernel c.requires.0 c.requires.1 c.requires.2 in
    rw (c.year.ensures, c.ordinal.ensures, IsYear-i32 (year_of_kernel c.args.kernel) at.year) (record { year = at.year; leap = c.is_leap_year.ensures ∙ leap_by_kernel-is c.args.kernel c.requires.0 c.requires.1 c.requires.2; ordinal = at.ordinal })

pub returns : goal.returns
returns c = λ n h has.
    let at = in_range-kernel c.args.kernel n h has in
    let made = c.pack.ensures in
    let date = rw (c.year.ensures, c.ordinal.ensures, IsYear-i32 (year_of_kernel c.args.kernel) at.year) at made.date in
    (in_range c.pack.result _ _ made.range date).number_is ∙ sym at.number_is
