use Rattle.std.proofs.Common.{rules, sym, w32, FitsSigned}
use Rattle.std.proofs.lemmas.Int.{to_z-of_z}
use Rattle.cal_time_tests.proofs.tests.laws.dates.by_iso_week_date.Goals as goal

pub returns : goal.returns
returns c =
    let known = c.to_iso_week_date-year.ensures in
    let fits : FitsSigned w32 c.to_iso_week_date-year.result.0 = search rules in
    c.from_iso_week_date.ensures.every c.args.date known.in_range (rw (sym (to_z-of_z w32 _ fits)) at known.value)
