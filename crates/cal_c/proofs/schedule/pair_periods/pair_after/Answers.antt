use Rattle.std.proofs.Math.Facts.{to_z-of_z}
use Rattle.cal_c.proofs.Periods.{no_pair, pair_is}
use Rattle.cal_c.proofs.schedule.pair_periods.pair_after.Goals as goal

pub returns-in-None : goal.returns-in-None
returns-in-None c =
    let g = c.ranges.n in
    let none = simp to_z-of_z at c.in-None.ensures in
    no_pair c.args.local _ _ _ c.error.result none.every c.error.ensures

pub returns : goal.returns
returns c =
    let g = c.ranges.n in
    let some = simp to_z-of_z at c.in-Some.ensures in
    pair_is c.args.local _ _ _ c.in-Some.value c.date.result c.time.result c.from_option.result c.date.ensures.value c.time.ensures.value c.from_option.ensures some.value.0 some.value.1 some.every
