use Rattle.std.proofs.Common.{◌≡◌, arith, to_z, of_z, w32}
use Rattle.std.proofs.lemmas.Int.{to_z-of_z}
use Rattle.cal_date.proofs.Calendar.{stands_at}
use Rattle.cal_date.proofs.MonthStarts.{IsClamped, clamped}
use Rattle.cal_date.proofs.date.Date.from_month_index_clamped.Goals as goal
use Rattle.cal_date.proofs.date.Date.from_month_index_clamped.Goals.{After-min}

same : (c : After-min) → to_z w32 (of_z w32 c.args.year) ≡ c.args.year
same c = to_z-of_z w32 _ c.ranges.year

fits : (c : After-min) → IsClamped c.args.year c.args.index c.args.day c.min.result
fits c =
    let leap = rw (same c) at c.is_leap_year-leap.ensures in
    let begin = c.month_start.ensures.value c.args.year leap in
    let next = c.month_start-2.ensures.value c.args.year leap in
    clamped c.args.year c.args.index c.args.day _ _ _ c.requires.year c.requires.index c.requires.day begin next (grind (arith, c.from.ensures, c.min.ensures))

pub overflow_add-low : goal.overflow_add-low
overflow_add-low c = omega (arith, c.month_start.ensures.max, c.ranges.day)

pub pack_low_bits-requires-clause-low : goal.pack_low_bits-requires-clause-low
pack_low_bits-requires-clause-low c = let f = fits c in rw (same c, f.low_is) f.ordinal

pub returns-clause-value : goal.returns-clause-value
returns-clause-value c =
    let f = fits c.before in
    let number = rw (same c.before, f.low_is) at c.pack_low_bits.ensures.value in
    rw number (stands_at c.args.year c.args.index _ c.requires.year.0 c.requires.index f.day).has
