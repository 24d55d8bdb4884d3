use Rattle.std.proofs.Common.{arith}
use Rattle.std.proofs.lemmas.Int.{ints}
use Rattle.cal_time.specs.Laws.{pair_at-some}
use Rattle.guide.proofs.callers.add_zero.Goals as goal

pub returns : goal.returns
returns c =
    pair_at-some _ c.args.date c.args.time _ c.add_to_pair.ensures (record {
      date = c.year.ensures.in_range;
      time = c.hour.ensures.in_range;
      number_is = omega (arith, ints);
    })
