use Rattle.std.proofs.Common.{arith}
use Rattle.std.proofs.lemmas.Int.{ints}
use Rattle.cal_c.specs.CheckedWorkdays.{week_of}
use Rattle.cal_schedule.proofs.WorkdaysSearch.{from-rank}
use Rattle.cal_c.proofs.schedule.workdays.ranks.RankedWorkdays.following.Goals as goal

pub returns-clause-value : goal.returns-clause-value
returns-clause-value c = λ checked.
    (from-rank (week_of c.args.self.now) c.args.day 0 _ _ (omega (arith, c.requires)) (omega (arith, ints, c.rank.ensures.value checked)) (c.day_of_rank.ensures.value checked)).0
