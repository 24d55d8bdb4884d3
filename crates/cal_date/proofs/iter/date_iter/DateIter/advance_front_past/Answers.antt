use Rattle.std.proofs.Common.{arith}
use Rattle.std.proofs.lemmas.Bool.Decides.{nat_tests}
use Rattle.cal_date.specs.DateIter.{walk}
use Rattle.cal_date.proofs.DateIters.{without_first-upto}
use Rattle.cal_date.proofs.iter.date_iter.DateIter.advance_front_past.Goals as goal

pub returns-then-lt : goal.returns-then-lt
returns-then-lt c =
    without_first-upto (walk c.self.inside.front c.self.inside.back) _ c.args.back c.args.item _ c.self.view_is c.requires.back c.requires.from_front (grind (arith, nat_tests)) c.day_after-self-inside.ensures
