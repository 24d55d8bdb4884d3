use Rattle.std.proofs.Common.{◌<◌, arith}
use Rattle.std.proofs.lemmas.Bool.Decides.{nat_tests}
use Rattle.caldate_run.proofs.Listed.{one_after}
use Rattle.caldate_run.proofs.list.day_within.Goals as goal

pub returns-then-gt-clause-day : goal.returns-then-gt-clause-day
returns-then-gt-clause-day c = λ day h.
    let past : c.args.listing.now.last < c.in_ok-day.day = grind (arith, nat_tests) in
    let found = c.in_ok-day.ensures.day in
    omega (arith, past, h.not_past, one_after c.args.listing.now.step.unit c.args.count c.args.listing.now.first c.in_ok-day.day day found.1 h.after)
