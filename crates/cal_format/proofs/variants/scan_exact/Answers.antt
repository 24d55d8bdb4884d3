use Rattle.std.proofs.Common.{ap}
use Rattle.std.specs.Prelude.{Some}
use Rattle.cal_format.proofs.VariantScans.{never-stops, same-scan, exact-ended}
use Rattle.cal_format.proofs.variants.scan_exact.Goals as goal

pub returns-in-Some-clause-every : goal.returns-in-Some-clause-every
returns-in-Some-clause-every c n rest exact fit ended e =
    let found = same-scan c.args.item c.in-Some.number n _ _ rest c.in-Some.ensures.range fit (exact-ended c.args.item rest exact ended) c.in-Some.ensures.scans c.in-Some.ensures.value e in
    (ap (λ k. Some k) found.0, found.1)

pub returns-in-None-clause-every : goal.returns-in-None-clause-every
returns-in-None-clause-every c n rest exact fit ended e = never-stops c.args.item n _ _ rest _ fit (exact-ended c.args.item rest exact ended) e c.in-None.ensures.scans
