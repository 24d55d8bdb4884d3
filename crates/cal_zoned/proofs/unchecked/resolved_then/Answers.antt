use Rattle.std.proofs.Common.{◌≡◌, Ok, arith, subst, pos}
use Rattle.std.proofs.lemmas.Int.{ints}
use Rattle.cal_datetime.specs.DateTime.{IsDateTime}
use Rattle.cal_zoned.specs.Unchecked.{in_zone}
use Rattle.cal_zoned.proofs.OneResult.{moved_then}
use Rattle.cal_zoned.proofs.Shown.{shown_resolved, still_seen}
use Rattle.cal_zoned.proofs.unchecked.resolved_then.Goals as goal

pub returns-then-nanoseconds-eq0 : goal.returns-then-nanoseconds-eq0
returns-then-nanoseconds-eq0 c = λ order.
    let zone = c.args.zone.now in
    let m = c.in-Ok.moment in
    let zero : c.args.nanoseconds ≡ pos 0 = omega (arith, ints) in
    let h = c.in-Ok.ensures order in
    let inside = subst IsDateTime c.local.ensures.value c.local.ensures.range in
    moved_then c.args.policy zone c.args.reading c.args.nanoseconds (in_zone zone m) _ h
    (still_seen zone m c.args.nanoseconds zero (shown_resolved c.args.policy zone c.args.reading (Ok m) h) inside)
