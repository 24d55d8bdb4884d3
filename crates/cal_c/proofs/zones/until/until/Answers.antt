use Rattle.std.proofs.Common.{rules, IsTrue, subst, sym}
use Rattle.cal_datetime.specs.OffsetDateTime.{LocalAndOffset}
use Rattle.cal_zone.specs.Local.{Shows}
use Rattle.cal_c.proofs.Needs.{met, unmet}
use Rattle.cal_c.proofs.zones.until.until.Goals as goal

pub returns : goal.returns
returns c = λ order.
    let moment = c.in-Some.ensures in
    let own : IsTrue c.is_in_zone.result = search rules in
    let shows = rw moment.1 at ((c.is_in_zone.ensures order).0 own) in
    met moment.0 (met shows (rw moment.1 at (c.until_from.ensures order)))

pub returns-then-not-is_in_zone : goal.returns-then-not-is_in_zone
returns-then-not-is_in_zone c = λ order.
    let moment = c.in-Some.ensures in
    let other : IsTrue c.is_in_zone.result → ⊥ = search rules in
    met moment.0 (unmet (λ shows. other ((c.is_in_zone.ensures order).1 (subst (λ (m : LocalAndOffset). Shows c.args.zone.now m.local m) (sym moment.1) shows)))
    c.error-then-not-is_in_zone.ensures)
