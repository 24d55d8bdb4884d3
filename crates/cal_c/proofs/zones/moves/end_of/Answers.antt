use Rattle.std.proofs.Common.{rules, IsTrue, subst, sym}
use Rattle.cal_datetime.specs.OffsetDateTime.{LocalAndOffset}
use Rattle.cal_zone.specs.Local.{Shows}
use Rattle.cal_c.proofs.Needs.{met, unmet}
use Rattle.cal_c.proofs.zones.moves.end_of.Goals as goal

pub returns : goal.returns
returns c = λ order.
    let moment = c.in-Some.ensures in
    let own : IsTrue c.is_in_zone.result = search rules in
    let shows = rw moment.1 at ((c.is_in_zone.ensures order).0 own) in
    let unit = c.in-Some-valid_unit.ensures in
    let found = c.unit_end.ensures order in
    met moment.0 (met shows (met unit.0 (c.in-Some-valid_unit.value, unit.1, rw moment.1 at found)))

pub returns-in-None-valid_unit : goal.returns-in-None-valid_unit
returns-in-None-valid_unit c = λ order.
    let moment = c.in-Some.ensures in
    let own : IsTrue c.is_in_zone.result = search rules in
    let shows = rw moment.1 at ((c.is_in_zone.ensures order).0 own) in
    met moment.0 (met shows (unmet c.in-None-valid_unit.ensures c.error-in-None-valid_unit.ensures))

pub returns-then-not-is_in_zone : goal.returns-then-not-is_in_zone
returns-then-not-is_in_zone c = λ order.
    let moment = c.in-Some.ensures in
    let other : IsTrue c.is_in_zone.result → ⊥ = search rules in
    met moment.0 (unmet (λ shows. other ((c.is_in_zone.ensures order).1 (subst (λ (m : LocalAndOffset). Shows c.args.zone.now m.local m) (sym moment.1) shows)))
    c.error-then-not-is_in_zone.ensures)
