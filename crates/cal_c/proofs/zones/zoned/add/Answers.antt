use Rattle.std.proofs.Common.{rules, IsTrue, subst, sym}
use Rattle.cal_datetime.specs.OffsetDateTime.{LocalAndOffset}
use Rattle.cal_zone.specs.Local.{Shows}
use Rattle.cal_zoned.specs.Unchecked.{result_in}
use Rattle.cal_c.proofs.Needs.{met, unmet}
use Rattle.cal_c.proofs.zones.zoned.add.Goals as goal

pub returns : goal.returns
returns c = λ order.
    let z = c.args.zone.now in
    let moment = c.in-Some.ensures in
    let duration = c.in-Some-valid_duration.ensures in
    let own : IsTrue c.is_in_zone.result = search rules in
    let shows = rw moment.1 at ((c.is_in_zone.ensures order).0 own) in
    let found = c.later.ensures order in
    met moment.0 (met shows (met duration.0 (result_in z c.later.result, rw (moment.1, duration.1) at found, c.zoned_result.ensures z)))

pub returns-in-None-valid_duration : goal.returns-in-None-valid_duration
returns-in-None-valid_duration c = λ order.
    let moment = c.in-Some.ensures in
    let own : IsTrue c.is_in_zone.result = search rules in
    let shows = rw moment.1 at ((c.is_in_zone.ensures order).0 own) in
    met moment.0 (met shows (unmet c.in-None-valid_duration.ensures c.error-in-None-valid_duration.ensures))

pub returns-then-not-is_in_zone : goal.returns-then-not-is_in_zone
returns-then-not-is_in_zone c = λ order.
    let moment = c.in-Some.ensures in
    let other : IsTrue c.is_in_zone.result → ⊥ = search rules in
    met moment.0 (unmet (λ shows. other ((c.is_in_zone.ensures order).1 (subst (λ (m : LocalAndOffset). Shows c.args.zone.now m.local m) (sym moment.1) shows)))
    c.error-then-not-is_in_zone.ensures)
