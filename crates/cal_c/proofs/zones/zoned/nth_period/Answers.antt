use Rattle.std.proofs.Common.{rules, IsTrue, subst, sym}
use Rattle.std.proofs.Math.Facts.{to_z-of_z}
use Rattle.cal_datetime.specs.OffsetDateTime.{LocalAndOffset}
use Rattle.cal_zone.specs.Local.{Shows}
use Rattle.cal_zoned.specs.Unchecked.{result_in}
use Rattle.cal_c.proofs.Needs.{met, unmet}
use Rattle.cal_c.proofs.zones.zoned.nth_period.Goals as goal

pub returns : goal.returns
returns c = λ order.
    let z = c.args.zone.now in
    let moment = c.in-Some.ensures in
    let period = c.in-Some-valid_period.ensures in
    let policy = c.in-Some-valid_policy.ensures in
    let own : IsTrue c.is_in_zone.result = search rules in
    let shows = rw moment.1 at ((c.is_in_zone.ensures order).0 own) in
    let g = c.ranges.n in
    let found = (simp to_z-of_z at c.nth_later.ensures) order in
    met moment.0 (met shows (met period.0 (met policy.0 (c.in-Some-valid_policy.value, policy.1, (result_in z c.nth_later.result, rw (moment.1, period.1) at found, c.zoned_result.ensures z)))))

pub returns-in-None-valid_period : goal.returns-in-None-valid_period
returns-in-None-valid_period c = λ order.
    let moment = c.in-Some.ensures in
    let own : IsTrue c.is_in_zone.result = search rules in
    let shows = rw moment.1 at ((c.is_in_zone.ensures order).0 own) in
    met moment.0 (met shows (unmet c.in-None-valid_period.ensures c.error-in-None-valid_period.ensures))

pub returns-in-None-valid_policy : goal.returns-in-None-valid_policy
returns-in-None-valid_policy c = λ order.
    let moment = c.in-Some.ensures in
    let own : IsTrue c.is_in_zone.result = search rules in
    let shows = rw moment.1 at ((c.is_in_zone.ensures order).0 own) in
    met moment.0 (met shows (met c.in-Some-valid_period.ensures.0 (unmet c.in-None-valid_policy.ensures c.error-in-None-valid_policy.ensures)))

pub returns-then-not-is_in_zone : goal.returns-then-not-is_in_zone
returns-then-not-is_in_zone c = λ order.
    let moment = c.in-Some.ensures in
    let other : IsTrue c.is_in_zone.result → ⊥ = search rules in
    met moment.0 (unmet (λ shows. other ((c.is_in_zone.ensures order).1 (subst (λ (m : LocalAndOffset). Shows c.args.zone.now m.local m) (sym moment.1) shows)))
    c.error-then-not-is_in_zone.ensures)
