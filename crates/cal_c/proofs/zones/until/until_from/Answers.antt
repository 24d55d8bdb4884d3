use Rattle.std.proofs.Common.{rules, IsTrue, subst, sym}
use Rattle.cal_datetime.specs.OffsetDateTime.{LocalAndOffset}
use Rattle.cal_zone.specs.Local.{Shows}
use Rattle.cal_c.proofs.Needs.{met, unmet}
use Rattle.cal_c.proofs.zones.until.until_from.Goals as goal

pub returns : goal.returns
returns c = λ order.
    let other = c.in-Some.ensures in
    let own : IsTrue c.is_in_zone.result = search rules in
    let shows = rw other.1 at ((c.is_in_zone.ensures order).0 own) in
    let unit = c.in-Some-valid_unit.ensures in
    let policy = c.in-Some-valid_policy.ensures in
    let found = rw other.1 at (c.until_by.ensures order) in
    met other.0 (met shows (met unit.0 (met policy.0 (c.in-Some-valid_unit.value, unit.1, (c.in-Some-valid_policy.value, policy.1, found)))))

pub returns-in-None-valid_unit : goal.returns-in-None-valid_unit
returns-in-None-valid_unit c = λ order.
    let other = c.in-Some.ensures in
    let own : IsTrue c.is_in_zone.result = search rules in
    let shows = rw other.1 at ((c.is_in_zone.ensures order).0 own) in
    met other.0 (met shows (unmet c.in-None-valid_unit.ensures c.error-in-None-valid_unit.ensures))

pub returns-in-None-valid_policy : goal.returns-in-None-valid_policy
returns-in-None-valid_policy c = λ order.
    let other = c.in-Some.ensures in
    let own : IsTrue c.is_in_zone.result = search rules in
    let shows = rw other.1 at ((c.is_in_zone.ensures order).0 own) in
    met other.0 (met shows (met c.in-Some-valid_unit.ensures.0 (unmet c.in-None-valid_policy.ensures c.error-in-None-valid_policy.ensures)))

pub returns-then-not-is_in_zone : goal.returns-then-not-is_in_zone
returns-then-not-is_in_zone c = λ order.
    let other = c.in-Some.ensures in
    let no : IsTrue c.is_in_zone.result → ⊥ = search rules in
    met other.0 (unmet (λ shows. no ((c.is_in_zone.ensures order).1 (subst (λ (m : LocalAndOffset). Shows c.args.zone.now m.local m) (sym other.1) shows)))
    c.error-then-not-is_in_zone.ensures)
