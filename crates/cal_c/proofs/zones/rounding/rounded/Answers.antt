use Rattle.std.proofs.Common.{rules, IsTrue, subst, sym}
use Rattle.cal_datetime.specs.OffsetDateTime.{LocalAndOffset}
use Rattle.cal_zone.specs.Local.{Shows}
use Rattle.cal_zoned.specs.Unchecked.{result_in}
use Rattle.cal_c.proofs.Needs.{met, unmet}
use Rattle.cal_c.proofs.ZonedResults.{rounds}
use Rattle.cal_c.proofs.zones.rounding.rounded.Goals as goal

pub returns : goal.returns
returns c = λ order.
    let z = c.args.zone.now in
    let moment = c.in-Some.ensures in
    let unit = c.in-Some-valid_rounding_unit.ensures in
    let mode = c.in-Some-valid_mode.ensures in
    let own : IsTrue c.is_in_zone.result = search rules in
    let shows = (c.is_in_zone.ensures order).0 own in
    met moment.0 (met (rw moment.1 at shows) (met unit.0 (met mode.0 (
      c.in-Some-valid_mode.value,
      mode.1,
      (result_in z c.round_in_zone.result, rounds z c.in-Some-valid_mode.value _ _ _ _ _ moment.1 unit.1 (c.round_in_zone.ensures.day order shows) (c.round_in_zone.ensures.clock order), c.zoned_result.ensures z),
    ))))

pub returns-in-None-valid_rounding_unit : goal.returns-in-None-valid_rounding_unit
returns-in-None-valid_rounding_unit c = λ order.
    let moment = c.in-Some.ensures in
    let own : IsTrue c.is_in_zone.result = search rules in
    let shows = rw moment.1 at ((c.is_in_zone.ensures order).0 own) in
    met moment.0 (met shows (unmet c.in-None-valid_rounding_unit.ensures c.error-in-None-valid_rounding_unit.ensures))

pub returns-in-None-valid_mode : goal.returns-in-None-valid_mode
returns-in-None-valid_mode c = λ order.
    let moment = c.in-Some.ensures in
    let own : IsTrue c.is_in_zone.result = search rules in
    let shows = rw moment.1 at ((c.is_in_zone.ensures order).0 own) in
    met moment.0 (met shows (met c.in-Some-valid_rounding_unit.ensures.0 (unmet c.in-None-valid_mode.ensures c.error-in-None-valid_mode.ensures)))

pub returns-then-not-is_in_zone : goal.returns-then-not-is_in_zone
returns-then-not-is_in_zone c = λ order.
    let moment = c.in-Some.ensures in
    let other : IsTrue c.is_in_zone.result → ⊥ = search rules in
    met moment.0 (unmet (λ shows. other ((c.is_in_zone.ensures order).1 (subst (λ (m : LocalAndOffset). Shows c.args.zone.now m.local m) (sym moment.1) shows)))
    c.error-then-not-is_in_zone.ensures)
