use Rattle.std.proofs.Common.{◌≡◌, refl, Ok, Err}
use Rattle.cal_zone.specs.Timeline.{Timeline}
use Rattle.cal_c.specs.TextSets.{IsZoneOf}
use Rattle.cal_c.proofs.EventSets.{moments-invalid, moments-nowhere, moments-other, moments-written}
use Rattle.cal_c.proofs.WrittenMoments.{one-zone}
use Rattle.cal_c.proofs.schedule.events.moments.fots_event_moments.Goals as goal

pub returns-in-Err : goal.returns-in-Err
returns-in-Err c = (Err c.in-Err.error, (c.in-Err.ensures, (c.parse_error.ensures, refl)))

pub returns-in-None : goal.returns-in-None
returns-in-None c = (
  Ok c.in-Ok.value,
  (c.in-Ok.ensures, moments-invalid c.in-Ok.value c.args.zone.now.bytes.now c.args.after c.args.moments.now c.error.result c.in-None.ensures c.error.ensures),
)

pub returns-in-None-zone_of : goal.returns-in-None-zone_of
returns-in-None-zone_of c =
    let none : (z : Timeline) → ¬ IsZoneOf c.args.zone.now.bytes.now z = λ z is. let no = c.in-None-zone_of.ensures.every z is in absurd (cc) in (
      Ok c.in-Ok.value,
      (c.in-Ok.ensures, moments-nowhere c.in-Ok.value c.args.zone.now.bytes.now c.args.after c.args.moments.now c.error-in-None-zone_of.result c.in-Some.ensures.0 none c.error-in-None-zone_of.ensures),
    )

pub returns-in-Err-instants : goal.returns-in-Err-instants
returns-in-Err-instants c = (
  Ok c.in-Ok.value,
  (
    c.in-Ok.ensures,
    moments-other c.in-Ok.value c.args.zone.now.bytes.now c.args.after c.args.moments.now c.line_error.result c.in-Some-zone_of.value c.in-Err-instants.line
        c.in-Some.ensures.0 c.in-Some-zone_of.ensures.some c.in-Err-instants.ensures c.line_error.ensures,
  ),
)

pub returns : goal.returns
returns c =
    let made = c.set-set.ensures in
    let one : (z : Timeline) → IsZoneOf c.args.zone.now.bytes.now z → c.in-Some-zone_of.value ≡ z = λ z is. one-zone c.in-Some-zone_of.value z (c.in-Some-zone_of.ensures.every z is) in (
      Ok c.in-Ok.value,
      (
        c.in-Ok.ensures,
        moments-written c.in-Ok.value c.args.zone.now.bytes.now c.args.after c.in-Some.value c.in-Some-zone_of.value c.in-Ok-instants.value c.set-set.result
            c.args.moments.now c.write_moments.new.moments c.write_moments.result c.ok.result c.in-Some.ensures.0 c.in-Some.ensures.1 c.in-Some-zone_of.ensures.some one
            c.in-Ok-instants.ensures
            (record { zone = made.zone; rule = made.rule; dates = made.dates; without = made.readings; until = made.until; instants = made.instants; exceptions = made.exceptions })
            c.write_moments.ensures.written c.ok.ensures,
      ),
    )
