use Rattle.std.proofs.Common.{refl, ap, ◌∙◌, subst, Ok, Err}
use Rattle.cal_datetime.specs.OffsetDateTime.{LocalAndOffset}
use Rattle.cal_c.specs.TextSets.{AreReadingsWritten}
use Rattle.cal_c.proofs.EventSets.{readings-invalid, readings-other, readings-written}
use Rattle.cal_c.proofs.schedule.events.readings.fots_event_readings.Goals as goal

pub returns-in-Err : goal.returns-in-Err
returns-in-Err c = (Err c.in-Err.error, (c.in-Err.ensures, (c.parse_error.ensures, refl)))

pub returns-in-None : goal.returns-in-None
returns-in-None c = (
  Ok c.in-Ok.value,
  (c.in-Ok.ensures, readings-invalid c.in-Ok.value c.args.from c.args.readings.now c.error.result c.in-None.ensures c.error.ensures),
)

pub returns-in-Err-readings : goal.returns-in-Err-readings
returns-in-Err-readings c = (
  Ok c.in-Ok.value,
  (c.in-Ok.ensures, readings-other c.in-Ok.value c.args.from c.args.readings.now c.line_error.result c.in-Err-readings.line c.in-Some.ensures.0 c.in-Err-readings.ensures c.line_error.ensures),
)

pub returns : goal.returns
returns c =
    let made = c.set.ensures in
    let local = c.local.ensures.value ∙ ap (λ (m : LocalAndOffset). m.local) c.in-Some.ensures.1 in
    let written = subst (λ readings. AreReadingsWritten readings c.args.readings.now c.write_readings.new.readings c.write_readings.result) c.readings_from.ensures c.write_readings.ensures in (
      Ok c.in-Ok.value,
      (
        c.in-Ok.ensures,
        readings-written c.in-Ok.value c.args.from c.local.result c.in-Ok-readings.value c.set.result c.args.readings.now c.write_readings.new.readings
            c.write_readings.result c.ok.result c.in-Some.ensures.0 local c.in-Ok-readings.ensures
            (record { rule = made.rule; dates = made.dates; exceptions = made.exceptions }) written c.ok.ensures,
      ),
    )
