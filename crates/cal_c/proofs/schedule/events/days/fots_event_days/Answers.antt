use Rattle.std.proofs.Common.{refl, subst, Ok, Err}
use Rattle.std.proofs.lemmas.Int.{to_z-of_z}
use Rattle.cal_c.specs.Recurrences.{AreDatesWritten}
use Rattle.cal_c.proofs.EventSets.{days-invalid, days-other, days-written}
use Rattle.cal_c.proofs.schedule.events.days.fots_event_days.Goals as goal

pub returns-in-Err : goal.returns-in-Err
returns-in-Err c = (Err c.in-Err.error, (c.in-Err.ensures, (c.parse_error.ensures, refl)))

pub returns-in-None : goal.returns-in-None
returns-in-None c =
    let f = c.ranges.from in
    let out = simp to_z-of_z at c.in-None.ensures in (
      Ok c.in-Ok.value,
      (c.in-Ok.ensures, days-invalid c.in-Ok.value c.args.from c.args.days.now c.error.result out c.error.ensures),
    )

pub returns-in-Err-days : goal.returns-in-Err-days
returns-in-Err-days c =
    let f = c.ranges.from in
    let at = simp to_z-of_z at c.in-Some.ensures in (
      Ok c.in-Ok.value,
      (c.in-Ok.ensures, days-other c.in-Ok.value c.args.from c.args.days.now c.line_error.result c.in-Err-days.line at.0 c.in-Err-days.ensures c.line_error.ensures),
    )

pub returns : goal.returns
returns c =
    let f = c.ranges.from in
    let at = simp to_z-of_z at c.in-Some.ensures in
    let made = c.set.ensures in
    let written = subst (λ days. AreDatesWritten days c.args.days.now c.write_walk.new.days c.write_walk.result) c.days_from.ensures c.write_walk.ensures in (
      Ok c.in-Ok.value,
      (
        c.in-Ok.ensures,
        days-written c.in-Ok.value c.args.from c.in-Some.value c.in-Ok-days.value c.set.result c.args.days.now c.write_walk.new.days c.write_walk.result c.ok.result
            at.0 at.1 c.in-Ok-days.ensures (record { rule = made.rule; dates = made.dates; exceptions = made.exceptions }) written c.ok.ensures,
      ),
    )
