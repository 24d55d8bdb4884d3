use Rattle.std.proofs.Common.{Ok}
use Rattle.cal_recurrence.specs.SetWritten.{set_text}
use Rattle.cal_c.proofs.CalendarLines.{lines-written}
use Rattle.cal_c.proofs.schedule.events.recurrence_lines.fots_event_recurrence_lines.Goals as goal

pub returns-in-Some : goal.returns-in-Some
returns-in-Some c = (
  Ok c.in-Ok.value,
  (c.in-Ok.ensures, lines-written (set_text c.in-Ok.value) c.args.bytes.now _ c.in-Some.length c.ok.result c.in-Some.ensures.text c.ok.ensures),
)
