use Rattle.std.proofs.Common.{◌∙◌, ap, subst, sym}
use Rattle.cal_recurrence.specs.RecurrenceReadings.{readings_of}
use Rattle.caldate_lines.specs.Outputs.{WritesPage}
use Rattle.caldate_run.specs.Recurring.{ListsSpan, lines_left}
use Rattle.caldate_run.specs.declared.list.remaining.Remaining.TheVariants.{Moments}
use Rattle.caldate_run.proofs.FrontDays.{all_days, all_readings}
use Rattle.caldate_run.proofs.list.recurring.list_occurrences.Goals as goal

pub returns-in-Dates-clause-lists : goal.returns-in-Dates-clause-lists
returns-in-Dates-clause-lists g c =
    let its = c.args.asked.recurrence in
    let old = g.W.Sink.contents c.args.writer.now in
    let new = g.W.Sink.contents c.write_lines.new.writer in
    let days = all_days its c.in-Dates.first c.in-Dates.last c.days.result c.days.ensures in
    subst (λ span. ListsSpan span its c.write_lines.result old new) (sym c.in-Dates.is)
    (subst (λ page. WritesPage page c.write_lines.result old new) days c.write_lines.ensures.lines)

pub returns-in-Moments-clause-lists : goal.returns-in-Moments-clause-lists
returns-in-Moments-clause-lists g c =
    let its = c.args.asked.recurrence in
    let first = c.in-Moments.first in
    let last = c.in-Moments.last in
    let outcome = c.write_lines-in-Moments.result in
    let old = g.W.Sink.contents c.args.writer.now in
    let new = g.W.Sink.contents c.write_lines-in-Moments.new.writer in
    let readings =
    ap (λ offset. lines_left (Moments c.readings-readings.result offset last)) c.offset.ensures.value
    ∙ all_readings its first last c.readings-readings.result (c.readings-readings.ensures ∙ ap (readings_of its) c.local.ensures.value) in
    subst (λ span. ListsSpan span its outcome old new) (sym c.in-Moments.is)
    (subst (λ page. WritesPage page outcome old new) readings c.write_lines-in-Moments.ensures.lines)
