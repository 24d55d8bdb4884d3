use Rattle.std.proofs.Common.{◌≡◌, ◌<◌, ◌++◌, ◌∷◌, [], ◌∙◌, Err, ap, pos, refl, subst, sym}
use Rattle.std.specs.Prelude.{◌-ℤ◌, is_ok}
use Rattle.cal_datetime.specs.OffsetDateTime.{instant}
use Rattle.cal_recurrence.specs.Occurrences.{nanoseconds_left}
use Rattle.caldate_lines.specs.Calls.{Writes, write_failure}
use Rattle.caldate_lines.specs.Outputs.{HasTaken, WritesPage}
use Rattle.caldate_lines.proofs.Outputs.{new_output, taken_all}
use Rattle.caldate_run.specs.Events.{time_line, AreTimes}
use Rattle.caldate_run.proofs.EventTimes.{end_in, fewer_left, next_in, no_times}
use Rattle.caldate_run.proofs.Listed.{lists, one_more}
use Rattle.caldate_run.proofs.list.events.list_events.Goals as goal

pub loop-moment-init : goal.loop-moment-init
loop-moment-init g c = (
  [],
  instant c.args.events.now.first -ℤ pos 1,
  new_output g.W.Sink.contents g.W.Sink.write_gives _ c.new-output.result c.new-output.ensures.buffer c.new-output.ensures.outcome,
  c.next_time-next.ensures,
  λ all items are. (items, are, refl),
)

pub loop-moment-preserved : goal.loop-moment-preserved
loop-moment-preserved g c =
    let (given, x, outputs, after, follows) = c.loop-moment.invariant in
    let moment = c.in-Some.moment in
    let events = c.args.events.now in
    let bytes = c.as_bytes.result.now ++ 10 ∷ [] in
    let line : bytes ≡ time_line events (instant moment) = ap (λ text. text ++ 10 ∷ []) (c.as_bytes.ensures.value ∙ c.time_text.ensures) in
    let next = next_in events x c.loop-moment.next moment after c.in-Some.ensures.0 c.in-Some.ensures.1 in (
      given ++ bytes,
      instant moment,
      c.push_line.ensures.given given _ outputs,
      c.next_time-next-in-Some.ensures,
      one_more (time_line events) (AreTimes events) (instant events.first -ℤ pos 1) x (instant moment) given bytes (instant moment) line (λ all items are. (next, are)) follows,
    )

pub loop-moment-smaller : goal.loop-moment-smaller
loop-moment-smaller g c =
    subst (λ f. nanoseconds_left c.next_time-next-in-Some.result < nanoseconds_left f) (sym c.in-Some.ensures.0)
    (fewer_left c.args.events.now c.in-Some.moment c.next_time-next-in-Some.result c.next_time-next-in-Some.ensures)

pub returns-in-Err-clause-lists : goal.returns-in-Err-clause-lists
returns-in-Err-clause-lists g c =
    let (given, x, outputs, after, follows) = c.loop-moment.invariant in
    let moment = c.in-Some.moment in
    let events = c.args.events.now in
    let bytes = c.as_bytes.result.now ++ 10 ∷ [] in
    let line : bytes ≡ time_line events (instant moment) = ap (λ text. text ++ 10 ∷ []) (c.as_bytes.ensures.value ∙ c.time_text.ensures) in
    let next = next_in events x c.loop-moment.next moment after c.in-Some.ensures.0 c.in-Some.ensures.1 in
    lists (time_line events) (AreTimes events) (instant events.first -ℤ pos 1) (instant moment) (given ++ bytes) (Err c.in-Err.error) (g.W.Sink.contents c.args.writer.now) (g.W.Sink.contents c.push_line.new.writer) tt
    (one_more (time_line events) (AreTimes events) (instant events.first -ℤ pos 1) x (instant moment) given bytes (instant moment) line (λ all items are. (next, are)) follows)
    (subst (λ outcome. HasTaken outcome (given ++ bytes) c.push_line.new.self.buffer (g.W.Sink.contents c.args.writer.now) (g.W.Sink.contents c.push_line.new.writer)) (sym c.push_line.ensures.value ∙ c.in-Err.is)
    (c.push_line.ensures.given given _ outputs).taken)

pub returns-in-Err-clause-writes : goal.returns-in-Err-clause-writes
returns-in-Err-clause-writes g c =
    let (given, x, outputs, after, follows) = c.loop-moment.invariant in
    subst (λ outcome. Writes g.W.Sink.write_gives c.args.writer.now (write_failure outcome) c.push_line.new.writer) (sym c.push_line.ensures.value ∙ c.in-Err.is) (c.push_line.ensures.given given _ outputs).writes

pub returns-clause-lists : goal.returns-clause-lists
returns-clause-lists g c =
    let (given, x, outputs, after, follows) = c.loop-moment.invariant in
    let outputs = c.finish.ensures.passes_on given _ outputs in
    let events = c.args.events.now in
    lists (time_line events) (AreTimes events) (instant events.first -ℤ pos 1) x given c.finish.result _ _ (no_times events x (is_ok c.finish.result) (end_in events x c.loop-moment.next after c.in_default.ensures)) follows
    (subst (λ outcome. WritesPage given outcome (g.W.Sink.contents c.args.writer.now) (g.W.Sink.contents c.finish.new.writer)) (sym c.finish.ensures.value) (taken_all c.finish.new.self.outcome given c.finish.new.self.buffer _ _ c.finish.ensures.none outputs.taken))

pub returns-clause-writes : goal.returns-clause-writes
returns-clause-writes g c =
    let (given, x, outputs, after, follows) = c.loop-moment.invariant in
    subst (λ outcome. Writes g.W.Sink.write_gives c.args.writer.now (write_failure outcome) c.finish.new.writer) (sym c.finish.ensures.value) (c.finish.ensures.passes_on given _ outputs).writes
