use Rattle.std.proofs.Common.{◌≡◌, ◌<◌, ◌++◌, ◌∷◌, [], ◌∙◌, Err, ap, pos, refl, subst, sym}
use Rattle.std.specs.Prelude.{◌-ℤ◌, is_ok}
use Rattle.cal_datetime.specs.OffsetDateTime.{instant}
use Rattle.cal_recurrence.specs.Occurrences.{nanoseconds_left}
use Rattle.cal_recurrence.proofs.ZonedSearch.{fewer-left}
use Rattle.cal_recurrence.specs.ZonedSet.{IsNextAfter, Occurs}
use Rattle.caldate_lines.specs.Calls.{Writes, write_failure}
use Rattle.caldate_lines.specs.Outputs.{HasTaken, WritesPage}
use Rattle.caldate_lines.proofs.Outputs.{new_output, taken_all}
use Rattle.caldate_run.specs.Recurring.{AreListedIn, moment_line}
use Rattle.caldate_run.proofs.Listed.{end_in, lists, next_in, no_moments, one_more}
use Rattle.caldate_run.proofs.list.in_zone.write_moments.Goals as goal

pub loop-moment-init : goal.loop-moment-init
loop-moment-init g c = (
  (
    [],
    instant c.args.first -ℤ pos 1,
    new_output g.W.Sink.contents g.W.Sink.write_gives _ c.new-output.result c.new-output.ensures.buffer c.new-output.ensures.outcome,
    c.first_from-next.ensures.value,
    λ all items are. (items, are, refl),
  ),
  c.first_from-next.ensures.same,
)

pub loop-moment-preserved : goal.loop-moment-preserved
loop-moment-preserved g c =
    let (given, x, outputs, after, follows) = c.loop-moment.invariant.0 in
    let moment = c.in-Some.moment in
    let set = c.args.set.now in
    let bytes = c.as_bytes.result.now ++ 10 ∷ [] in
    let line : bytes ≡ moment_line moment = ap (λ text. text ++ 10 ∷ []) (c.as_bytes.ensures.value ∙ c.rfc3339_or_unix_text.ensures.text) in
    let next = next_in set c.args.last x c.loop-moment.next moment after c.in-Some.ensures.0 c.in-Some.ensures.1 in (
      (
        given ++ bytes,
        instant moment,
        c.push_line.ensures.given given _ outputs,
        subst (λ s. IsNextAfter (Occurs s) (instant moment) c.next_after-next.result) c.loop-moment.invariant.1 c.next_after-next.ensures.value,
        one_more moment_line (AreListedIn set c.args.last) (instant c.args.first -ℤ pos 1) x (instant moment) given bytes moment line (λ all items are. (next, are)) follows,
      ),
      c.next_after-next.ensures.same ∙ c.loop-moment.invariant.1,
    )

pub loop-moment-smaller : goal.loop-moment-smaller
loop-moment-smaller g c =
    subst (λ f. nanoseconds_left c.next_after-next.result < nanoseconds_left f) (sym c.in-Some.ensures.0)
    (fewer-left c.loop-moment.set c.in-Some.moment c.next_after-next.result c.next_after-next.ensures.value)

pub returns-in-Err-clause-lists : goal.returns-in-Err-clause-lists
returns-in-Err-clause-lists g c =
    let (given, x, outputs, after, follows) = c.loop-moment.invariant.0 in
    let moment = c.in-Some.moment in
    let set = c.args.set.now in
    let bytes = c.as_bytes.result.now ++ 10 ∷ [] in
    let line : bytes ≡ moment_line moment = ap (λ text. text ++ 10 ∷ []) (c.as_bytes.ensures.value ∙ c.rfc3339_or_unix_text.ensures.text) in
    let next = next_in set c.args.last x c.loop-moment.next moment after c.in-Some.ensures.0 c.in-Some.ensures.1 in
    lists moment_line (AreListedIn set c.args.last) (instant c.args.first -ℤ pos 1) (instant moment) (given ++ bytes) (Err c.in-Err.error) (g.W.Sink.contents c.args.writer.now) (g.W.Sink.contents c.push_line.new.writer) tt
    (one_more moment_line (AreListedIn set c.args.last) (instant c.args.first -ℤ pos 1) x (instant moment) given bytes moment line (λ all items are. (next, are)) follows)
    (subst (λ outcome. HasTaken outcome (given ++ bytes) c.push_line.new.self.buffer (g.W.Sink.contents c.args.writer.now) (g.W.Sink.contents c.push_line.new.writer)) (sym c.push_line.ensures.value ∙ c.in-Err.is)
    (c.push_line.ensures.given given _ outputs).taken)

pub returns-in-Err-clause-writes : goal.returns-in-Err-clause-writes
returns-in-Err-clause-writes g c =
    let (given, x, outputs, after, follows) = c.loop-moment.invariant.0 in
    subst (λ outcome. Writes g.W.Sink.write_gives c.args.writer.now (write_failure outcome) c.push_line.new.writer) (sym c.push_line.ensures.value ∙ c.in-Err.is) (c.push_line.ensures.given given _ outputs).writes

pub returns-clause-lists : goal.returns-clause-lists
returns-clause-lists g c =
    let (given, x, outputs, after, follows) = c.loop-moment.invariant.0 in
    let outputs = c.finish.ensures.passes_on given _ outputs in
    let set = c.args.set.now in
    lists moment_line (AreListedIn set c.args.last) (instant c.args.first -ℤ pos 1) x given c.finish.result _ _ (no_moments set c.args.last x (is_ok c.finish.result) (end_in set c.args.last x c.loop-moment.next after c.in_default.ensures)) follows
    (subst (λ outcome. WritesPage given outcome (g.W.Sink.contents c.args.writer.now) (g.W.Sink.contents c.finish.new.writer)) (sym c.finish.ensures.value) (taken_all c.finish.new.self.outcome given c.finish.new.self.buffer _ _ c.finish.ensures.none outputs.taken))

pub returns-clause-writes : goal.returns-clause-writes
returns-clause-writes g c =
    let (given, x, outputs, after, follows) = c.loop-moment.invariant.0 in
    subst (λ outcome. Writes g.W.Sink.write_gives c.args.writer.now (write_failure outcome) c.finish.new.writer) (sym c.finish.ensures.value) (c.finish.ensures.passes_on given _ outputs).writes
