use Rattle.std.proofs.Common.{ℕ, List, [], ◌∷◌, Some, ◌++◌, ◌≡◌, ap, arith, length, refl}
use Rattle.std.specs.Prelude.{codes}
use Rattle.cal_recurrence.specs.Buffers.{IsPut}
use Rattle.cal_recurrence.specs.SetWritten.{line_end, set_text, values_text}
use Rattle.cal_recurrence.proofs.Puts.{then_put}
use Rattle.cal_recurrence.proofs.SetLines.{put_reads}
use Rattle.cal_recurrence.proofs.set_parts.SetParts.print.Goals as goal

pub returns-clause-text : goal.returns-clause-text
returns-clause-text c =
    let p = c.args.self.now in
    let old = c.args.buffer.now in
    let start : List ℕ = values_text (codes "DTSTART") p.zone (p.start ∷ []) in
    let rule : List ℕ → List ℕ = λ text. codes "RRULE:" ++ text ++ line_end in
    let written = rule c.as_bytes.result.now in
    let dates = values_text (codes "RDATE") p.zone c.as_slice.result.now in
    let exceptions = values_text (codes "EXDATE") p.zone c.as_slice-2.result.now in
    let same : set_text p ≡ start ++ written ++ dates ++ exceptions =
    rw (c.as_bytes.ensures.value, c.text.ensures.text, c.as_slice.ensures.values, c.as_slice-2.ensures.values) refl in
    let second : IsPut 0 (start ++ written) old c.put_rule.new.buffer (Some c.in_ok-next-2.next) =
    then_put 0 c.in_ok-next.next start written (start ++ written) old c.put_values.new.buffer c.put_rule.new.buffer (Some c.in_ok-next-2.next)
    (omega (arith, c.put_values.auto.buffer)) c.in_ok-next.ensures c.in_ok-next-2.ensures refl in
    let third : IsPut 0 (start ++ written ++ dates) old c.put_values-2.new.buffer (Some c.in_ok-next-3.next) =
    then_put 0 c.in_ok-next-2.next (start ++ written) dates (start ++ written ++ dates) old c.put_rule.new.buffer c.put_values-2.new.buffer (Some c.in_ok-next-3.next)
    (omega (arith, c.put_values.auto.buffer, c.put_rule.auto.buffer)) second c.in_ok-next-3.ensures refl in
    then_put 0 c.in_ok-next-3.next (start ++ written ++ dates) exceptions (set_text p) old c.put_values-2.new.buffer c.put_values-3.new.buffer c.put_values-3.result
    (omega (arith, c.put_values.auto.buffer, c.put_rule.auto.buffer, c.put_values-2.auto.buffer)) third c.put_values-3.ensures same

pub returns-clause-reads_back : goal.returns-clause-reads_back
returns-clause-reads_back c =
    put_reads c.args.self.now c.text.result c.args.buffer.now c.put_values-3.new.buffer c.put_values-3.result (returns-clause-text c) c.text.ensures.text c.text.ensures.reads_back
    (omega (arith, c.as_slice.ensures.few, ap length c.as_slice.ensures.values)) (omega (arith, c.as_slice-2.ensures.few, ap length c.as_slice-2.ensures.values))
