use Rattle.std.proofs.Common.{◌≡◌, ◌∙◌, ap, subst, sym, ℕ}
use Rattle.cal_datetime.specs.OffsetDateTime.{instant, LocalAndOffset}
use Rattle.cal_recurrence.specs.Text.{recurrence_of}
use Rattle.cal_recurrence.specs.declared.recurrence.Recurrence.{Recurrence}
use Rattle.cal_zone.specs.Timeline.{Timeline}
use Rattle.cal_c.specs.Moments.{local_and_offset_in}
use Rattle.cal_c.specs.RecurrenceCursors.{IsMomentsPage}
use Rattle.cal_c.specs.RecurrenceTexts.{recurrence_ok}
use Rattle.cal_c.specs.declared.schedule.recurrences.results.RecurrenceResult.{RecurrenceResult}
use Rattle.cal_c.proofs.WrittenMoments.{one-recurrence, one-zone}
use Rattle.cal_c.proofs.schedule.recurrences.pages.fots_recurrence_next_moments.Goals as goal

pub returns-in-None-zone_of-clause-value : goal.returns-in-None-zone_of-clause-value
returns-in-None-zone_of-clause-value c = λ its parsed few valid after z is. let no = c.in-None-zone_of.ensures.every z is in absurd (cc)

pub returns-clause-invalid_zone : goal.returns-clause-invalid_zone
returns-clause-invalid_zone c = λ its parsed few valid after none. absurd (none c.in-Some-zone_of.value c.in-Some-zone_of.ensures.some)

pub returns-clause-value : goal.returns-clause-value
returns-clause-value c = λ its parsed few valid after z is.
    let one = c.in-Ok.value in
    let p = c.args.set.now in
    let count = c.write_moments_page-count in
    let facts = c.in-Ok-from_parts.ensures.value in
    let same = one-recurrence (recurrence_of p.text.now) one its c.in-Ok.ensures.value parsed in
    let zone = one-zone c.in-Some-zone_of.value z (c.in-Some-zone_of.ensures.every z is) in
    let length-is : c.ok.result.length ≡ count.result = ap (λ (r : RecurrenceResult). r.length) c.ok.ensures in
    let x = instant (local_and_offset_in c.args.after) in
    let at-moment = subst (λ (m : LocalAndOffset). IsMomentsPage one p c.in-Some-zone_of.value (instant m) c.args.cursor.now count.new.cursor c.args.moments.now count.new.moments count.result)
    c.in-Some.ensures.1 (count.ensures p facts.start facts.dates facts.exceptions) in
    let at-zone = subst (λ (w : Timeline). IsMomentsPage one p w x c.args.cursor.now count.new.cursor c.args.moments.now count.new.moments count.result) zone at-moment in
    let at-rule = subst (λ (o : Recurrence). IsMomentsPage o p z x c.args.cursor.now count.new.cursor c.args.moments.now count.new.moments count.result) same at-zone in (
      c.ok.ensures ∙ ap recurrence_ok (sym length-is),
      subst (λ (n : ℕ). IsMomentsPage its p z x c.args.cursor.now count.new.cursor c.args.moments.now count.new.moments n) (sym length-is) at-rule,
    )
