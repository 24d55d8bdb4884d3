use Rattle.std.proofs.Common.{subst}
use Rattle.cal_datetime.specs.OffsetDateTime.{instant, LocalAndOffset}
use Rattle.cal_recurrence.specs.Text.{recurrence_of}
use Rattle.cal_recurrence.specs.declared.zoned_set.ZonedSet.{ZonedSet}
use Rattle.cal_c.specs.TextSets.{AreMomentsWritten, IsZonedSetOf}
use Rattle.cal_c.proofs.WrittenMoments.{moments-of, one-recurrence, one-zone}
use Rattle.cal_c.proofs.schedule.recurrences.moments.fots_recurrence_moments.Goals as goal

pub returns-in-None-zone_of-clause-value : goal.returns-in-None-zone_of-clause-value
returns-in-None-zone_of-clause-value c = λ its parsed few valid after z is. let no = c.in-None-zone_of.ensures.every z is in absurd (cc)

pub returns-clause-invalid_zone : goal.returns-clause-invalid_zone
returns-clause-invalid_zone c = λ its parsed few valid after none. absurd (none c.in-Some-zone_of.value c.in-Some-zone_of.ensures.some)

pub returns-clause-value : goal.returns-clause-value
returns-clause-value c = λ its parsed few valid after z is.
    let one = c.in-Ok.value in
    let p = c.args.set.now in
    let facts = c.in-Ok-from_parts.ensures.value in
    let same = one-recurrence (recurrence_of p.text.now) one its c.in-Ok.ensures.value parsed in
    let zone = one-zone c.in-Some-zone_of.value z (c.in-Some-zone_of.ensures.every z is) in
    let found = subst (λ (m : LocalAndOffset). (t : ZonedSet) × IsZonedSetOf one p c.in-Some-zone_of.value t
    × AreMomentsWritten t (instant m) c.args.moments.now c.write_in_zone.new.moments c.write_in_zone.result) c.in-Some.ensures.1
    (c.write_in_zone.ensures p facts.start facts.dates facts.exceptions) in
    moments-of one its p c.in-Some-zone_of.value z _ _ _ _ c.ok.result same zone found c.ok.ensures
