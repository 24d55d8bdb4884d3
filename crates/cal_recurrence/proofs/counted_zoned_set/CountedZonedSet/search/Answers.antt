use Rattle.std.proofs.Common.{◌∙◌, ◌+ℤ◌, subst, sym}
use Rattle.std.proofs.lemmas.Int.{to_z-of_z}
use Rattle.cal_datetime.specs.OffsetDateTime.{unix_epoch}
use Rattle.cal_recurrence.specs.OffsetRange.{IsStart}
use Rattle.cal_recurrence.specs.ZonedSet.{IsNextAfter, Occurs}
use Rattle.cal_recurrence.specs.declared.zoned_set.ZonedSet.{ZonedSet}
use Rattle.cal_recurrence.proofs.CountedSets.{in-order, nothing-left-in_zone, settled-after}
use Rattle.cal_recurrence.proofs.counted_zoned_set.CountedZonedSet.search.Goals as goal

pub first_after-next-requires : goal.first_after-next-requires
first_after-next-requires c =
    subst (λ a. IsStart c.loop-last.self-inside.set.zone.now (unix_epoch +ℤ a) c.args.start) (sym (to_z-of_z _ c.args.after c.ranges.after))
    (subst (λ (s : ZonedSet). IsStart s.zone.now (unix_epoch +ℤ c.args.after) c.args.start) (sym c.loop-last.invariant.whole) c.requires)

pub returns-then-is_past-clause-value : goal.returns-then-is_past-clause-value
returns-then-is_past-clause-value c =
    let set = c.loop-last.self-inside.set in
    let next = c.first_after-next.result in
    let x = unix_epoch +ℤ c.args.after in
    let found : IsNextAfter (Occurs set) x next = subst (λ a. IsNextAfter (Occurs set) (unix_epoch +ℤ a) next) (to_z-of_z _ c.args.after c.ranges.after) c.first_after-next.ensures in
    subst (λ s. IsNextAfter (Occurs s) x next) c.loop-last.invariant.whole
    (settled-after set c.loop-last.self-inside.left.readings x c.in-Some.last next
    (in-order set.readings.rule c.loop-last.self-inside.left.left c.loop-last.self-inside.left.readings c.loop-last.invariant.counted) (sym c.in-Some.ensures) (c.is_past.ensures c.if-is_past.true) found)

pub returns-then-not-count_on-clause-value : goal.returns-then-not-count_on-clause-value
returns-then-not-count_on-clause-value c =
    let set = c.loop-last.self-inside.set in
    let next = c.first_after-next.result in
    let x = unix_epoch +ℤ c.args.after in
    let found : IsNextAfter (Occurs set) x next = subst (λ a. IsNextAfter (Occurs set) (unix_epoch +ℤ a) next) (to_z-of_z _ c.args.after c.ranges.after) c.first_after-next.ensures in
    subst (λ s. IsNextAfter (Occurs s) x next) (nothing-left-in_zone set c.loop-last.self-inside.left.readings (c.count_on.ensures.none c.if-not-count_on.true) ∙ c.loop-last.invariant.whole) found
