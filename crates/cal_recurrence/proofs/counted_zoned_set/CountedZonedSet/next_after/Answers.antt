use Rattle.std.proofs.Common.{◌≡◌, ◌+ℤ◌, ◌-ℤ◌, arith, of_z, pos, subst, to_z}
use mir.Syntax.{w128}
use Rattle.std.proofs.lemmas.Int.{ints}
use Rattle.cal_datetime.specs.OffsetDateTime.{instant, unix_epoch}
use Rattle.cal_recurrence.specs.OffsetRange.{IsStart}
use Rattle.cal_recurrence.specs.ZonedSet.{IsNextAfter, Occurs}
use Rattle.cal_recurrence.specs.declared.zoned_set.ZonedSet.{ZonedSet}
use Rattle.cal_recurrence.proofs.OffsetRanges.{later-start}
use Rattle.cal_recurrence.proofs.ZonedSearch.{as-word}
use Rattle.cal_recurrence.proofs.counted_zoned_set.CountedZonedSet.next_after.Goals as goal

pub search-requires : goal.search-requires
search-requires c =
    let x = instant c.args.moment in
    let n = c.nanoseconds.result in
    let word : to_z w128 (of_z w128 n) ≡ n = as-word n
    (omega (arith, ints, c.nanoseconds.ensures.value, c.nanoseconds.ensures.range.not_before)) (omega (arith, ints, c.nanoseconds.ensures.value, c.nanoseconds.ensures.range.not_after)) in
    later-start c.args.self.now.zone.now (x -ℤ pos 1) (unix_epoch +ℤ to_z w128 (of_z w128 n)) c.earliest_in.result (omega (arith, ints, word, c.nanoseconds.ensures.value))
    (subst (λ (s : ZonedSet). IsStart s.zone.now (x -ℤ pos 1) c.earliest_in.result) c.self.view_is c.earliest_in.ensures)

pub returns-clause-value : goal.returns-clause-value
returns-clause-value c =
    let x = instant c.args.moment in
    let n = c.nanoseconds.result in
    let word : to_z w128 (of_z w128 n) ≡ n = as-word n
    (omega (arith, ints, c.nanoseconds.ensures.value, c.nanoseconds.ensures.range.not_before)) (omega (arith, ints, c.nanoseconds.ensures.value, c.nanoseconds.ensures.range.not_after)) in
    let at : (unix_epoch +ℤ to_z w128 (of_z w128 n)) ≡ x = omega (arith, ints, word, c.nanoseconds.ensures.value) in
    subst (λ y. IsNextAfter (Occurs c.args.self.now) y c.search.result) at c.search.ensures.value
