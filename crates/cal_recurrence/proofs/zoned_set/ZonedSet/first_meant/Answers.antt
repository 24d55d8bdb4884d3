use Rattle.std.proofs.Common.{◌+◌, ◌+ℤ◌, inl, inr, sym, subst}
use Rattle.std.specs.Prelude.{unsigned_abs}
use Rattle.std.proofs.lemmas.Int.{to_z-of_z}
use Rattle.cal_datetime.specs.OffsetDateTime.{unix_epoch}
use Rattle.cal_recurrence.specs.ZonedSet.{IsNextAfter, IsNextCandidate, Means, MeansAt}
use Rattle.cal_recurrence.proofs.ZonedSearch.{begins, empty, ends, is-at, none-left, step, stops, Covered}
use Rattle.cal_recurrence.proofs.zoned_set.ZonedSet.first_meant.Goals as goal

pub returns-in_default : goal.returns-in_default
returns-in_default c =
    let set = c.args.self.now in
    let start = c.args.start in
    empty set start (unix_epoch +ℤ c.args.after) c.requires c.date.ensures.in_range (none-left set (unsigned_abs start) c.in_default.ensures)

pub moment_after-first-requires : goal.moment_after-first-requires
moment_after-first-requires c = (is-at c.args.self.now (unsigned_abs c.args.start) c.in-Some.reading c.in-Some.ensures).on

pub loop-next-init : goal.loop-next-init
loop-next-init c =
    let set = c.args.self.now in
    let start = c.args.start in
    let reading = c.in-Some.reading in
    let at = is-at set (unsigned_abs start) reading c.in-Some.ensures in
    record {
      covered = subst (λ a. IsNextAfter (Covered set reading) (unix_epoch +ℤ a) c.moment_after-first.result) (sym (to_z-of_z _ c.args.after c.ranges.after))
          (begins set start (unix_epoch +ℤ c.args.after) reading c.moment_after-first.result c.requires c.date.ensures.in_range at
          (subst (λ a. IsNextAfter (MeansAt set reading) (unix_epoch +ℤ a) c.moment_after-first.result) (to_z-of_z _ c.args.after c.ranges.after) c.moment_after-first.ensures));
      range = at.range;
    }

pub loop-next-preserved : goal.loop-next-preserved
loop-next-preserved c =
    let set = c.args.self.now in
    let last = c.loop-next.last in
    let n = c.in-Some-next_unsettled.next in
    let at : IsNextCandidate set (unsigned_abs last + 1) n = c.in-Some-next_unsettled.ensures in
    record {
      covered = subst (IsNextAfter (Covered set n) _) (sym c.earlier-first.ensures)
          (step set last n _ c.loop-next.first c.moment_after-moment.result c.loop-next.invariant.range at c.loop-next.invariant.covered c.moment_after-moment.ensures);
      range = at.range;
    }

pub returns : goal.returns
returns c =
    let set = c.args.self.now in
    let last = c.loop-next.last in
    let first = c.loop-next.first in
    let x = unix_epoch +ℤ c.args.after in
    let covered = subst (λ a. IsNextAfter (Covered set last) (unix_epoch +ℤ a) first) (to_z-of_z _ c.args.after c.ranges.after) c.loop-next.invariant.covered in
    elim c.in_default-next_unsettled.ensures as (λ _. IsNextAfter (Means set) x first) [
      | inl none ↦ ends set last x first c.loop-next.invariant.range none covered
      | inr settled ↦ stops set last x first covered settled
    ]
