use Rattle.std.proofs.Common.{◌≡◌, ◌+◌, ◌+ℤ◌, arith, length, refl, subst, sym, slice_get, Some}
use Rattle.std.proofs.lemmas.Int.{to_z-of_z}
use Rattle.std.proofs.lemmas.Option.{slice_get_read}
use Rattle.cal_datetime.specs.OffsetDateTime.{unix_epoch}
use Rattle.cal_recurrence.specs.ZonedSet.{IsListed, IsNextAfter}
use Rattle.cal_recurrence.proofs.ZonedSearch.{all-listed, listed-step, no-listed, ListedBefore}
use Rattle.cal_recurrence.proofs.zoned_set.ZonedSet.first_listed.Goals as goal

pub loop-moment-init : goal.loop-moment-init
loop-moment-init c = no-listed c.args.self.now _

pub loop-moment-preserved : goal.loop-moment-preserved
loop-moment-preserved c =
    let set = c.args.self.now in
    let i = c.loop-moment.moment-index in
    let moment = c.moment-item.result in
    let at : slice_get set.instants.now i ≡ Some moment = slice_get_read set.instants.now (length set.instants.now) i moment refl (omega (arith, c.loop-moment-test.true)) c.moment-item.is in
    subst (IsNextAfter (ListedBefore set (i + 1)) _) (sym c.earlier-first.ensures)
    (listed-step set i _ moment c.loop-moment.first c.if_after.result at c.if_after.ensures.in_range c.loop-moment.invariant c.if_after.ensures.value)

pub returns : goal.returns
returns c =
    let set = c.args.self.now in
    let first = c.loop-moment.first in
    subst (λ a. IsNextAfter (IsListed set) (unix_epoch +ℤ a) first) (to_z-of_z _ c.args.after c.ranges.after)
    (all-listed set c.loop-moment.moment-index _ first (omega (arith, c.loop-moment-test.false)) c.loop-moment.invariant)
