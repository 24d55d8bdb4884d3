use Rattle.std.proofs.Common.{◌+ℤ◌, subst, sym}
use Rattle.std.proofs.lemmas.Int.{to_z-of_z}
use Rattle.cal_datetime.specs.OffsetDateTime.{unix_epoch}
use Rattle.cal_recurrence.specs.OffsetRange.{IsStart}
use Rattle.cal_recurrence.specs.ZonedSet.{IsNextAfter, Occurs}
use Rattle.cal_recurrence.proofs.ZonedSearch.{first-of-both}
use Rattle.cal_recurrence.proofs.zoned_set.ZonedSet.first_after.Goals as goal

pub first_meant-requires : goal.first_meant-requires
first_meant-requires c = subst (λ a. IsStart c.args.self.now.zone.now (unix_epoch +ℤ a) c.args.start) (sym (to_z-of_z _ c.args.after c.ranges.after)) c.requires

pub returns : goal.returns
returns c =
    let set = c.args.self.now in
    subst (λ a. IsNextAfter (Occurs set) (unix_epoch +ℤ a) c.earlier.result) (to_z-of_z _ c.args.after c.ranges.after)
    (subst (IsNextAfter (Occurs set) _) (sym c.earlier.ensures) (first-of-both set _ _ _ c.first_meant.ensures c.first_listed.ensures))
