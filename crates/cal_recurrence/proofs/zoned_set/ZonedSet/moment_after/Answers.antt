use Rattle.std.proofs.Common.{◌≡◌, ◌∙◌, ◌+ℤ◌, ◌<ℤ◌, arith, false, sym}
use Rattle.std.proofs.lemmas.Int.{ints}
use Rattle.cal_datetime.specs.OffsetDateTime.{instant, unix_epoch}
use Rattle.cal_recurrence.specs.ZonedSet.{is_selected, IsMeant}
use Rattle.cal_recurrence.proofs.ZonedSearch.{left-out, means-it, means-none, only}
use Rattle.cal_recurrence.proofs.zoned_set.ZonedSet.moment_after.Goals as goal
use Rattle.cal_recurrence.proofs.zoned_set.ZonedSet.moment_after.Goals.{After-nanoseconds, else-after-nanoseconds-via-then-after-nanoseconds+else-is_selected, else-after-nanoseconds-via-else-after-nanoseconds}

pub returns-in_default : goal.returns-in_default
returns-in_default c =
    means-none c.args.self.now c.one_local.ensures c.args.reading (unix_epoch +ℤ c.args.after) c.resolve.result
    (record { set = c.resolve.ensures.set; explained = c.resolve.ensures.explained }) c.in_default.ensures

is-meant : (c : After-nanoseconds) → IsMeant c.args.self.now.zone.now c.args.reading c.in-Some.moment
is-meant c = record {
  local = c.resolve.result;
  shown = record { set = c.resolve.ensures.set; explained = c.resolve.ensures.explained };
  selected = c.in-Some.ensures;
  offset = c.nanoseconds.ensures.offset;
}

pub returns-then-is_selected : goal.returns-then-is_selected
returns-then-is_selected c =
    let set = c.args.self.now in
    let m = c.in-Some.moment in
    let late : (unix_epoch +ℤ c.args.after) <ℤ instant m = grind (arith, ints) in
    let meant = is-meant (goal.at.returns-then-is_selected c).After-nanoseconds in
    only set c.one_local.ensures c.args.reading (unix_epoch +ℤ c.args.after) m
    (means-it set c.args.reading m c.date.ensures.in_range meant (sym c.is_selected.ensures ∙ c.if-is_selected.true)) late

pub returns-else-after-nanoseconds : goal.returns-else-after-nanoseconds
returns-else-after-nanoseconds c =
    let set = c.args.self.now in
    let x = unix_epoch +ℤ c.args.after in
    let m = c.in-Some.moment in
    let meant = is-meant (goal.at.returns-else-after-nanoseconds c).After-nanoseconds in
    left-out set c.one_local.ensures c.args.reading x m meant (λ late. elim c.else-after-nanoseconds.branch as (λ _. is_selected set c.args.reading (instant m) ≡ false) [
      | else-after-nanoseconds-via-then-after-nanoseconds+else-is_selected w ↦ sym w.is_selected.ensures ∙ w.if-is_selected.false
      | else-after-nanoseconds-via-else-after-nanoseconds w ↦ absurd (grind (arith, ints))
    ])
