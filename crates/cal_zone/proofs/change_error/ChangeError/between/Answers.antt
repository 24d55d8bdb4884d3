use Rattle.std.proofs.Common.{◌<ℤ◌, ap, ◌∙◌, arith, sym, suc, add-one}
use Rattle.std.proofs.lemmas.Bool.{false≢true}
use Rattle.std.proofs.lemmas.Int.{ints, by_lt_z}
use Rattle.std.specs.List.{slice_index_or}
use Rattle.cal_zone.specs.Timeline.{at, begins, ends, no_change}
use Rattle.cal_zone.proofs.Joins.{follows-next, moment_shown, offset_shown}
use Rattle.cal_zone.proofs.Offsets.{after_changes-offset}
use Rattle.cal_zone.proofs.change_error.ChangeError.between.Goals as goal

pub is_next-requires-clause-at : goal.is_next-requires-clause-at
is_next-requires-clause-at c = (
  moment_shown _ _ c.change-change.ensures.at (c.requires.sound c.args.index (omega arith)).moment,
  moment_shown _ _ (c.change-next.ensures.at ∙ ap (at c.args.table.now) (add-one c.args.index)) (c.requires.sound (suc c.args.index) c.requires.next).moment,
)

pub is_next-requires-clause-offset : goal.is_next-requires-clause-offset
is_next-requires-clause-offset c = (
  offset_shown _ _ c.after-before.ensures (after_changes-offset c.args.first.offset c.args.table.now c.args.index c.requires.first (λ k h. (c.requires.sound k h).offset)),
  offset_shown _ _ c.change-change.ensures.offset (c.requires.sound c.args.index (omega arith)).offset,
  offset_shown _ _ (c.change-next.ensures.offset ∙ ap (λ k. (slice_index_or c.args.table.now k no_change).kind.offset) (add-one c.args.index)) (c.requires.sound (suc c.args.index) c.requires.next).offset,
)

pub returns-then-is_next-clause-none : goal.returns-then-is_next-clause-none
returns-then-is_next-clause-none c =
    (follows-next _ _ _ _ _ _ _ _ c.requires.first c.requires.sound c.requires.next c.change-change.ensures.at c.change-next.ensures.at c.after-before.ensures c.change-change.ensures.offset c.change-next.ensures.offset).0
    (c.is_next.ensures.0 c.if-is_next.true)

pub returns-clause-some : goal.returns-clause-some
returns-clause-some c =
    let cs = c.args.table.now in
    let k = c.args.index in
    let rising : at cs k <ℤ at cs (suc k) = grind (arith, ints, c.change-change.ensures.at, c.change-next.ensures.at, ap (at cs) (add-one k), (c.requires.sound k (omega arith)).moment, (c.requires.sound (suc k) c.requires.next).moment) in
    let follows = follows-next _ _ _ _ _ _ _ _ c.requires.first c.requires.sound c.requires.next c.change-change.ensures.at c.change-next.ensures.at c.after-before.ensures c.change-change.ensures.offset c.change-next.ensures.offset in (
      c.requires.first,
      c.requires.sound,
      c.requires.next,
      c.requires.before,
      rising,
      by_lt_z (begins c.args.first.offset cs (suc k)) (ends c.args.first.offset cs k) (λ less. less)
          (λ most. absurd (false≢true (sym c.if-is_next.false ∙ c.is_next.ensures.1 (follows.1 (record { rising = rising; apart = most }))))),
    )
