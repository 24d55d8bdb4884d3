use Rattle.std.proofs.Common.{ap, ◌∙◌, arith, refl, inr, ℕ, ◌-◌, length}
use Rattle.std.specs.List.{slice_index_or}
use Rattle.cal_zone.specs.declared.local_type.LocalType.{LocalType}
use Rattle.cal_zone.specs.Timeline.{after_changes, at, no_change}
use Rattle.cal_zone.proofs.Joins.{moment_is, moment_shown, offset_is, offset_shown}
use Rattle.cal_zone.proofs.Offsets.{after_changes-offset}
use Rattle.cal_zone.proofs.Rules.{joins-next, joins-none}
use Rattle.cal_zone.proofs.rule.Rule.joins.Goals as goal

pub returns-then-skip-len : goal.returns-then-skip-len
returns-then-skip-len c = (
  (λ t. joins-none c.args.self.now.one c.args.self.now.other c.args.first.offset c.args.table.now c.args.skip (inr (omega (arith, c.len.ensures.len)))),
  (λ t. refl),
)

pub is_next-requires-clause-at : goal.is_next-requires-clause-at
is_next-requires-clause-at c =
    let last = c.change-last.ensures.at ∙ ap (λ (n : ℕ). at c.args.table.now (n - 1)) c.len-count.ensures.len in (
      moment_shown _ _ last (c.requires.ordered.moments (length c.args.table.now - 1) (omega (arith, c.len-count.ensures.len))),
      moment_shown _ _ refl c.time.ensures.moment,
    )

pub is_next-requires-clause-offset : goal.is_next-requires-clause-offset
is_next-requires-clause-offset c =
    let last = c.change-last.ensures.offset ∙ ap (λ (n : ℕ). (slice_index_or c.args.table.now (n - 1) no_change).kind.offset) c.len-count.ensures.len in
    let before = c.after.ensures ∙ ap (λ (n : ℕ). after_changes c.args.first.offset c.args.table.now (n - 1)) c.len-count.ensures.len in (
      offset_shown _ _ before (after_changes-offset c.args.first.offset c.args.table.now (length c.args.table.now - 1) c.requires.ordered.offset c.requires.ordered.offsets),
      offset_shown _ _ last (c.requires.ordered.offsets (length c.args.table.now - 1) (omega (arith, c.len-count.ensures.len))),
      offset_shown _ _ refl c.kind.ensures.offset,
    )

pub returns : goal.returns
returns c =
    let at_last = c.change-last.ensures.at ∙ ap (λ (n : ℕ). at c.args.table.now (n - 1)) c.len-count.ensures.len in
    let last = c.change-last.ensures.offset ∙ ap (λ (n : ℕ). (slice_index_or c.args.table.now (n - 1) no_change).kind.offset) c.len-count.ensures.len in
    let before = c.after.ensures ∙ ap (λ (n : ℕ). after_changes c.args.first.offset c.args.table.now (n - 1)) c.len-count.ensures.len in
    let j = joins-next c.args.self.now.one c.args.self.now.other c.args.first.offset c.args.table.now c.args.skip
    _ _ _ _ _ (omega (arith, c.len-count.ensures.len)) (omega (arith, c.len.ensures.len, c.requires.rule))
    (moment_is _ _ at_last (c.requires.ordered.moments (length c.args.table.now - 1) (omega (arith, c.len-count.ensures.len))))
    (moment_is _ _ refl c.time.ensures.moment ∙ c.time.ensures.value)
    (offset_is _ _ before (after_changes-offset c.args.first.offset c.args.table.now (length c.args.table.now - 1) c.requires.ordered.offset c.requires.ordered.offsets))
    (offset_is _ _ last (c.requires.ordered.offsets (length c.args.table.now - 1) (omega (arith, c.len-count.ensures.len))))
    (offset_is _ _ refl c.kind.ensures.offset ∙ ap (λ (k : LocalType). k.offset) c.kind.ensures.value) in
    ((λ t. j.0 (c.is_next.ensures.0 t)), (λ h. c.is_next.ensures.1 (j.1 h)))
