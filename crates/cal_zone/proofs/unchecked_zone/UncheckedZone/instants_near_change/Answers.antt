use Rattle.std.proofs.Common.{refl, ◌-ℤ◌, arith, to_z, of_z, w64}
use Rattle.std.proofs.lemmas.Int.{ints, to_z-of_z}
use Rattle.cal_zone.proofs.Readings.{passed, near, twice, once_before, once_after, once_at_end, never, explained}
use Rattle.cal_zone.proofs.Splits.{is_ahead, is_past, not_ahead, not_past}
use Rattle.cal_zone.proofs.unchecked_zone.UncheckedZone.instants_near_change.Goals as goal

pub returns-then-count-len-clause-set : goal.returns-then-count-len-clause-set
returns-then-count-len-clause-set c = λ order.
    once_at_end c.args.self.now order c.args.reading c.passed-count.result
    (passed c.args.self.now c.args.reading _ c.passed-count.result (to_z-of_z w64 c.args.reading c.ranges.reading) order c.passed-count.ensures)
    (omega arith) _ (omega (arith, ints, c.after-before.ensures))

pub returns-then-at-later-clause-set : goal.returns-then-at-later-clause-set
returns-then-at-later-clause-set c = λ order.
    twice c.args.self.now c.args.reading c.passed-count.result (to_z w64 (of_z w64 c.time-at.result)) _ _
    (near c.args.self.now c.args.reading _ c.passed-count.result _ _ _ c.after-before.result c.after-after.result order (to_z-of_z w64 c.args.reading c.ranges.reading) c.passed-count.ensures
    (omega arith) (omega (arith, ints, c.time-at.ensures)) c.after-before.ensures c.after-after.ensures (omega (arith, ints)) (omega (arith, ints)))
    (is_ahead _ _ _ _ c.if-earlier-at.true refl refl) (is_past _ _ _ _ c.if-at-later.true refl refl)

pub returns-else-at-later-clause-set : goal.returns-else-at-later-clause-set
returns-else-at-later-clause-set c = λ order.
    once_before c.args.self.now c.args.reading c.passed-count.result (to_z w64 (of_z w64 c.time-at.result)) _ (to_z w64 (of_z w64 (to_z w64 (of_z w64 c.args.reading) -ℤ to_z w64 (of_z w64 c.from-2.result))))
    (near c.args.self.now c.args.reading _ c.passed-count.result _ _ _ c.after-before.result c.after-after.result order (to_z-of_z w64 c.args.reading c.ranges.reading) c.passed-count.ensures
    (omega arith) (omega (arith, ints, c.time-at.ensures)) c.after-before.ensures c.after-after.ensures (omega (arith, ints)) (omega (arith, ints)))
    (is_ahead _ _ _ _ c.if-earlier-at.true refl refl) (not_past _ _ _ _ c.if-at-later.false refl refl)

pub returns-then-at-later-2-clause-set : goal.returns-then-at-later-2-clause-set
returns-then-at-later-2-clause-set c = λ order.
    once_after c.args.self.now c.args.reading c.passed-count.result (to_z w64 (of_z w64 c.time-at.result)) (to_z w64 (of_z w64 (to_z w64 (of_z w64 c.args.reading) -ℤ to_z w64 (of_z w64 c.from.result)))) _
    (near c.args.self.now c.args.reading _ c.passed-count.result _ _ _ c.after-before.result c.after-after.result order (to_z-of_z w64 c.args.reading c.ranges.reading) c.passed-count.ensures
    (omega arith) (omega (arith, ints, c.time-at.ensures)) c.after-before.ensures c.after-after.ensures (omega (arith, ints)) (omega (arith, ints)))
    (not_ahead _ _ _ _ c.if-earlier-at.false refl refl) (is_past _ _ _ _ c.if-at-later-2.true refl refl)

pub returns-else-at-later-2-clause-set : goal.returns-else-at-later-2-clause-set
returns-else-at-later-2-clause-set c = λ order.
    never c.args.self.now c.args.reading c.passed-count.result (to_z w64 (of_z w64 c.time-at.result)) (to_z w64 (of_z w64 (to_z w64 (of_z w64 c.args.reading) -ℤ to_z w64 (of_z w64 c.from.result)))) (to_z w64 (of_z w64 (to_z w64 (of_z w64 c.args.reading) -ℤ to_z w64 (of_z w64 c.from-2.result))))
    (near c.args.self.now c.args.reading _ c.passed-count.result _ _ _ c.after-before.result c.after-after.result order (to_z-of_z w64 c.args.reading c.ranges.reading) c.passed-count.ensures
    (omega arith) (omega (arith, ints, c.time-at.ensures)) c.after-before.ensures c.after-after.ensures (omega (arith, ints)) (omega (arith, ints)))
    (not_ahead _ _ _ _ c.if-earlier-at.false refl refl) (not_past _ _ _ _ c.if-at-later-2.false refl refl)

pub returns-else-at-later-2-clause-explained : goal.returns-else-at-later-2-clause-explained
returns-else-at-later-2-clause-explained c = λ order.
    explained c.args.self.now c.args.reading c.passed-count.result _ (to_z w64 (of_z w64 (to_z w64 (of_z w64 c.args.reading) -ℤ to_z w64 (of_z w64 c.from.result)))) (to_z w64 (of_z w64 (to_z w64 (of_z w64 c.args.reading) -ℤ to_z w64 (of_z w64 c.from-2.result)))) _ _
    (near c.args.self.now c.args.reading _ c.passed-count.result _ _ _ c.after-before.result c.after-after.result order (to_z-of_z w64 c.args.reading c.ranges.reading) c.passed-count.ensures
    (omega arith) (omega (arith, ints, c.time-at.ensures)) c.after-before.ensures c.after-after.ensures (omega (arith, ints)) (omega (arith, ints)))
    (omega (arith, ints, c.after-before.ensures)) (omega (arith, ints, c.after-after.ensures)) (not_ahead _ _ _ _ c.if-earlier-at.false refl refl) (not_past _ _ _ _ c.if-at-later-2.false refl refl)
