use Rattle.std.proofs.Common.{◌≡◌, ℤ, pos, ◌+ℤ◌, ◌-ℤ◌, to_z, of_z, arith, subst, sym, w32, w64}
use Rattle.std.proofs.lemmas.Int.{ints}
use Rattle.cal_datetime.specs.OffsetDateTime.{instant, unix_seconds}
use Rattle.cal_zone.specs.Timeline.{IsOffset}
use Rattle.cal_recurrence.specs.OffsetRange.{IsMax, IsMin}
use Rattle.cal_recurrence.proofs.OffsetRanges.{all-offsets, fits, next-near, one-span, span-at, two-spans}
use Rattle.cal_recurrence.proofs.offset_range.offsets_near.Goals as goal

-- The word of an offset is the offset.
word-of : (a : ℤ) → IsOffset a → a ≡ to_z w32 (of_z w32 a)
word-of a h = omega (arith, ints, h.0, h.1)

word-fits : (a : ℤ) → IsOffset a → IsOffset (to_z w32 (of_z w32 a))
word-fits a h = (omega (arith, ints, h.0, h.1), omega (arith, ints, h.0, h.1))

pub returns-then-last-early : goal.returns-then-last-early
returns-then-last-early c =
    let zone = c.args.zone.now in
    let s = c.timestamp-seconds.result in
    let range = c.timestamp-seconds.ensures.range in
    let spans = c.as_unchecked-spans in
    let early = c.span_at-early in
    let i = to_z w64 (of_z w64 (to_z w64 (of_z w64 s) -ℤ pos 187_200)) in
    one-span zone (instant c.args.moment) s i early.result _ (sym c.timestamp-seconds.ensures.value) spans.ensures.order
    (span-at zone spans.result.now i early.result spans.ensures.value spans.ensures.order (omega (arith, ints)) early.ensures.span early.ensures.offset early.ensures.ends)
    (omega (arith, ints, range.0, range.1)) (omega (arith, ints, range.0, range.1, c.if-last-early.true)) (omega (arith, ints)) (omega (arith, ints))

pub min_offset-requires-clause-change : goal.min_offset-requires-clause-change
min_offset-requires-clause-change c =
    let zone = c.args.zone.now in
    let s = c.timestamp-seconds.result in
    let range = c.timestamp-seconds.ensures.range in
    let spans = c.as_unchecked-spans in
    let early = c.span_at-early in
    let i = to_z w64 (of_z w64 (to_z w64 (of_z w64 s) -ℤ pos 187_200)) in
    let near = next-near zone s i early.result
    (span-at zone spans.result.now i early.result spans.ensures.value spans.ensures.order (omega (arith, ints)) early.ensures.span early.ensures.offset early.ensures.ends)
    (omega (arith, ints, range.0), omega (arith, ints, range.1)) (omega (arith, ints, range.0, range.1)) (omega (arith, ints, range.0, range.1, c.if-last-early.false)) in
    (omega (arith, ints, range.0, range.1, near.0, near.1), omega (arith, ints, range.0, range.1, near.0, near.1))

pub max_offset-requires-clause-change : goal.max_offset-requires-clause-change
max_offset-requires-clause-change c =
    let zone = c.args.zone.now in
    let s = c.timestamp-seconds.result in
    let range = c.timestamp-seconds.ensures.range in
    let spans = c.as_unchecked-spans in
    let early = c.span_at-early in
    let i = to_z w64 (of_z w64 (to_z w64 (of_z w64 s) -ℤ pos 187_200)) in
    let near = next-near zone s i early.result
    (span-at zone spans.result.now i early.result spans.ensures.value spans.ensures.order (omega (arith, ints)) early.ensures.span early.ensures.offset early.ensures.ends)
    (omega (arith, ints, range.0), omega (arith, ints, range.1)) (omega (arith, ints, range.0, range.1)) (omega (arith, ints, range.0, range.1, c.if-last-early.false)) in
    (omega (arith, ints, range.0, range.1, near.0, near.1), omega (arith, ints, range.0, range.1, near.0, near.1))

pub returns-then-last-late : goal.returns-then-last-late
returns-then-last-late c =
    let zone = c.args.zone.now in
    let x = instant c.args.moment in
    let s = to_z w64 (of_z w64 c.timestamp-seconds.result) in
    let range = c.timestamp-seconds.ensures.range in
    let spans = c.as_unchecked-spans in
    let order = spans.ensures.order in
    let early = c.span_at-early in
    let late = c.span_at-late in
    let a = early.result.offset in
    let b = late.result.offset in
    let i = to_z w64 (of_z w64 (s -ℤ pos 187_200)) in
    let k = to_z w64 (of_z w64 (to_z w64 (of_z w64 early.result.last) +ℤ pos 1)) in
    let first = span-at zone spans.result.now i early.result spans.ensures.value order (omega (arith, ints)) early.ensures.span early.ensures.offset early.ensures.ends in
    let second = span-at zone spans.result.now k late.result spans.ensures.value order (omega (arith, ints)) late.ensures.span late.ensures.offset late.ensures.ends in
    let own = fits zone i early.result order first in
    let other = fits zone k late.result order second in
    let is : unix_seconds x ≡ s = omega (arith, ints, c.timestamp-seconds.ensures.value, range.0, range.1) in
    let step = two-spans zone s i k (to_z w32 (of_z w32 a)) (to_z w32 (of_z w32 b)) early.result late.result first second
    (omega (arith, ints, range.0, range.1)) (omega (arith, ints, range.0, range.1, c.if-last-early.false)) (omega (arith, ints, range.0, range.1, c.if-last-late.true))
    (word-of a own) (word-of b other) (word-fits a own) (word-fits b other) in
    let min = c.min_offset.ensures zone x is step in
    let max = c.max_offset.ensures zone x is step in
    record {
      min = subst (IsMin zone x) (word-of c.min_offset.result min.range) min;
      max = subst (IsMax zone x) (word-of c.max_offset.result max.range) max;
    }

pub returns : goal.returns
returns c = all-offsets c.args.zone.now (instant c.args.moment) _ (omega (arith, ints)) (omega (arith, ints))
