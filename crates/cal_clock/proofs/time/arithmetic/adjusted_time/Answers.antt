use Rattle.std.proofs.Common.{◌≡◌, ℕ, ℤ, pos, ◌+ℤ◌, ◌-ℤ◌, ◌*ℤ◌, ◌<◌, FitsSigned, unsigned_abs, arith}
use Rattle.std.specs.Int.{w64}
use Rattle.std.proofs.lemmas.Int.{ints, to_z-of_z}
use Rattle.cal_span.specs.SignedDuration.{day}
use Rattle.cal_clock.specs.Time.{carry}
use Rattle.cal_clock.proofs.Days.{IsInDay, IsInDay-counted}
use Rattle.cal_clock.proofs.time.arithmetic.adjusted_time.Goals as goal

-- The moved time is in its day, so the computation fits.
in_day : (c : goal.After-day_carry-days) → IsInDay c.args.nanoseconds c.day_carry-days.result
in_day c =
    let n = c.ranges.nanoseconds in
    let counted = simp to_z-of_z at c.day_carry-days.ensures in
    IsInDay-counted c.args.nanoseconds c.day_carry-days.result c.requires.min c.requires.max counted.previous_day counted.same_day counted.next_day

-- Its day and the rest fit.
record IsSplit (n d : ℤ) : Type 0 where
  days : FitsSigned w64 d
  product : FitsSigned w64 (d *ℤ pos day)
  rest : FitsSigned w64 (n -ℤ d *ℤ pos day)

split : (n d : ℤ) → IsInDay n d → IsSplit n d
split n d h = record { days = omega (arith, ints, h.low, h.high); product = omega (arith, ints, h.low, h.high); rest = omega (arith, ints, h.from, h.below) }

-- The rest is a number below a day.
rest-number : (n d : ℤ) → IsInDay n d → pos (unsigned_abs (n -ℤ d *ℤ pos day)) ≡ n -ℤ d *ℤ pos day
rest-number n d h = omega (arith, ints, h.from)

rest-below : (n d : ℤ) → IsInDay n d → unsigned_abs (n -ℤ d *ℤ pos day) < day
rest-below n d h = omega (arith, ints, h.from, h.below)

rest-whole : (n d k : ℤ) (r : ℕ) → pos r ≡ n -ℤ d *ℤ pos day → k ≡ d → n ≡ k *ℤ pos day +ℤ pos r
rest-whole n d k r e same = omega (arith, ints, e, same)

pub overflow_mul-nanoseconds : goal.overflow_mul-nanoseconds
overflow_mul-nanoseconds c =
    let f = split c.args.nanoseconds c.day_carry-days.result (in_day c) in
    let d = f.days in
    simp to_z-of_z f.product

pub overflow_sub-nanoseconds : goal.overflow_sub-nanoseconds
overflow_sub-nanoseconds c =
    let n = c.ranges.nanoseconds in
    let f = split c.args.nanoseconds c.day_carry-days.result (in_day c) in
    let d = f.days in
    let product = f.product in
    simp to_z-of_z f.rest

pub overflow_cast-nanoseconds-2 : goal.overflow_cast-nanoseconds-2
overflow_cast-nanoseconds-2 c =
    let n = c.ranges.nanoseconds in
    let h = in_day c in
    omega (arith, ints)

pub adjustment_from_days-requires-clause-min : goal.adjustment_from_days-requires-clause-min
adjustment_from_days-requires-clause-min c =
    let h = in_day c in
    let d = (split c.args.nanoseconds c.day_carry-days.result h).days in
    simp to_z-of_z h.low

pub adjustment_from_days-requires-clause-max : goal.adjustment_from_days-requires-clause-max
adjustment_from_days-requires-clause-max c =
    let h = in_day c in
    let d = (split c.args.nanoseconds c.day_carry-days.result h).days in
    simp to_z-of_z h.high

pub returns-clause-value : goal.returns-clause-value
returns-clause-value c =
    let n = c.ranges.nanoseconds in
    let h = in_day c.before in
    let f = split c.args.nanoseconds c.day_carry-days.result h in
    let d = f.days in
    let product = f.product in
    let rest = f.rest in
    simp to_z-of_z (rest-whole c.args.nanoseconds c.day_carry-days.result (carry c.adjustment_from_days.result) (unsigned_abs (c.args.nanoseconds -ℤ c.day_carry-days.result *ℤ pos day))
    (rest-number c.args.nanoseconds c.day_carry-days.result h) (simp to_z-of_z at c.adjustment_from_days.ensures))

pub returns-clause-range : goal.returns-clause-range
returns-clause-range c =
    let n = c.ranges.nanoseconds in
    let h = in_day c.before in
    let f = split c.args.nanoseconds c.day_carry-days.result h in
    let d = f.days in
    let product = f.product in
    let rest = f.rest in
    simp to_z-of_z (rest-below c.args.nanoseconds c.day_carry-days.result h)
