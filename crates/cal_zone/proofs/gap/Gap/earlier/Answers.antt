use Rattle.std.proofs.Common.{◌≡◌, subst, arith}
use Rattle.std.proofs.lemmas.Int.{ints}
use Rattle.std.specs.Prelude.{ℤ, pos, ◌-ℤ◌, ◌*ℤ◌, SomeIff}
use Rattle.cal_time.specs.SignedDuration.{second}
use Rattle.cal_datetime.specs.DateTime.{IsDateTime}
use Rattle.cal_datetime.specs.OffsetDateTime.{LocalAndOffset, instant, local_at}
use Rattle.cal_zone.proofs.gap.Gap.earlier.Goals as goal

abbrev moment : ℤ → ℤ → LocalAndOffset
moment z o = record { local = z; offset = o }

pub returns : goal.returns
returns c =
    let g = c.args.self in
    let e : local_at (instant c.assume_offset.result) g.before ≡ (g.reading -ℤ (g.after -ℤ g.before) *ℤ pos second) = omega (arith, ints, c.assume_offset.ensures.instant) in
    subst (λ (z : ℤ). SomeIff c.checked_to_offset.result (IsDateTime z) (moment z g.before)) e c.checked_to_offset.ensures.value
