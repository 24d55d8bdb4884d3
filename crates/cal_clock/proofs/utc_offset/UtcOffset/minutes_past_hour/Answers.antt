use Rattle.std.proofs.Common.{◌≡◌, ◌∙◌, ap, ℤ, pos, negsuc, FitsSigned, int_div, int_rem, arith}
use Rattle.std.specs.Int.{w8, w32}
use Rattle.std.proofs.lemmas.Int.{ints, to_z-of_z, rem_below}
use Rattle.cal_clock.specs.UtcOffset.{IsOffset, minutes_past_hour}
use Rattle.cal_clock.proofs.utc_offset.UtcOffset.minutes_past_hour.Goals as goal

-- The minutes of the seconds past the whole hours.
past_hour : (o : ℤ) → int_div (int_rem o (pos 3_600)) (pos 60) ≡ minutes_past_hour o
past_hour (pos n) = omega (arith, ints)
past_hour (negsuc n) = omega (arith, ints)

record IsSplit (o : ℤ) : Type 0 where
  whole : FitsSigned w32 o
  rest : FitsSigned w32 (int_rem o (pos 3_600))
  minutes : FitsSigned w32 (int_div (int_rem o (pos 3_600)) (pos 60))
  short : FitsSigned w8 (int_div (int_rem o (pos 3_600)) (pos 60))

split : (o : ℤ) → IsOffset o → IsSplit o
split o h =
    let small = rem_below o (pos 3_600) (omega arith) in
    record { whole = omega (arith, ints, h.magnitude); rest = omega (arith, ints); minutes = omega (arith, ints); short = omega (arith, ints) }

pub overflow_cast-result-3 : goal.overflow_cast-result-3
overflow_cast-result-3 c =
    let f = split c.self.inside.seconds c.self.invariant in
    let whole = f.whole in
    let rest = f.rest in
    let minutes = f.minutes in
    simp to_z-of_z f.short

pub returns : goal.returns
returns c =
    let f = split c.self.inside.seconds c.self.invariant in
    let whole = f.whole in
    let rest = f.rest in
    let minutes = f.minutes in
    let short = f.short in
    simp to_z-of_z (past_hour c.self.inside.seconds ∙ ap minutes_past_hour c.self.view_is)
