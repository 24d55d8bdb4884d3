-- Rows of texts by a format have room.
use Rattle.std.proofs.Common.{ℕ, ◌+◌, ◌*◌, ◌<◌, ◌≤◌, arith}
use Rattle.std.proofs.Math.Nat.{mul-le-mul_right}

pub record Fits (end len row room bytes : ℕ) : Type 0 where
  pub so_far : end + len ≤ (row + 1) * room
  pub within : end + len ≤ bytes

pub next-fits : (end len row rows room bytes : ℕ) → end ≤ row * room → len ≤ room → row < rows → rows * room ≤ bytes → Fits end len row room bytes
next-fits end len row rows room bytes before few below fits =
    let more : (row + 1) * room ≤ rows * room = mul-le-mul_right room (omega (arith, below)) in
    let next : end + len ≤ (row + 1) * room = omega (arith, before, few) in
    record { so_far = next; within = omega (arith, next, more, fits) }
