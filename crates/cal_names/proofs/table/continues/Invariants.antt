use Rattle.std.proofs.Common.{ℕ, ◌<◌, length}
use Rattle.cal_names.specs.Apart.{NoneGoesOn, texts}
use Rattle.cal_names.proofs.table.continues.Given as goal

abbrev pub invariant-loop-i : goal.invariant-loop-i
invariant-loop-i l = (m : ℕ) → m < l.i → NoneGoesOn (texts l.names) m (length l.names) l.byte
