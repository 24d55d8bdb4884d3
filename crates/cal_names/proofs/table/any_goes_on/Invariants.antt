use Rattle.cal_names.specs.Apart.{NoneGoesOn, texts}
use Rattle.cal_names.proofs.table.any_goes_on.Given as goal

abbrev pub invariant-loop-j : goal.invariant-loop-j
invariant-loop-j l = NoneGoesOn (texts l.names) l.index l.j l.byte
