use Rattle.cal_names.specs.Apart.{IsApart, texts}
use Rattle.cal_names.proofs.table.is_apart.Given as goal

abbrev pub invariant-loop-j : goal.invariant-loop-j
invariant-loop-j l = IsApart (texts l.names) l.index l.j
