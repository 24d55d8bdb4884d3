use Rattle.cal_names.specs.Apart.{IsDistinct, texts}
use Rattle.cal_names.proofs.table.is_distinct.Given as goal

abbrev pub invariant-loop-j : goal.invariant-loop-j
invariant-loop-j l = IsDistinct (texts l.names) l.index l.j
