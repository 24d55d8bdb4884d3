use Rattle.std.proofs.Common.{ℕ, suc, ◌<◌, length}
use Rattle.cal_zone.specs.Timeline.{IsOffset}
use Rattle.cal_zone.specs.ChangeError.{IsSound, Follows}
use Rattle.cal_zone.proofs.change_error.ChangeError.find.Given as goal

abbrev pub invariant-each : goal.invariant-each
invariant-each l = record { first : IsOffset l.first.offset; sound : (k : ℕ) → k < l.index → IsSound l.table k }

abbrev pub invariant-pairs : goal.invariant-pairs
invariant-pairs l = record {
  first : IsOffset l.first.offset;
  sound : (k : ℕ) → k < length l.table → IsSound l.table k;
  follow : (k : ℕ) → suc k < l.index → Follows l.first.offset l.table k;
}
