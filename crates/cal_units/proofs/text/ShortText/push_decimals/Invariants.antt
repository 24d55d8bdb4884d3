use Rattle.std.proofs.Common.{◌≡◌, ◌<◌, ◌++◌, length}
use Rattle.cal_units.proofs.Decimals.{decimals_of}
use Rattle.cal_units.proofs.text.ShortText.push_decimals.Given as goal

-- The appended decimals and the decimals that follow are all decimals.
abbrev pub invariant-loop-others : goal.invariant-loop-others
invariant-loop-others l = record {
  below : l.others < 1000000000;
  none : l.nanoseconds ≡ 0 → l.others ≡ 0;
  all : l.self ++ decimals_of l.others ≡ l.initial.self ++ decimals_of l.nanoseconds;
}

abbrev pub decreases-loop-others : goal.decreases-loop-others
decreases-loop-others l = length (decimals_of l.others)
