use Rattle.std.proofs.Common.{◌≡◌, All, length, take}
use Rattle.cal_c.specs.Moments.{IsMoment}
use Rattle.cal_c.specs.TextSets.{readings_in}
use Rattle.cal_c.proofs.schedule.date_list.DateList+PlainDateTime.from_moments.Given as goal

abbrev pub invariant-loop-index : goal.invariant-loop-index
invariant-loop-index l = record {
  count : length l.list ≡ l.index;
  readings : l.list ≡ readings_in (take l.index l.moments);
  valid : All IsMoment (take l.index l.moments);
}
