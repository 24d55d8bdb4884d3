use Rattle.std.proofs.Common.{◌≡◌, All, length, take}
use Rattle.cal_c.specs.Values.{IsJulianDay, dates_in}
use Rattle.cal_c.proofs.schedule.date_list.DateList+Date.from_julian_days.Given as goal

abbrev pub invariant-loop-index : goal.invariant-loop-index
invariant-loop-index l = record {
  count : length l.list ≡ l.index;
  days : l.list ≡ dates_in (take l.index l.julian_days);
  dates : All IsJulianDay (take l.index l.julian_days);
}
