-- The fields of a range of days are its start and its end.
use Rattle.std.specs.Prelude.{◌≡◌, ◌≤◌}
use Rattle.std.proofs.Common.{refl}
use Rattle.cal_schedule.specs.Ranges.{Range}
use Rattle.cal_schedule.specs.declared.date_range.DateRange.TheInside.{Inside}

abbrev pub range_of : Inside → Range
range_of r = record { start = r.start; end = r.end }

abbrev pub fields_of : Range → Inside
fields_of r = record { start = r.start; end = r.end }

-- The start and the end of a range have its fields.
pub fields_of-range_of : (r : Inside) → r.start ≤ r.end → fields_of (range_of r) ≡ r
fields_of-range_of r h = refl
