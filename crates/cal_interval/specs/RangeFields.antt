-- The fields of a range of local date-times are its start and its end.
use Rattle.std.specs.Prelude.{◌≡◌, ◌≤ℤ◌}
use Rattle.std.proofs.Common.{refl}
use Rattle.cal_interval.specs.DateTimeRanges.{Range}
use Rattle.cal_interval.specs.declared.plain.range.DateTimeRange.TheInside.{Inside}

abbrev pub range_of : Inside → Range
range_of r = record { start = r.start; end = r.end }

abbrev pub fields_of : Range → Inside
fields_of r = record { start = r.start; end = r.end }

-- The start and the end of a range have its fields.
pub fields_of-range_of : (r : Inside) → r.start ≤ℤ r.end → fields_of (range_of r) ≡ r
fields_of-range_of r h = refl
