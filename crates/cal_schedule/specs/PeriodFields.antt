-- The fields of a period are its parts.
use Rattle.std.specs.Prelude.{◌≡◌}
use Rattle.std.proofs.Common.{refl}
use Rattle.cal_schedule.specs.Period.{IsOneSign, Parts}
use Rattle.cal_schedule.specs.declared.period.Period.TheInside.{Inside}

abbrev pub parts_of : Inside → Parts
parts_of m = record { years = m.years; months = m.months; weeks = m.weeks; days = m.days; exact = m.duration }

abbrev pub fields_of : Parts → Inside
fields_of p = record { years = p.years; months = p.months; weeks = p.weeks; days = p.days; duration = p.exact }

-- The parts of a period have its fields.
pub fields_of-parts_of : (m : Inside) → IsOneSign (parts_of m) → fields_of (parts_of m) ≡ m
fields_of-parts_of m h = refl
