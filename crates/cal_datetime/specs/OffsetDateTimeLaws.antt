-- The fields of a date-time at an offset are its day, its time of day and its offset.
use Rattle.std.specs.Prelude.{◌≡◌}
use Rattle.cal_time.specs.Date.{IsDate}
use Rattle.cal_time.specs.Time.{IsTime}
use Rattle.cal_time.specs.UtcOffset.{IsOffset}
use Rattle.cal_datetime.specs.DateTime.{date_time, date_at, time_at}
use Rattle.cal_datetime.specs.DateTimeLaws.{date_at-date_time, time_at-date_time}
use Rattle.cal_datetime.specs.OffsetDateTime.{LocalAndOffset}
use Rattle.cal_datetime.specs.declared.offset_date_time.OffsetDateTime.TheInside.{Inside}

-- The date-time at an offset that has these fields.
abbrev pub local_and_offset_of : Inside → LocalAndOffset
local_and_offset_of m = record { local = date_time m.date m.time; offset = m.offset }

-- The fields of a date-time at an offset.
abbrev pub fields_of : LocalAndOffset → Inside
fields_of m = record { date = date_at m.local; offset = m.offset; time = time_at m.local }

-- The date-time at an offset that three fields give has these fields.
pub fields_of-local_and_offset_of : (m : Inside) → IsDate m.date × IsTime m.time × IsOffset m.offset → fields_of (local_and_offset_of m) ≡ m
fields_of-local_and_offset_of m h =
    let dates = date_at-date_time m.date m.time h.1.below_day in
    let times = time_at-date_time m.date m.time h.1.below_day in
    λ i. record { date = dates i; offset = m.offset; time = times i }
