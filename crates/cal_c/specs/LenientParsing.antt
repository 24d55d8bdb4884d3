-- Values from variants of strings of formats.
use Rattle.std.specs.Prelude.{ℕ, ℤ, pos, negsuc, min, List, Option, Some, None}
use Rattle.cal_time.specs.Date.{IsDate}
use Rattle.cal_time.specs.Time.{IsTime}
use Rattle.cal_time.specs.UtcOffset.{IsOffset}
use Rattle.cal_datetime.specs.DateTime.{IsDateTime}
use Rattle.cal_datetime.specs.OffsetDateTime.{LocalAndOffset}
use Rattle.cal_format.specs.declared.item.Item.{Item}
use Rattle.cal_format.specs.declared.lenient.LenientFormat.{LenientFormat}
use Rattle.cal_format.specs.Lenient.{IsRead}
use Rattle.cal_format.specs.Moment.{moment_of_date, moment_of_time, moment_of_date_time, moment_of_offset_date_time}

-- A pivot, or none for a negative number. A pivot above 65535 is that number, which fits no format.
abbrev pub pivot_of : ℤ → Option ℕ
pivot_of (pos n) = Some (min n 65_535)
pivot_of (negsuc n) = None

abbrev pub lenient_of : List Item → ℤ → LenientFormat
lenient_of items pivot = record { format = items; pivot = pivot_of pivot }

-- The format holds this date, time of day, date-time or moment, and the string is a variant of what
-- it prints of it.
abbrev pub IsVariantOfDate : LenientFormat → List ℕ → ℕ → Type 0
IsVariantOfDate f text n = IsDate n × IsRead f (moment_of_date n) text

abbrev pub IsVariantOfTime : LenientFormat → List ℕ → ℕ → Type 0
IsVariantOfTime f text t = IsTime t × IsRead f (moment_of_time t) text

abbrev pub IsVariantOfPair : LenientFormat → List ℕ → ℤ → Type 0
IsVariantOfPair f text z = IsDateTime z × IsRead f (moment_of_date_time z) text

abbrev pub IsVariantOfMoment : LenientFormat → List ℕ → LocalAndOffset → Type 0
IsVariantOfMoment f text m = IsDateTime m.local × IsOffset m.offset × IsRead f (moment_of_offset_date_time m) text
