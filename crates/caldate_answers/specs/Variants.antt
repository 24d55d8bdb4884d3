-- The strings that lenient formats read.
use Rattle.std.specs.Prelude.{◌≡◌, ℕ, ℤ, List}
use Rattle.cal_time.specs.Date.{IsDate}
use Rattle.cal_time.specs.UtcOffset.{IsOffset}
use Rattle.cal_datetime.specs.DateTime.{IsDateTime}
use Rattle.cal_datetime.specs.OffsetDateTime.{LocalAndOffset}
use Rattle.cal_format.specs.Lenient.{IsRead}
use Rattle.cal_format.specs.Moment.{moment_of_date, moment_of_date_time, moment_of_offset_date_time}
use Rattle.cal_format.specs.declared.item.Item.{Item}
use Rattle.cal_format.specs.declared.lenient.LenientFormat.{LenientFormat}
use Rattle.cal_text.specs.declared.any.DateForm.TheVariants.{Calendar}
use Rattle.cal_text.specs.declared.any.DateOrMoment.{DateOrMoment}
use Rattle.cal_text.specs.declared.any.DateOrMoment.TheVariants.{Date, Moment}
use Rattle.cal_text.specs.declared.any.MomentForm.TheVariants.{Rfc3339}
use Rattle.caldate_answers.specs.declared.reading.lenient.LenientKind.{LenientKind}
use Rattle.caldate_answers.specs.declared.reading.lenient.LenientKind.TheVariants.{Dates, Moments, DateTimes}

-- The format and its items, whatever its values are.
abbrev pub lenient_of : LenientKind → LenientFormat
lenient_of (Dates format) = format
lenient_of (Moments format) = format
lenient_of (DateTimes format) = format

abbrev pub lenient_items : LenientKind → List Item
lenient_items kind = (lenient_of kind).format

-- The string is a variant of one of this date or moment. A string without an offset is at `offset`.
abbrev pub IsVariantText : ℤ → LenientKind → List ℕ → DateOrMoment → Type 0
IsVariantText offset (Dates format) text found =
    (n : ℕ) × IsDate n × IsRead format (moment_of_date n) text × (found ≡ Date Calendar n)
IsVariantText offset (Moments format) text found =
    (m : LocalAndOffset) × IsDateTime m.local × IsOffset m.offset × IsRead format (moment_of_offset_date_time m) text × (found ≡ Moment Rfc3339 m)
IsVariantText offset (DateTimes format) text found =
    (z : ℤ) × IsDateTime z × IsRead format (moment_of_date_time z) text × (found ≡ Moment Rfc3339 (record { local = z; offset = offset }))
