-- Forms whose formats are read leniently.
use Rattle.std.specs.Prelude.{◌≡◌, ◌-◌, ℕ, Bool, false, List, length, take, Option, Some, None, if◌then◌else◌}
use Rattle.cal_format.specs.Lenient.{ReadsDates, ReadsDateTimes, ReadsOffsetDateTimes, lacks_century}
use Rattle.cal_format.specs.declared.item.Item.{Item}
use Rattle.cal_format.specs.declared.lenient.LenientFormat.{LenientFormat}
use Rattle.caldate_answers.specs.Languages.{kind_items}
use Rattle.caldate_answers.specs.Variants.{lenient_items}
use Rattle.caldate_answers.specs.declared.reading.lenient.LenientKind.{LenientKind}
use Rattle.caldate_answers.specs.declared.reading.lenient.LenientKind.TheVariants as lenient
use Rattle.caldate_answers.specs.declared.reading.reader.Reader.{Reader}
use Rattle.caldate_answers.specs.declared.reading.reader.Reader.TheVariants.{Format, Yearless}
use Rattle.caldate_answers.specs.declared.reading.value_format.ValueFormat.{ValueFormat}
use Rattle.caldate_answers.specs.declared.reading.value_format.ValueFormat.TheVariants.{Dates, Moments, DateTimes, Lenient, InLanguage}

-- The items of a format.
abbrev pub items_in : ValueFormat → List Item
items_in (Dates items) = items
items_in (Moments items) = items
items_in (DateTimes items) = items
items_in (Lenient format) = lenient_items format
items_in (InLanguage format) = kind_items format.1

-- The items of a format without a year, which a slash and the year follow.
abbrev pub without_year : List Item → List Item
without_year items = take (length items - 2) items

-- A lenient format reads all items. With a pivot no year follows them.
abbrev pub read_items : Option ℕ → List Item → List Item
read_items None items = items
read_items (Some year) items = without_year items

-- No two values of the kind that another format has can have the same string, and this is the
-- lenient format for that kind.
abbrev pub IsForSameValues : ValueFormat → LenientFormat → LenientKind → Type 0
IsForSameValues (Dates items) format found = ReadsDates format × (found ≡ lenient.Dates format)
IsForSameValues (Moments items) format found = ReadsOffsetDateTimes format × (found ≡ lenient.Moments format)
IsForSameValues (DateTimes items) format found = ReadsDateTimes format × (found ≡ lenient.DateTimes format)
IsForSameValues (Lenient other) format found = ⊥
IsForSameValues (InLanguage other) format found = ⊥

abbrev pub IsLenientFormat : Option ℕ → ValueFormat → LenientKind → Type 0
IsLenientFormat pivot format found = IsForSameValues format (record { format = read_items pivot (items_in format); pivot = pivot }) found

-- ---- forms
-- The form is a format whose only year is `%y`.
abbrev pub lacks_century_in : Reader → Bool
lacks_century_in (Yearless format) = lacks_century (without_year (items_in format))
lacks_century_in other = false

abbrev pub IsLenientYearless : Option ℕ → ValueFormat → Reader → Type 0
IsLenientYearless None format found = (lenient : LenientKind) × IsLenientFormat None format lenient × (found ≡ Yearless (Lenient lenient))
IsLenientYearless (Some year) format found =
    (lenient : LenientKind) × IsLenientFormat (Some year) format lenient × (found ≡ Format (Lenient lenient))

-- The form whose format is read leniently. A pivot is for a format whose only year is `%y`.
abbrev pub IsLenientReader : Option ℕ → Reader → Reader → Type 0
IsLenientReader pivot (Format format) found = (lenient : LenientKind) × IsLenientFormat None format lenient × (found ≡ Format (Lenient lenient))
IsLenientReader pivot (Yearless format) found = IsLenientYearless (if lacks_century_in (Yearless format) then pivot else None) format found
IsLenientReader pivot other found = ⊥
