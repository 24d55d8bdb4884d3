-- Formats with the names of a language.
use Rattle.std.specs.Prelude.{◌≡◌, ℕ, ℤ, List}
use Rattle.cal_datetime.specs.OffsetDateTime.{LocalAndOffset}
use Rattle.cal_format.specs.Moment.{moment_of_date, moment_of_date_time, moment_of_offset_date_time}
use Rattle.cal_format.specs.Reading.{DeterminesDate, DeterminesDateTime, DeterminesOffsetDateTime}
use Rattle.cal_format.specs.declared.item.Item.{Item}
use Rattle.cal_names.specs.declared.names.Names.{Names}
use Rattle.cal_named_format.specs.Named.{text_in}
use Rattle.cal_named_format.specs.Values.{HoldsDate, HoldsDateTime, HoldsOffsetDateTime}
use Rattle.cal_text.specs.declared.any.DateForm.TheVariants.{Calendar}
use Rattle.cal_text.specs.declared.any.DateOrMoment.{DateOrMoment}
use Rattle.cal_text.specs.declared.any.DateOrMoment.TheVariants.{Date, Moment}
use Rattle.cal_text.specs.declared.any.MomentForm.TheVariants.{Rfc3339}
use Rattle.caldate_answers.specs.declared.reading.in_language.LanguageKind.{LanguageKind}
use Rattle.caldate_answers.specs.declared.reading.in_language.LanguageKind.TheVariants.{Dates, Moments, DateTimes}

-- The items of a format of dates, moments or local date-times.
abbrev pub kind_items : LanguageKind → List Item
kind_items (Dates items) = items
kind_items (Moments items) = items
kind_items (DateTimes items) = items

-- The strings of the format determine a value of its kind.
abbrev pub Determines : LanguageKind → Type 0
Determines (Dates items) = DeterminesDate items
Determines (Moments items) = DeterminesOffsetDateTime items
Determines (DateTimes items) = DeterminesDateTime items

-- With these names, the string is what the items print of this date or moment, which
-- they hold. A string without an offset is at `offset`.
abbrev pub IsTextInLanguage : ℤ → Names → LanguageKind → List ℕ → DateOrMoment → Type 0
IsTextInLanguage offset names (Dates items) text found =
    (n : ℕ) × HoldsDate items n × (text ≡ text_in names items (moment_of_date n)) × (found ≡ Date Calendar n)
IsTextInLanguage offset names (Moments items) text found =
    (m : LocalAndOffset) × HoldsOffsetDateTime items m × (text ≡ text_in names items (moment_of_offset_date_time m)) × (found ≡ Moment Rfc3339 m)
IsTextInLanguage offset names (DateTimes items) text found =
    (z : ℤ) × HoldsDateTime items z × (text ≡ text_in names items (moment_of_date_time z))
    × (found ≡ Moment Rfc3339 (record { local = z; offset = offset }))
