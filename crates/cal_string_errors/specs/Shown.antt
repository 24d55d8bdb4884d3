-- The components that a string of ISO 8601 or RFC 3339 shows, and the sentence of one that is out of
-- range.
use Rattle.std.specs.Prelude.{◌≡◌, ◌⊎◌, ℕ, ℤ, pos, neg_ℤ, List, Option, Some, None}
use Rattle.cal_errors.specs.Components.{always, bounds_of, sentence_in}
use Rattle.cal_errors.specs.declared.bounds.Bounds.{Bounds}
use Rattle.cal_errors.specs.declared.components.Components.{Components}
use Rattle.cal_iso.specs.DateForm.{HasIsoDate, signed}
use Rattle.cal_iso.specs.MomentForm.{HasIsoMoment, HasIsoPlain, midnight}
use Rattle.cal_iso.specs.TimeForm.{HasIsoTime}
use Rattle.cal_text.specs.DateForms.{HasForm, form_year}
use Rattle.cal_text.specs.OffsetDateTimeForm.{HasOffsetDateTimeForm}
use Rattle.cal_text.specs.OffsetForm.{HasOffsetForm, utc}
use Rattle.cal_text.specs.PlainForm.{HasPlainForm}
use Rattle.cal_text.specs.Rfc3339Form.{HasMomentForm}
use Rattle.cal_text.specs.TimeForm.{HasTimeForm}
use Rattle.cal_text.specs.declared.date_numbers.DateNumbers.{DateNumbers}
use Rattle.cal_text.specs.declared.date_numbers.DateNumbers.TheVariants.{Calendar, Ordinal, Week}
use Rattle.cal_text.specs.declared.offset.numbers.OffsetNumbers.{OffsetNumbers}
use Rattle.cal_text.specs.declared.offset_date_time.numbers.OffsetDateTimeNumbers.{OffsetDateTimeNumbers}
use Rattle.cal_text.specs.declared.plain.numbers.PlainNumbers.{PlainNumbers}
use Rattle.cal_text.specs.declared.rfc3339.numbers.Numbers.{Numbers}
use Rattle.cal_text.specs.declared.rfc3339.numbers.TimeOffset.{TimeOffset}
use Rattle.cal_text.specs.declared.rfc3339.numbers.TimeOffset.TheVariants.{Signed, Utc}
use Rattle.cal_text.specs.declared.time.numbers.TimeNumbers.{TimeNumbers}
use Rattle.cal_format.specs.Ranges.{either}
use Rattle.cal_time.specs.declared.error.Component.{Component}
use Rattle.cal_time.specs.declared.error.Component.TheVariants.{OffsetHour}

-- ---- components
-- A date shows some of these numbers, and the others are 1.
abbrev pub month_in : DateNumbers → ℤ
month_in (Calendar y m d) = pos m
month_in _ = pos 1

abbrev pub day_in : DateNumbers → ℤ
day_in (Calendar y m d) = pos d
day_in _ = pos 1

abbrev pub ordinal_in : DateNumbers → ℤ
ordinal_in (Ordinal y o) = pos o
ordinal_in _ = pos 1

abbrev pub week_in : DateNumbers → ℤ
week_in (Week y w d) = pos w
week_in _ = pos 1

-- The components of a date, a time of day and an offset. The numbers of an offset have its sign.
abbrev pub components : DateNumbers → TimeNumbers → OffsetNumbers → Components
components d t o = record {
  year = form_year d;
  month = month_in d;
  day = day_in d;
  ordinal = ordinal_in d;
  week = week_in d;
  julian_day = pos 0;
  hour = pos t.hour;
  minute = pos t.minute;
  second = pos t.second;
  millisecond = pos 0;
  microsecond = pos 0;
  nanosecond = pos 0;
  offset_hour = signed o.is_negative o.hours;
  offset_minute = signed o.is_negative o.minutes;
  offset_second = signed o.is_negative o.seconds;
  seconds = pos 0;
  timestamp = pos 0;
}

-- The first day of the year 0, for a string without a date.
abbrev pub no_date : DateNumbers
no_date = Calendar (pos 0) 1 1

-- ---- numbers of RFC 3339
abbrev pub date_of : Numbers → DateNumbers
date_of m = Calendar (pos m.year) m.month m.day

abbrev pub time_of : Numbers → TimeNumbers
time_of m = record { hour = m.hour; minute = m.minute; second = m.second; nanosecond = m.nanosecond }

abbrev pub offset_of : TimeOffset → OffsetNumbers
offset_of Utc = utc
offset_of (Signed is_west h m) = record { is_negative = is_west; hours = h; minutes = m; seconds = 0 }

-- ---- strings
-- The string has one of the forms, with these numbers.
abbrev pub ShowsDate : List ℕ → DateNumbers → Type 0
ShowsDate text d = HasForm text d ⊎ HasIsoDate text d

abbrev pub ShowsTime : List ℕ → TimeNumbers → Type 0
ShowsTime text t = HasTimeForm text t ⊎ HasIsoTime text t

abbrev pub ShowsPlain : List ℕ → PlainNumbers → Type 0
ShowsPlain text p = HasPlainForm text p ⊎ HasIsoPlain text p

abbrev pub ShowsMoment : List ℕ → OffsetDateTimeNumbers → Type 0
ShowsMoment text m = HasOffsetDateTimeForm text m ⊎ HasIsoMoment text m

-- The string shows these components: of a date, a time of day, an offset, both, or all three.
abbrev pub Shows : List ℕ → Components → Type 0
Shows text c =
    ((d : DateNumbers) × ShowsDate text d × (c ≡ components d midnight utc))
    ⊎ ((t : TimeNumbers) × ShowsTime text t × (c ≡ components no_date t utc))
    ⊎ ((o : OffsetNumbers) × HasOffsetForm text o × (c ≡ components no_date midnight o))
    ⊎ ((p : PlainNumbers) × ShowsPlain text p × (c ≡ components p.date p.time utc))
    ⊎ ((m : OffsetDateTimeNumbers) × ShowsMoment text m × (c ≡ components m.local.date m.local.time m.offset))
    ⊎ ((m : Numbers) × HasMomentForm text m × (c ≡ components (date_of m) (time_of m) (offset_of m.offset)))

-- ---- sentences
-- RFC 3339 has hours of an offset up to 23. Other strings have them up to 25.
abbrev pub narrow_bounds : Component → Components → Option Bounds
narrow_bounds OffsetHour c = Some (always c.offset_hour (neg_ℤ (pos 23)) (pos 23))
narrow_bounds _ c = None

abbrev pub component_text : Component → Components → Option (List ℕ)
component_text k c = either (sentence_in k (bounds_of k c)) (sentence_in k (narrow_bounds k c))

-- The sentence of a component that the string shows, or nothing if it has none of the forms.
abbrev pub IsStringSentence : Component → List ℕ → Option (List ℕ) → Type 0
IsStringSentence k text r = ((c : Components) × Shows text c × (r ≡ component_text k c)) ⊎ (((c : Components) → ¬ Shows text c) × (r ≡ None))
