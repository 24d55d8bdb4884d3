-- The text of a recurrence set: a line `DTSTART`, a line `RRULE`, and lines `RDATE` and `EXDATE`
-- (RFC 5545). Each line ends with a carriage return (13) and a line feed (10).
use Rattle.std.specs.Prelude.{◌≡◌, ⊤, true, ℕ, ◌||◌, ◌&&◌, Bool, not, List, [], ◌∷◌, ◌++◌, codes, Option, Some, None, if◌then◌else◌}
use Rattle.std.specs.List.{All, list_any}
use Rattle.cal_recurrence.specs.SetText.{is_date, is_local, is_zone_name}
use Rattle.cal_recurrence.specs.Spelled.{IsDateOrTime, IsSpelled}
use Rattle.cal_recurrence.specs.Written.{date_or_time_text, text_of}
use Rattle.cal_recurrence.specs.declared.date_or_time.DateOrTime.{DateOrTime}
use Rattle.cal_recurrence.specs.declared.date_or_time.DateOrTime.TheVariants.{Date, Local, Utc}
use Rattle.cal_recurrence.specs.declared.set_parts.SetParts.{SetParts}

-- ---- lines
-- The end of a line.
abbrev pub line_end : List ℕ
line_end = 13 ∷ 10 ∷ []

-- Two values are of one kind: dates, readings without `Z`, or readings at UTC.
abbrev pub is_same_kind : DateOrTime → DateOrTime → Bool
is_same_kind (Date n) value = is_date value
is_same_kind (Local z) value = is_local value
is_same_kind (Utc z) value = not (is_date value) && not (is_local value)

-- The parameter of a line with values of this kind: dates have `VALUE=DATE`, and readings without
-- `Z` the name of the zone, if there is one.
abbrev pub parameter_text : Option (List ℕ) → DateOrTime → List ℕ
parameter_text tzid (Date n) = codes ";VALUE=DATE"
parameter_text None (Local z) = []
parameter_text (Some tzid) (Local z) = codes ";TZID=" ++ tzid
parameter_text tzid (Utc z) = []

-- The start of a line, up to this value.
abbrev pub head_text : List ℕ → Option (List ℕ) → DateOrTime → List ℕ
head_text name tzid value = name ++ parameter_text tzid value ++ codes ":" ++ date_or_time_text value

-- The values after a line with this first value. One of its kind comes after a comma, and any other
-- begins a line.
abbrev pub more_text : List ℕ → Option (List ℕ) → DateOrTime → List DateOrTime → List ℕ
more_text name tzid first [] = line_end
more_text name tzid first (value ∷ values) =
    if is_same_kind first value then codes "," ++ date_or_time_text value ++ more_text name tzid first values
    else line_end ++ head_text name tzid value ++ more_text name tzid value values

-- The lines of the values, or an empty text without values.
abbrev pub values_text : List ℕ → Option (List ℕ) → List DateOrTime → List ℕ
values_text name tzid [] = []
values_text name tzid (value ∷ values) = head_text name tzid value ++ more_text name tzid value values

-- The text of a set.
abbrev pub set_text : SetParts → List ℕ
set_text p =
    values_text (codes "DTSTART") p.zone (p.start ∷ []) ++ (codes "RRULE:" ++ text_of p.recurrence ++ line_end)
    ++ values_text (codes "RDATE") p.zone p.dates ++ values_text (codes "EXDATE") p.zone p.exceptions

-- ---- sets that a text can have
-- A value is a reading without `Z`.
abbrev pub has_local : SetParts → Bool
has_local p = is_local p.start || (list_any is_local p.dates || list_any is_local p.exceptions)

-- Some line of a set names its zone.
abbrev pub IsZoneOf : SetParts → Option (List ℕ) → Type 0
IsZoneOf p None = ⊤
IsZoneOf p (Some tzid) = (is_zone_name tzid ≡ true) × (has_local p ≡ true)

-- A set that a text can have.
pub record IsSpelledSet (p : SetParts) : Type 0 where
  pub start : IsDateOrTime p.start
  pub recurrence : IsSpelled p.recurrence
  pub each_date : All IsDateOrTime p.dates
  pub each_exception : All IsDateOrTime p.exceptions
  pub zone : IsZoneOf p p.zone
