-- The text of a moment (RFC 3339, internet date and time format).
use Rattle.std.specs.Prelude.{◌≡◌, ◌==◌, ℕ, ◌/◌, ◌%◌, ◌<◌, ℤ, pos, ◌≤ℤ◌, List, [], ◌++◌, codes, unsigned_abs, if◌then◌else◌}
use Rattle.cal_time.specs.Date.{year_at, month_at, day_of_month_at}
use Rattle.cal_time.specs.DateText.{digits_at_least}
use Rattle.cal_time.specs.Digits.{decimals}
use Rattle.cal_time.specs.Time.{hour_of, minute_of, second_of, nanosecond_of}
use Rattle.cal_time.specs.UtcOffset.{sign}
use Rattle.cal_datetime.specs.DateTime.{date_at, time_at}
use Rattle.cal_datetime.specs.OffsetDateTime.{LocalAndOffset}
use Rattle.cal_text.specs.DateForms.{year_text}

-- A fraction of a second is empty for 0 nanoseconds, else a point and decimals.
abbrev pub fraction_text : ℕ → List ℕ
fraction_text n = if n == 0 then [] else codes "." ++ decimals n

-- An offset is Z for UTC, else a sign and two digits each of the hours and the minutes.
abbrev pub offset_text : ℤ → List ℕ
offset_text o =
    if unsigned_abs o == 0 then codes "Z"
    else sign o ++ digits_at_least 2 (unsigned_abs o / 3600) ++ codes ":" ++ digits_at_least 2 (unsigned_abs o / 60 % 60)

-- The text of day n at time of day t with offset o. The month, the day, the hour, the minute and
-- the second have two digits each.
abbrev pub rfc3339_text : ℕ → ℕ → ℤ → List ℕ
rfc3339_text n t o =
    year_text (year_at n) ++ codes "-" ++ digits_at_least 2 (month_at n) ++ codes "-" ++ digits_at_least 2 (day_of_month_at n)
    ++ codes "T" ++ digits_at_least 2 (hour_of t) ++ codes ":" ++ digits_at_least 2 (minute_of t) ++ codes ":" ++ digits_at_least 2 (second_of t)
    ++ fraction_text (nanosecond_of t) ++ offset_text o

-- The text of a moment.
abbrev pub moment_text : LocalAndOffset → List ℕ
moment_text m = rfc3339_text (date_at m.local) (time_at m.local) m.offset

-- A moment has a text if its year is from 0 to 9999 and its offset is whole minutes, less than a
-- day.
pub record HasMomentText (m : LocalAndOffset) : Type 0 where
  pub from_year_0 : pos 0 ≤ℤ year_at (date_at m.local)
  pub to_year_9999 : year_at (date_at m.local) ≤ℤ pos 9999
  pub whole_minutes : unsigned_abs m.offset % 60 ≡ 0
  pub below_day : unsigned_abs m.offset < 86400
