-- The moment, the day and the form of a date or a moment that was read. A date is midnight UTC.
use Rattle.std.specs.Prelude.{ℕ, Bool, true, false, pos}
use Rattle.cal_datetime.specs.DateTime.{date_time, date_at}
use Rattle.cal_datetime.specs.OffsetDateTime.{LocalAndOffset}
use Rattle.cal_text.specs.declared.any.DateForm.TheVariants.{Calendar}
use Rattle.cal_text.specs.declared.any.DateOrMoment.{DateOrMoment}
use Rattle.cal_text.specs.declared.any.DateOrMoment.TheVariants as read
use Rattle.cal_text.specs.declared.any.MomentForm.TheVariants.{Rfc3339}
use Rattle.caldate_answers.specs.declared.request.Form.{Form}
use Rattle.caldate_answers.specs.declared.request.Form.TheVariants.{Date, Moment}

-- The moment of a date or a moment. A date is midnight UTC.
abbrev pub moment_of : DateOrMoment → LocalAndOffset
moment_of (read.Date form n) = record { local = date_time n 0; offset = pos 0 }
moment_of (read.Moment form m) = m

-- The local day of a date or a moment.
abbrev pub day_of : DateOrMoment → ℕ
day_of found = date_at (moment_of found).local

-- The form in which a date or a moment was read.
abbrev pub form_read : DateOrMoment → Form
form_read (read.Date form n) = Date form
form_read (read.Moment form m) = Moment form

-- A calendar date, or a moment in RFC 3339.
abbrev pub form_iso : DateOrMoment → Form
form_iso (read.Date form n) = Date Calendar
form_iso (read.Moment form m) = Moment Rfc3339

-- A date, and not a moment.
abbrev pub is_date : DateOrMoment → Bool
is_date (read.Date form n) = true
is_date (read.Moment form m) = false
