-- Columns of strings in all formats of ISO 8601.
use Rattle.std.specs.Prelude.{◌≡◌, ℕ, ℤ, List}
use Rattle.cal_time.specs.Date.{julian_day_at}
use Rattle.cal_time.specs.declared.error.ComponentRange.{ComponentRange}
use Rattle.cal_datetime.specs.OffsetDateTime.{LocalAndOffset}
use Rattle.cal_text.specs.OffsetDateTimeForm.{IsOffsetDateTimeError}
use Rattle.cal_text.specs.Parsing.{HasError, IsDateError}
use Rattle.cal_text.specs.Position.{HasSome}
use Rattle.cal_iso.specs.DateForm.{HasIsoDate, IsIsoDateText}
use Rattle.cal_iso.specs.MomentForm.{HasIsoMoment, IsIsoMomentText}
use Rattle.cal_c.specs.Moments.{moment_ok, moment_error}
use Rattle.cal_c.specs.Results.{date_ok, date_error}
use Rattle.cal_c.specs.Statuses.{component_status}
use Rattle.cal_c.specs.TextColumns.{AreBoundsWithin, bytes_between}
use Rattle.cal_c.specs.Texts.{StopsAt}
use Rattle.cal_c.specs.declared.results.DateResult.{DateResult}
use Rattle.cal_c.specs.declared.results.MomentResult.{MomentResult}
use Rattle.cal_c.specs.declared.status.TheConstants.{INVALID_BOUNDS}

-- The result of `fots_date_parse_iso` without the position.
pub record IsIsoDate (bytes : List ℕ) (r : DateResult) : Type 0 where
  pub date : (n : ℕ) → IsIsoDateText bytes n → r ≡ date_ok (julian_day_at n)
  pub form : (HasSome HasIsoDate bytes → ⊥) → (at : ℕ) × (s : ℤ) × StopsAt (HasSome HasIsoDate) bytes at s × (r ≡ date_error s)
  pub component : (why : ComponentRange) → HasError HasIsoDate IsDateError bytes why → r ≡ date_error (component_status why.component)

-- The same for the bytes between two bounds.
pub record IsIsoDateRow (bytes : List ℕ) (from to : ℤ) (r : DateResult) : Type 0 where
  pub bounds : (AreBoundsWithin bytes from to → ⊥) → r ≡ date_error INVALID_BOUNDS
  pub read : AreBoundsWithin bytes from to → IsIsoDate (bytes_between bytes from to) r

-- The result of `fots_moment_parse_iso` without the position.
pub record IsIsoMoment (bytes : List ℕ) (r : MomentResult) : Type 0 where
  pub moment : (m : LocalAndOffset) → IsIsoMomentText bytes m → r ≡ moment_ok m
  pub form : (HasSome HasIsoMoment bytes → ⊥) → (at : ℕ) × (s : ℤ) × StopsAt (HasSome HasIsoMoment) bytes at s × (r ≡ moment_error s)
  pub component : (why : ComponentRange) → HasError HasIsoMoment IsOffsetDateTimeError bytes why → r ≡ moment_error (component_status why.component)

-- The same for the bytes between two bounds.
pub record IsIsoMomentRow (bytes : List ℕ) (from to : ℤ) (r : MomentResult) : Type 0 where
  pub bounds : (AreBoundsWithin bytes from to → ⊥) → r ≡ moment_error INVALID_BOUNDS
  pub read : AreBoundsWithin bytes from to → IsIsoMoment (bytes_between bytes from to) r
