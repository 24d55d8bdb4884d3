-- Texts that are not POSIX texts of zones. An error names the first part that is missing, and
-- where.
use Rattle.std.specs.Prelude.{◌≡◌, ◌≢◌, ℕ, ◌+◌, false, List, length}
use Rattle.cal_tzif.specs.declared.zone_error.ZoneError.{ZoneError}
use Rattle.cal_tzif.specs.declared.zone_error.ZoneErrorKind.{ZoneErrorKind}
use Rattle.cal_tzif.specs.declared.zone_error.ZoneErrorKind.TheVariants as kinds
use Rattle.cal_tzif.specs.Bytes.{byte}
use Rattle.cal_tzif.specs.Posix.{IsName, IsTime, name_end, IsStandard, standard_end, has_no_offset, IsDaylight, daylight_end, IsDay, day_end, IsChangeTime, IsChange, change_end, end_at, AreApart}

-- The error of this kind at a position.
abbrev pub error_at : ZoneErrorKind → ℕ → ZoneError
error_at kind position = record { kind = kind; position = position }

-- The standard time has no name, or else no offset.
pub data IsStandardError (text : List ℕ) (at : ℕ) (e : ZoneError) : Type 0 where
  name : ¬ (IsName text at) → e ≡ error_at kinds.Name at → IsStandardError text at e
  offset : IsName text at → ¬ (IsTime text (name_end text at) 24) → e ≡ error_at kinds.PosixOffset (name_end text at) → IsStandardError text at e

-- The daylight time has no name, or else neither an offset nor a comma.
pub data IsDaylightError (text : List ℕ) (at : ℕ) (e : ZoneError) : Type 0 where
  name : ¬ (IsName text at) → e ≡ error_at kinds.Name at → IsDaylightError text at e
  offset : IsName text at → has_no_offset text at ≡ false → ¬ (IsTime text (name_end text at) 24) → e ≡ error_at kinds.PosixOffset (name_end text at) → IsDaylightError text at e

-- A change has no comma, or else no day, or else no valid time after a slash.
pub data IsChangeError (text : List ℕ) (at : ℕ) (e : ZoneError) : Type 0 where
  comma : byte text at ≢ 44 → e ≡ error_at kinds.Day at → IsChangeError text at e
  date : byte text at ≡ 44 → ¬ (IsDay text (at + 1)) → e ≡ error_at kinds.Day (at + 1) → IsChangeError text at e
  time : byte text at ≡ 44 → IsDay text (at + 1) → ¬ (IsChangeTime text (day_end text (at + 1))) → e ≡ error_at kinds.Time (day_end text (at + 1)) → IsChangeError text at e

-- The first error of a rule: of the daylight time, of the two changes, bytes after them, or months
-- that are the same or neighbours.
pub data IsRuleError (text : List ℕ) (at : ℕ) (e : ZoneError) : Type 0 where
  daylight : IsDaylightError text at e → IsRuleError text at e
  begins : IsDaylight text at → IsChangeError text (daylight_end text at) e → IsRuleError text at e
  ends : IsDaylight text at → IsChange text (daylight_end text at) → IsChangeError text (end_at text at) e → IsRuleError text at e
  trailing : IsDaylight text at → IsChange text (daylight_end text at) → IsChange text (end_at text at)
      → change_end text (end_at text at) ≢ length text → e ≡ error_at kinds.Trailing (change_end text (end_at text at)) → IsRuleError text at e
  months : IsDaylight text at → IsChange text (daylight_end text at) → IsChange text (end_at text at)
      → change_end text (end_at text at) ≡ length text → ¬ (AreApart text at) → e ≡ error_at kinds.Months at → IsRuleError text at e

-- The first error of a POSIX text from a position on.
pub data IsTextError (text : List ℕ) (at : ℕ) (e : ZoneError) : Type 0 where
  standard : IsStandardError text at e → IsTextError text at e
  rest : IsStandard text at → standard_end text at ≢ length text → IsRuleError text (standard_end text at) e → IsTextError text at e
