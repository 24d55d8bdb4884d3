-- Values from strings of formats.
use Rattle.std.specs.Prelude.{◌≡◌, ℕ, ℤ, pos, unsigned_abs, List, IsTrue}
use Rattle.cal_time.specs.Date.{IsDate}
use Rattle.cal_time.specs.Time.{IsTime}
use Rattle.cal_time.specs.UtcOffset.{IsOffset}
use Rattle.cal_datetime.specs.DateTime.{IsDateTime, time_at}
use Rattle.cal_datetime.specs.OffsetDateTime.{LocalAndOffset}
use Rattle.cal_format.specs.declared.error.ParseError.{ParseError}
use Rattle.cal_format.specs.declared.error.ParseError.TheVariants.{UnexpectedByte, UnexpectedEnd, OutOfRange, Contradiction}
use Rattle.cal_format.specs.declared.item.Item.{Item}
use Rattle.cal_format.specs.Moment.{moment_of_date, moment_of_time, moment_of_offset, moment_of_date_time, moment_of_offset_date_time}
use Rattle.cal_format.specs.Reading.{holds_time, holds_offset}
use Rattle.cal_format.specs.Scanning.{AreHeld}
use Rattle.cal_format.specs.Text.{text_of}
use Rattle.cal_c.specs.Results.{no_value}
use Rattle.cal_c.specs.declared.status.TheConstants.{OK, UNEXPECTED_BYTE, UNEXPECTED_END, CONTRADICTION}
use Rattle.cal_c.specs.Statuses.{component_status}
use Rattle.cal_c.specs.Texts.{no_position, parsed_moment_ok}
use Rattle.cal_c.specs.declared.formats.parse_results.ParseTimeResult.{ParseTimeResult}
use Rattle.cal_c.specs.declared.formats.parse_results.ParseOffsetResult.{ParseOffsetResult}
use Rattle.cal_c.specs.declared.texts.ParseMomentResult.{ParseMomentResult}

-- ---- strings of values that the items hold
-- The items hold this date, time of day, offset, date-time or moment, and print it as the string.
abbrev pub IsTextOfDate : List Item → List ℕ → ℕ → Type 0
IsTextOfDate items text n = IsDate n × AreHeld (moment_of_date n) items × (text ≡ text_of items (moment_of_date n))

abbrev pub IsTextOfTime : List Item → List ℕ → ℕ → Type 0
IsTextOfTime items text t = IsTime t × IsTrue (holds_time items t) × (text ≡ text_of items (moment_of_time t))

abbrev pub IsTextOfOffset : List Item → List ℕ → ℤ → Type 0
IsTextOfOffset items text o = IsOffset o × IsTrue (holds_offset items o) × (text ≡ text_of items (moment_of_offset o))

abbrev pub IsTextOfPair : List Item → List ℕ → ℤ → Type 0
IsTextOfPair items text z = IsDateTime z × AreHeld (moment_of_date_time z) items × IsTrue (holds_time items (time_at z)) × (text ≡ text_of items (moment_of_date_time z))

abbrev pub IsTextOfMoment : List Item → List ℕ → LocalAndOffset → Type 0
IsTextOfMoment items text m =
    IsDateTime m.local × IsOffset m.offset × AreHeld (moment_of_offset_date_time m) items × IsTrue (holds_time items (time_at m.local)) × IsTrue (holds_offset items m.offset)
    × (text ≡ text_of items (moment_of_offset_date_time m))

-- ---- results
-- The result with a time of day or an offset, or with an error at a position.
abbrev pub parsed_time_ok : ℕ → ParseTimeResult
parsed_time_ok t = record { status = OK; unused = 0; time = t; position = no_position }

abbrev pub parsed_time_error_at : ℤ → ℕ → ParseTimeResult
parsed_time_error_at s at = record { status = s; unused = 0; time = 18_446_744_073_709_551_615; position = at }

abbrev pub parsed_offset_ok : ℤ → ParseOffsetResult
parsed_offset_ok o = record { status = OK; offset = o; position = no_position }

abbrev pub parsed_offset_error_at : ℤ → ℕ → ParseOffsetResult
parsed_offset_error_at s at = record { status = s; offset = no_value; position = at }

-- A date-time is a moment at the offset 0.
abbrev pub parsed_pair_ok : ℤ → ParseMomentResult
parsed_pair_ok z = parsed_moment_ok (record { local = z; offset = pos 0 })

-- The status and the position of an error. A component that contradicts the others has its status
-- in place of a position.
abbrev pub parse_status : ParseError → ℤ
parse_status (UnexpectedByte at) = UNEXPECTED_BYTE
parse_status (UnexpectedEnd at) = UNEXPECTED_END
parse_status (OutOfRange why) = component_status why.component
parse_status (Contradiction c) = CONTRADICTION

abbrev pub parse_position : ParseError → ℕ
parse_position (UnexpectedByte at) = at
parse_position (UnexpectedEnd at) = at
parse_position (OutOfRange why) = no_position
parse_position (Contradiction c) = unsigned_abs (component_status c)

-- The result is the value of the string, or says why the string is rejected.
pub record IsParsed {T R : Type 0} (IsText : T → Type 0) (Rejects : ParseError → Type 0) (ok : T → R) (error_at : ℤ → ℕ → R) (r : R) : Type 0 where
  pub value : (v : T) → IsText v → r ≡ ok v
  pub error : (((v : T) × IsText v) → ⊥) → (e : ParseError) × Rejects e × (r ≡ error_at (parse_status e) (parse_position e))
