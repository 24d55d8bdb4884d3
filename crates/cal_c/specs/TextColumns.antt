-- Columns of strings. One array has the bytes of all strings, and one has the start of each string,
-- which is the end of the string before it.
use Rattle.std.specs.Prelude.{◌≡◌, ℕ, ◌+◌, ◌*◌, ◌<◌, ◌≤◌, ℤ, pos, ◌≤ℤ◌, unsigned_abs, List, [], length, drop, count_by}
use Rattle.std.specs.List.{between}
use Rattle.cal_time.specs.Date.{IsDate, julian_day_at}
use Rattle.cal_time.specs.DateText.{text}
use Rattle.cal_time.specs.Time.{IsTime}
use Rattle.cal_time.specs.UtcOffset.{IsOffset}
use Rattle.cal_time.specs.declared.error.ComponentRange.{ComponentRange}
use Rattle.cal_datetime.specs.OffsetDateTime.{LocalAndOffset}
use Rattle.cal_text.specs.DateForms.{IsDateText}
use Rattle.cal_text.specs.Rfc3339.{HasMomentText, moment_text}
use Rattle.cal_text.specs.Rfc3339Form.{IsMomentText}
use Rattle.cal_c.specs.Columns.{int_at, nat_at, is_error}
use Rattle.cal_c.specs.Moments.{moment_ok, moment_error}
use Rattle.cal_c.specs.Results.{date_ok, date_error}
use Rattle.cal_c.specs.declared.status.TheConstants.{OK, RESULT_OUT_OF_RANGE, INVALID_DATE, INVALID_TIME, INVALID_OFFSET, INVALID_BOUNDS}
use Rattle.cal_c.specs.Statuses.{component_status}
use Rattle.cal_c.specs.Texts.{HasDateSyntax, HasMomentSyntax, HasDateError, HasMomentError, StopsAt}
use Rattle.cal_c.specs.Values.{IsJulianDay, day_of, moment_of}
use Rattle.cal_c.specs.declared.results.DateResult.{DateResult}
use Rattle.cal_c.specs.declared.results.MomentResult.{MomentResult}

-- Two bounds are within the bytes, in order.
pub record AreBoundsWithin (bytes : List ℕ) (from to : ℤ) : Type 0 where
  pub not_before : pos 0 ≤ℤ from
  pub rising : from ≤ℤ to
  pub not_after : to ≤ℤ pos (length bytes)

-- The bytes between two bounds.
abbrev pub bytes_between : List ℕ → ℤ → ℤ → List ℕ
bytes_between bytes from to = between (unsigned_abs from) (unsigned_abs to) bytes

-- The string of row k.
abbrev pub text_at : List ℕ → List ℤ → ℕ → List ℕ
text_at bytes bounds k = bytes_between bytes (int_at bounds k) (int_at bounds (k + 1))

-- The bytes have room for rows of this length, and the last bound fits in 32 bits.
pub record HasRoomFor (longest rows bytes : ℕ) : Type 0 where
  pub room : rows * longest ≤ bytes
  pub few : rows * longest ≤ 2_147_483_647

-- The strings follow each other from the front, each between its bounds and with its result. The
-- bytes after them are unchanged, and the rows with an error are counted.
pub record ArePrinted (old new : List ℕ) (bounds : List ℤ) (statuses : List ℕ) (refused : ℕ) (Row : ℕ → List ℕ → ℕ → Type 0) : Type 0 where
  pub first : int_at bounds 0 ≡ pos 0
  pub bytes_between : (k : ℕ) → k < length statuses → AreBoundsWithin new (int_at bounds k) (int_at bounds (k + 1))
  pub text : (k : ℕ) → k < length statuses → Row k (text_at new bounds k) (nat_at statuses k)
  pub rest : let end = unsigned_abs (int_at bounds (length statuses)) in drop end new ≡ drop end old
  pub count : refused ≡ count_by is_error statuses

-- ---- a row of several arrays, which is the result of the single call
abbrev pub moment_row : ℤ → ℕ → ℤ → ℕ → MomentResult
moment_row date time offset status = record { status = pos status; unused = 0; moment = record { date = date; offset = offset; time = time } }

-- The result of `fots_date_parse` without the position.
pub record IsParsedDate (bytes : List ℕ) (r : DateResult) : Type 0 where
  pub date : (n : ℕ) → IsDate n → IsDateText bytes n → r ≡ date_ok (julian_day_at n)
  pub form : (HasDateSyntax bytes → ⊥) → (at : ℕ) × (s : ℤ) × StopsAt HasDateSyntax bytes at s × (r ≡ date_error s)
  pub component : (why : ComponentRange) → HasDateError bytes why → r ≡ date_error (component_status why.component)

-- The same for the bytes between two bounds.
pub record IsParsedDateRow (bytes : List ℕ) (from to : ℤ) (r : DateResult) : Type 0 where
  pub bounds : (AreBoundsWithin bytes from to → ⊥) → r ≡ date_error INVALID_BOUNDS
  pub read : AreBoundsWithin bytes from to → IsParsedDate (bytes_between bytes from to) r

-- The result of `fots_moment_parse` without the position.
pub record IsParsedMoment (bytes : List ℕ) (r : MomentResult) : Type 0 where
  pub moment : (m : LocalAndOffset) → IsMomentText bytes m → r ≡ moment_ok m
  pub form : (HasMomentSyntax bytes → ⊥) → (at : ℕ) × (s : ℤ) × StopsAt HasMomentSyntax bytes at s × (r ≡ moment_error s)
  pub component : (why : ComponentRange) → HasMomentError bytes why → r ≡ moment_error (component_status why.component)

-- The same for the bytes between two bounds.
pub record IsParsedMomentRow (bytes : List ℕ) (from to : ℤ) (r : MomentResult) : Type 0 where
  pub bounds : (AreBoundsWithin bytes from to → ⊥) → r ≡ moment_error INVALID_BOUNDS
  pub read : AreBoundsWithin bytes from to → IsParsedMoment (bytes_between bytes from to) r

-- The result of `fots_date_calendar_text`.
pub record IsDateTextRow (date : ℤ) (bytes : List ℕ) (status : ℕ) : Type 0 where
  pub invalid_date : (IsJulianDay date → ⊥) → (bytes ≡ []) × (pos status ≡ INVALID_DATE)
  pub value : IsJulianDay date → (bytes ≡ text (day_of date)) × (pos status ≡ OK)

-- The result of `fots_moment_text`.
pub record IsMomentTextRow (date : ℤ) (time : ℕ) (offset : ℤ) (bytes : List ℕ) (status : ℕ) : Type 0 where
  pub invalid_date : (IsJulianDay date → ⊥) → (bytes ≡ []) × (pos status ≡ INVALID_DATE)
  pub invalid_time : IsJulianDay date → (IsTime time → ⊥) → (bytes ≡ []) × (pos status ≡ INVALID_TIME)
  pub invalid_offset : IsJulianDay date → IsTime time → (IsOffset offset → ⊥) → (bytes ≡ []) × (pos status ≡ INVALID_OFFSET)
  pub result_out_of_range : IsJulianDay date → IsTime time → IsOffset offset → (HasMomentText (moment_of date time offset) → ⊥)
      → (bytes ≡ []) × (pos status ≡ RESULT_OUT_OF_RANGE)
  pub value : IsJulianDay date → IsTime time → IsOffset offset → HasMomentText (moment_of date time offset)
      → (bytes ≡ moment_text (moment_of date time offset)) × (pos status ≡ OK)
