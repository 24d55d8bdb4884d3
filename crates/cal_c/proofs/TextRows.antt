-- The result of parsing a text in a row of columns.
use Rattle.std.proofs.Common.{◌≡◌, ℕ, ℤ, pos, List, inl, inr, ap, sym, subst, ◌∙◌, arith, FitsSigned, w32, to_z, of_z}
use Rattle.std.proofs.lemmas.Int.{ints, to_z-of_z}
use Rattle.cal_datetime.specs.OffsetDateTime.{LocalAndOffset}
use Rattle.cal_time.specs.Date.{julian_day_at}
use Rattle.cal_time.specs.declared.error.Component.{Component}
use Rattle.cal_time.specs.declared.error.Component.TheVariants.{Year, Month, JulianDay, Hour, Minute, Second, Millisecond, Microsecond, Nanosecond, OffsetHour, OffsetMinute, OffsetSecond, Seconds, Timestamp, Day, Ordinal, Week, Weekday}
use Rattle.cal_c.specs.Columns.{IsByte, date_row}
use Rattle.cal_c.specs.Moments.{moment_ok, moment_error}
use Rattle.cal_c.specs.Results.{date_ok, date_error, no_value}
use Rattle.cal_c.specs.declared.status.TheConstants.{OK}
use Rattle.cal_c.specs.Statuses.{component_status}
use Rattle.cal_c.specs.TextColumns.{moment_row}
use Rattle.cal_c.specs.Texts.{IsSyntaxError, StopsAt, no_position, parsed_date_ok, parsed_date_error, parsed_date_error_at, parsed_moment_ok, parsed_moment_error, parsed_moment_error_at}
use Rattle.cal_c.specs.declared.texts.ParseDateResult.{ParseDateResult}
use Rattle.cal_c.specs.declared.texts.ParseMomentResult.{ParseMomentResult}

-- the byte is the status
abbrev pub IsByteOf : ℕ → ℤ → Type 0
IsByteOf b s = IsByte s → pos b ≡ s

pub a_byte : (b : ℕ) (s t : ℤ) → IsByteOf b s → s ≡ t → IsByte t → pos b ≡ t
a_byte b s t byte e is = byte (subst IsByte (sym e) is) ∙ e

pub is_byte : (c : Component) → IsByte (component_status c)
is_byte Year = (omega (arith, ints), omega (arith, ints))
is_byte Month = (omega (arith, ints), omega (arith, ints))
is_byte JulianDay = (omega (arith, ints), omega (arith, ints))
is_byte Hour = (omega (arith, ints), omega (arith, ints))
is_byte Minute = (omega (arith, ints), omega (arith, ints))
is_byte Second = (omega (arith, ints), omega (arith, ints))
is_byte Millisecond = (omega (arith, ints), omega (arith, ints))
is_byte Microsecond = (omega (arith, ints), omega (arith, ints))
is_byte Nanosecond = (omega (arith, ints), omega (arith, ints))
is_byte OffsetHour = (omega (arith, ints), omega (arith, ints))
is_byte OffsetMinute = (omega (arith, ints), omega (arith, ints))
is_byte OffsetSecond = (omega (arith, ints), omega (arith, ints))
is_byte Seconds = (omega (arith, ints), omega (arith, ints))
is_byte Timestamp = (omega (arith, ints), omega (arith, ints))
is_byte Day = (omega (arith, ints), omega (arith, ints))
is_byte Ordinal = (omega (arith, ints), omega (arith, ints))
is_byte Week = (omega (arith, ints), omega (arith, ints))
is_byte Weekday = (omega (arith, ints), omega (arith, ints))

pub stop_byte : (IsText : List ℕ → Type 0) (bytes : List ℕ) (at : ℕ) (s : ℤ) → StopsAt IsText bytes at s → IsByte s
stop_byte IsText bytes at s stop = elim stop.status as (λ _. IsByte s) [
  | inl byte ↦ rw byte.0 (omega (arith, ints), omega (arith, ints))
  | inr end ↦ rw end.0 (omega (arith, ints), omega (arith, ints))
]

-- ---- dates
date-row : (r : ParseDateResult) (b : ℕ) (s d : ℤ) → FitsSigned w32 r.date → IsByteOf b r.status → IsByte s → r.status ≡ s → r.date ≡ d
    → date_row (to_z w32 (of_z w32 r.date)) b ≡ record { status = s; date = d }
date-row r b s d fits byte is es ed =
    ap (λ x. date_row x b) (to_z-of_z w32 r.date fits ∙ ed) ∙ ap (λ x. record { status = x; date = d }) (a_byte b r.status s byte es is)

pub date_of_done : (r : ParseDateResult) (b n : ℕ) → FitsSigned w32 r.date → IsByteOf b r.status → r ≡ parsed_date_ok n
    → date_row (to_z w32 (of_z w32 r.date)) b ≡ date_ok (julian_day_at n)
date_of_done r b n fits byte e =
    date-row r b OK (julian_day_at n) fits byte (omega (arith, ints), omega (arith, ints)) (ap (λ x. x.status) e) (ap (λ x. x.date) e)

pub date_of_refused_at : (r : ParseDateResult) (b : ℕ) (s : ℤ) (at : ℕ) → FitsSigned w32 r.date → IsByteOf b r.status → IsByte s → r ≡ parsed_date_error_at s at
    → date_row (to_z w32 (of_z w32 r.date)) b ≡ date_error s
date_of_refused_at r b s at fits byte is e = date-row r b s no_value fits byte is (ap (λ x. x.status) e) (ap (λ x. x.date) e)

pub date_of_refused : (r : ParseDateResult) (b : ℕ) (s : ℤ) → FitsSigned w32 r.date → IsByteOf b r.status → IsByte s → r ≡ parsed_date_error s
    → date_row (to_z w32 (of_z w32 r.date)) b ≡ date_error s
date_of_refused r b s fits byte is e = date_of_refused_at r b s no_position fits byte is e

pub date_of_unreadable : (IsText : List ℕ → Type 0) (bytes : List ℕ) (r : ParseDateResult) (b : ℕ) → FitsSigned w32 r.date → IsByteOf b r.status
    → IsSyntaxError IsText bytes parsed_date_error_at r → (at : ℕ) × (s : ℤ) × StopsAt IsText bytes at s × (date_row (to_z w32 (of_z w32 r.date)) b ≡ date_error s)
date_of_unreadable IsText bytes r b fits byte its =
    (its.0, its.1, its.2, date-row r b its.1 no_value fits byte (stop_byte IsText bytes its.0 its.1 its.2) (ap (λ x. x.status) its.3) (ap (λ x. x.date) its.3))

-- ---- moments
moment-row : (r : ParseMomentResult) (b : ℕ) (s d : ℤ) (t : ℕ) (o : ℤ) → FitsSigned w32 r.date → FitsSigned w32 r.offset → IsByteOf b r.status → IsByte s
    → r.status ≡ s → r.date ≡ d → r.time ≡ t → r.offset ≡ o
    → moment_row (to_z w32 (of_z w32 r.date)) r.time (to_z w32 (of_z w32 r.offset)) b ≡ record { status = s; unused = 0; moment = record { date = d; offset = o; time = t } }
moment-row r b s d t o fits fits_o byte is es ed et eo =
    ap (λ x. moment_row x r.time (to_z w32 (of_z w32 r.offset)) b) (to_z-of_z w32 r.date fits ∙ ed)
    ∙ ap (λ x. moment_row d x (to_z w32 (of_z w32 r.offset)) b) et
    ∙ ap (λ x. moment_row d t x b) (to_z-of_z w32 r.offset fits_o ∙ eo)
    ∙ ap (λ x. record { status = x; unused = 0; moment = record { date = d; offset = o; time = t } }) (a_byte b r.status s byte es is)

pub moment_of_done : (r : ParseMomentResult) (b : ℕ) (m : LocalAndOffset) → FitsSigned w32 r.date → FitsSigned w32 r.offset → IsByteOf b r.status → r ≡ parsed_moment_ok m
    → moment_row (to_z w32 (of_z w32 r.date)) r.time (to_z w32 (of_z w32 r.offset)) b ≡ moment_ok m
moment_of_done r b m fits fits_o byte e =
    moment-row r b OK _ _ _ fits fits_o byte (omega (arith, ints), omega (arith, ints)) (ap (λ x. x.status) e) (ap (λ x. x.date) e) (ap (λ x. x.time) e) (ap (λ x. x.offset) e)

pub moment_of_refused : (r : ParseMomentResult) (b : ℕ) (s : ℤ) → FitsSigned w32 r.date → FitsSigned w32 r.offset → IsByteOf b r.status → IsByte s → r ≡ parsed_moment_error s
    → moment_row (to_z w32 (of_z w32 r.date)) r.time (to_z w32 (of_z w32 r.offset)) b ≡ moment_error s
moment_of_refused r b s fits fits_o byte is e =
    moment-row r b s _ _ _ fits fits_o byte is (ap (λ x. x.status) e) (ap (λ x. x.date) e) (ap (λ x. x.time) e) (ap (λ x. x.offset) e)

pub moment_of_unreadable : (IsText : List ℕ → Type 0) (bytes : List ℕ) (r : ParseMomentResult) (b : ℕ) → FitsSigned w32 r.date → FitsSigned w32 r.offset
    → IsByteOf b r.status → IsSyntaxError IsText bytes parsed_moment_error_at r
    → (at : ℕ) × (s : ℤ) × StopsAt IsText bytes at s × (moment_row (to_z w32 (of_z w32 r.date)) r.time (to_z w32 (of_z w32 r.offset)) b ≡ moment_error s)
moment_of_unreadable IsText bytes r b fits fits_o byte its = (
  its.0,
  its.1,
  its.2,
  moment-row r b its.1 _ _ _ fits fits_o byte (stop_byte IsText bytes its.0 its.1 its.2)
      (ap (λ x. x.status) its.3) (ap (λ x. x.date) its.3) (ap (λ x. x.time) its.3) (ap (λ x. x.offset) its.3),
)
