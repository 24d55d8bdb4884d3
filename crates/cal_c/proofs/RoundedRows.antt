-- The result of a call that rounds, and of one that parses a duration, in a row of columns.
use Rattle.std.proofs.Common.{◌≡◌, ◌∙◌, ℕ, ℤ, List, ap, refl, arith, FitsSigned, w32, to_z, of_z}
use Rattle.std.proofs.lemmas.Int.{ints, to_z-of_z}
use Rattle.std.specs.Prelude.{Option, Some, None}
use Rattle.cal_duration.specs.declared.error.DurationComponent.{DurationComponent}
use Rattle.cal_duration.specs.declared.error.DurationComponent.TheVariants.{Years, Months, Weeks, Days, Hours, Minutes, Seconds}
use Rattle.cal_c.specs.Columns.{IsByte}
use Rattle.cal_c.specs.DurationColumns.{duration_row, pair_row, time_row}
use Rattle.cal_c.specs.DurationTexts.{duration_part_status, parsed_duration_error_at}
use Rattle.cal_c.specs.Results.{duration_error, pair_error, time_error, time_ok}
use Rattle.cal_c.specs.Rounding.{local_or_out_of_range, IsPairRoundedTo, IsTimeRoundedTo}
use Rattle.cal_c.specs.Texts.{IsSyntaxError, StopsAt}
use Rattle.cal_c.specs.Values.{need◌else◌then◌}
use Rattle.cal_c.specs.declared.results.Duration.{Duration}
use Rattle.cal_c.specs.declared.results.DurationResult.{DurationResult}
use Rattle.cal_c.specs.declared.results.PairResult.{PairResult}
use Rattle.cal_c.specs.declared.results.TimeResult.{TimeResult}
use Rattle.cal_c.specs.declared.status.TheConstants.{INVALID_DATE, INVALID_ROUNDING_MODE, INVALID_ROUNDING_UNIT, INVALID_TIME}
use Rattle.cal_c.specs.declared.texts.durations.ParseDurationResult.{ParseDurationResult}
use Rattle.cal_c.proofs.TextRows.{a_byte, stop_byte, IsByteOf}

need_by : {Is A B C D : Type 0} → (A → B) → (C → D) → need Is else A then C → need Is else B then D
need_by f g h = record { error = λ out. f (h.error out); value = λ is. g (h.value is) }

-- ---- times of day
time_same : (r x : TimeResult) (b : ℕ) → IsByteOf b r.status → IsByte x.status → 0 ≡ x.unused → r ≡ x → time_row r.time b ≡ x
time_same r x b byte is zero e =
    let status = a_byte b r.status x.status byte (ap (λ y. y.status) e) is in
    let time = ap (λ y. y.time) e in
    λ i. record { status = status i; unused = zero i; time = time i }

pub time_rounded : (time : ℕ) (unit : Duration) (mode : ℕ) (r : TimeResult) (b : ℕ) → IsByteOf b r.status → IsTimeRoundedTo time unit mode r → IsTimeRoundedTo time unit mode (time_row r.time b)
time_rounded time unit mode r b byte h =
    need_by (time_same r (time_error INVALID_TIME) b byte (omega (arith, ints), omega (arith, ints)) refl)
    (need_by (time_same r (time_error INVALID_ROUNDING_UNIT) b byte (omega (arith, ints), omega (arith, ints)) refl)
    (need_by (time_same r (time_error INVALID_ROUNDING_MODE) b byte (omega (arith, ints), omega (arith, ints)) refl)
    (λ found. (found.0, found.1, (found.2.0, found.2.1, time_same r (time_ok found.2.0) b byte (omega (arith, ints), omega (arith, ints)) refl found.2.2))))) h

-- ---- dates and times of day
pair_same : (r x : PairResult) (b : ℕ) → FitsSigned w32 r.date → IsByteOf b r.status → IsByte x.status → r ≡ x → pair_row (to_z w32 (of_z w32 r.date)) r.time b ≡ x
pair_same r x b fits byte is e =
    let status = a_byte b r.status x.status byte (ap (λ y. y.status) e) is in
    let date = to_z-of_z w32 r.date fits ∙ ap (λ y. y.date) e in
    let time = ap (λ y. y.time) e in
    λ i. record { status = status i; date = date i; time = time i }

local_byte : (its : Option ℤ) → IsByte (local_or_out_of_range its).status
local_byte (Some z) = (omega (arith, ints), omega (arith, ints))
local_byte None = (omega (arith, ints), omega (arith, ints))

pub pair_rounded : (date : ℤ) (time : ℕ) (unit : Duration) (mode : ℕ) (r : PairResult) (b : ℕ) → FitsSigned w32 r.date → IsByteOf b r.status → IsPairRoundedTo date time unit mode r
    → IsPairRoundedTo date time unit mode (pair_row (to_z w32 (of_z w32 r.date)) r.time b)
pair_rounded date time unit mode r b fits byte h =
    need_by (pair_same r (pair_error INVALID_DATE) b fits byte (omega (arith, ints), omega (arith, ints)))
    (need_by (pair_same r (pair_error INVALID_TIME) b fits byte (omega (arith, ints), omega (arith, ints)))
    (need_by (pair_same r (pair_error INVALID_ROUNDING_UNIT) b fits byte (omega (arith, ints), omega (arith, ints)))
    (need_by (pair_same r (pair_error INVALID_ROUNDING_MODE) b fits byte (omega (arith, ints), omega (arith, ints)))
    (λ found. (found.0, found.1, (found.2.0, found.2.1, pair_same r (local_or_out_of_range found.2.0) b fits byte (local_byte found.2.0) found.2.2)))))) h

-- ---- parsed durations
pub part_byte : (c : DurationComponent) → IsByte (duration_part_status c)
part_byte Years = (omega (arith, ints), omega (arith, ints))
part_byte Months = (omega (arith, ints), omega (arith, ints))
part_byte Weeks = (omega (arith, ints), omega (arith, ints))
part_byte Days = (omega (arith, ints), omega (arith, ints))
part_byte Hours = (omega (arith, ints), omega (arith, ints))
part_byte Minutes = (omega (arith, ints), omega (arith, ints))
part_byte Seconds = (omega (arith, ints), omega (arith, ints))

pub duration_same : (r : ParseDurationResult) (d : Duration) (x : DurationResult) (b : ℕ) → d ≡ r.duration → IsByteOf b r.status → IsByte x.status → 0 ≡ x.unused → 0 ≡ x.duration.unused → r.status ≡ x.status
    → r.duration ≡ x.duration → duration_row d.seconds d.nanoseconds b ≡ x
duration_same r d x b from byte is zero last_zero es ed =
    let status = a_byte b r.status x.status byte es is in
    let seconds = ap (λ y. y.seconds) (from ∙ ed) in
    let nanoseconds = ap (λ y. y.nanoseconds) (from ∙ ed) in
    λ i. record { status = status i; unused = zero i; duration = record { seconds = seconds i; nanoseconds = nanoseconds i; unused = last_zero i } }

pub duration_unreadable : (IsText : List ℕ → Type 0) (bytes : List ℕ) (r : ParseDurationResult) (d : Duration) (b : ℕ) → d ≡ r.duration → IsByteOf b r.status
    → IsSyntaxError IsText bytes parsed_duration_error_at r → (at : ℕ) × (s : ℤ) × StopsAt IsText bytes at s × (duration_row d.seconds d.nanoseconds b ≡ duration_error s)
duration_unreadable IsText bytes r d b from byte its =
    (its.0, its.1, its.2, duration_same r d (duration_error its.1) b from byte (stop_byte IsText bytes its.0 its.1 its.2) refl refl (ap (λ y. y.status) its.3) (ap (λ y. y.duration) its.3))
