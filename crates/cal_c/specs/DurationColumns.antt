-- Columns of durations in text, and of rounded times of day and dates.
use Rattle.std.specs.Prelude.{◌≡◌, ℕ, ℤ, pos, List, []}
use Rattle.cal_duration.specs.declared.error.DurationComponent.{DurationComponent}
use Rattle.cal_duration.specs.DurationText.{duration_text}
use Rattle.cal_duration.specs.Form.{HasDurationForm}
use Rattle.cal_duration.specs.Parsing.{HasError}
use Rattle.cal_duration.specs.Values.{IsDurationError, IsDurationText}
use Rattle.cal_text.specs.Position.{HasSome}
use Rattle.cal_c.specs.DurationTexts.{duration_part_status}
use Rattle.cal_c.specs.Results.{duration_error, duration_ok}
use Rattle.cal_c.specs.TextColumns.{bytes_between, AreBoundsWithin}
use Rattle.cal_c.specs.Texts.{StopsAt}
use Rattle.cal_c.specs.Values.{nanoseconds_in, IsDurationPair}
use Rattle.cal_c.specs.declared.results.Duration.{Duration}
use Rattle.cal_c.specs.declared.results.DurationResult.{DurationResult}
use Rattle.cal_c.specs.declared.results.PairResult.{PairResult}
use Rattle.cal_c.specs.declared.results.TimeResult.{TimeResult}
use Rattle.cal_c.specs.declared.status.TheConstants.{OK, INVALID_BOUNDS, INVALID_DURATION}

-- ---- a row of several arrays, which is the result of the single call
abbrev pub time_row : ℕ → ℕ → TimeResult
time_row time status = record { status = pos status; unused = 0; time = time }

abbrev pub pair_row : ℤ → ℕ → ℕ → PairResult
pair_row date time status = record { status = pos status; date = date; time = time }

abbrev pub duration_row : ℤ → ℤ → ℕ → DurationResult
duration_row seconds nanoseconds status = record { status = pos status; unused = 0; duration = record { seconds = seconds; nanoseconds = nanoseconds; unused = 0 } }

-- The result of `fots_duration_parse` without the position.
pub record IsParsedDuration (bytes : List ℕ) (r : DurationResult) : Type 0 where
  pub duration : (v : ℤ) → IsDurationText bytes v → r ≡ duration_ok v
  pub form : (HasSome HasDurationForm bytes → ⊥) → (at : ℕ) × (s : ℤ) × StopsAt (HasSome HasDurationForm) bytes at s × (r ≡ duration_error s)
  pub component : (why : DurationComponent) → HasError HasDurationForm IsDurationError bytes why → r ≡ duration_error (duration_part_status why)

-- The same for the bytes between two bounds.
pub record IsParsedDurationRow (bytes : List ℕ) (from to : ℤ) (r : DurationResult) : Type 0 where
  pub bounds : (AreBoundsWithin bytes from to → ⊥) → r ≡ duration_error INVALID_BOUNDS
  pub read : AreBoundsWithin bytes from to → IsParsedDuration (bytes_between bytes from to) r

-- The result of `fots_duration_text`.
pub record IsDurationTextRow (d : Duration) (bytes : List ℕ) (status : ℕ) : Type 0 where
  pub invalid_duration : (IsDurationPair d → ⊥) → (bytes ≡ []) × (pos status ≡ INVALID_DURATION)
  pub value : IsDurationPair d → (bytes ≡ duration_text (nanoseconds_in d)) × (pos status ≡ OK)

-- The duration of a row.
abbrev pub duration_at : ℤ → ℤ → Duration
duration_at seconds nanoseconds = record { seconds = seconds; nanoseconds = nanoseconds; unused = 0 }
