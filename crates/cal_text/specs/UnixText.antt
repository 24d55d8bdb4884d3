-- Unix times in text: an @, a minus sign if the time is negative, the whole seconds, and a
-- fraction.
use Rattle.std.specs.Prelude.{◌≡◌, ℕ, ◌/◌, ◌%◌, ◌≤◌, ◌<◌, ◌^◌, ℤ, pos, negsuc, ◌+ℤ◌, List, [], ◌++◌, codes, length, decimal, unsigned_abs}
use Rattle.cal_time.specs.SignedDuration.{second}
use Rattle.cal_time.specs.declared.error.ComponentRange.{ComponentRange}
use Rattle.cal_datetime.specs.DateTime.{IsDateTime}
use Rattle.cal_datetime.specs.OffsetDateTime.{LocalAndOffset, instant, unix_epoch, unix_nanoseconds}
pub use Rattle.cal_datetime.specs.OffsetDateTime.{timestamp_out_of_range}
use Rattle.cal_text.specs.Rfc3339.{fraction_text}
use Rattle.cal_text.specs.Rfc3339Form.{IsFraction}

-- A minus sign if the number is negative, else nothing.
abbrev pub minus_text : ℤ → List ℕ
minus_text (pos _) = []
minus_text (negsuc _) = codes "-"

-- The text of v nanoseconds.
abbrev pub unix_text : ℤ → List ℕ
unix_text v = codes "@" ++ minus_text v ++ decimal (unsigned_abs v / second) ++ fraction_text (unsigned_abs v % second)

-- The bytes have the form of v nanoseconds: at most 18 digits of seconds, and a fraction that is
-- empty or has at most nine digits.
pub record HasUnixForm (bytes : List ℕ) (v : ℤ) : Type 0 where
  pub seconds : unsigned_abs v / second < 10 ^ 18
  pub fraction : List ℕ
  pub is_fraction : IsFraction fraction (unsigned_abs v % second)
  pub short : length fraction ≤ 10
  pub bytes_are : bytes ≡ codes "@" ++ minus_text v ++ decimal (unsigned_abs v / second) ++ fraction

-- The bytes are s seconds, of at most 18 digits, and n nanoseconds, of at most nine digits.
pub record HasSeconds (bytes : List ℕ) (s n : ℕ) : Type 0 where
  pub seconds : s < 10 ^ 18
  pub fraction : List ℕ
  pub is_fraction : IsFraction fraction n
  pub short : length fraction ≤ 10
  pub bytes_are : bytes ≡ decimal s ++ fraction

-- The bytes are the Unix time of the moment m, which is at UTC.
pub record IsUnixText (bytes : List ℕ) (m : LocalAndOffset) : Type 0 where
  pub in_range : IsDateTime m.local
  pub at_utc : m.offset ≡ pos 0
  pub form : HasUnixForm bytes (unix_nanoseconds (instant m))

-- The error of a Unix time that no moment at UTC has.
abbrev pub IsUnixTimeError : ℤ → ComponentRange → Type 0
IsUnixTimeError v why = (why ≡ timestamp_out_of_range) × ¬ IsDateTime (unix_epoch +ℤ v)
