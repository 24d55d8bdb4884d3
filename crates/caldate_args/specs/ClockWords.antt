-- The words `today` and `now`, and the moment that they mean.
use Rattle.std.specs.Prelude.{◌&&◌, ◌==◌, ◌%◌, Bool, ℤ, pos, int_le, nat_lt, unsigned_abs, List, ℕ, Option, Some, None, if◌then◌else◌}
use Rattle.cal_time.specs.Date.{year_at}
use Rattle.cal_datetime.specs.DateTime.{clamped_date_time, date_at}
use Rattle.cal_datetime.specs.OffsetDateTime.{LocalAndOffset, instant, local_at, unix_nanoseconds, unix_seconds}
use Rattle.cal_text.specs.Rfc3339.{moment_text}
use Rattle.cal_text.specs.UnixText.{unix_text}
use Rattle.cal_zone.specs.Timeline.{Timeline, offset_at}

-- The moment at z of UTC, at the offset that a zone has then, or at UTC. A local date-time past the
-- range is clamped to it.
abbrev pub moment_in : Option Timeline → ℤ → LocalAndOffset
moment_in None z = record { local = z; offset = pos 0 }
moment_in (Some zone) z =
    record { local = clamped_date_time (local_at z (offset_at zone (unix_seconds z))); offset = offset_at zone (unix_seconds z) }

-- RFC 3339 has the years from 0 to 9999, and offsets of whole minutes below a day.
abbrev pub has_rfc3339_text : LocalAndOffset → Bool
has_rfc3339_text m =
    int_le (pos 0) (year_at (date_at m.local)) && (int_le (year_at (date_at m.local)) (pos 9999)
    && ((unsigned_abs m.offset % 60 == 0) && nat_lt (unsigned_abs m.offset) 86400))

-- The string of a moment: in RFC 3339, or if that has none, its Unix time.
abbrev pub rfc3339_or_unix_text : LocalAndOffset → List ℕ
rfc3339_or_unix_text m = if has_rfc3339_text m then moment_text m else unix_text (unix_nanoseconds (instant m))
